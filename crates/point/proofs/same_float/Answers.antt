use Rattle.std.proofs.Common.{◌≡◌, Bool, true, T, sym, ap, ◌∙◌, subst, eqb-true}
use lib.Ieee.{binary32, fits, of_bits}
use lib.Ieee.Bits.{of_bits-to_bits}
use Rattle.point.proofs.same_float.Goals as goal

so : (b : Bool) → b ≡ true → T b
so b e = subst T (sym e) tt

pub returns-clause-sound : goal.returns-clause-sound
returns-clause-sound c e =
    let p = c.f32_to_bits_with_nan in
    let q = c.f32_to_bits_with_nan-2 in
    sym (of_bits-to_bits binary32 c.args.a (so (fits binary32 c.args.a) c.well_formed.0.1))
    ∙ ap (of_bits binary32) (sym p.ensures ∙ eqb-true p.result q.result e ∙ q.ensures)
    ∙ of_bits-to_bits binary32 c.args.b (so (fits binary32 c.args.b) c.well_formed.1.0.1)
