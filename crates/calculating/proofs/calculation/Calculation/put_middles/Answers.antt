use Rattle.std.proofs.Common.{◌≡◌, ◌+◌, ◌<◌, ◌++◌, [], ◌∷◌, length, get_or, take, set, sym, refl, ap, ◌∙◌, arith, length-set}
use Rattle.std.proofs.lemmas.List.{take_more, map-append}
use Rattle.points.specs.Calculating.{middle}
use Rattle.calculating.specs.Calculating.{Within, middle_writes}
use Rattle.calculating.proofs.Runs.{then, renamed, at_place}
use Rattle.calculating.proofs.calculation.Calculation.put_middles.Goals as goal

pub bounds-self-x : goal.bounds-self-x
bounds-self-x g c =
    let n = length c.args.self.now.points.now in
    let h = at_place (Within n) c.args.middles.now c.loop-x.x-index (0, 0, 0) (omega arith) c.requires in
    omega (arith, h.0, c.loop-x.invariant.as_many)

pub loop-x-preserved : goal.loop-x-preserved
loop-x-preserved g c =
    let l = c.loop-x in
    let ms = c.args.middles.now in
    let h : l.x-index < length ms = omega arith in
    let m = get_or ms l.x-index (0, 0, 0) in
    let e : middle_writes (take l.x-index ms) ++ middle_writes (m ∷ []) ≡ middle_writes (take (l.x-index + 1) ms)
    = sym (map-append (λ m. middle m.0 m.1 m.2) (take l.x-index ms) (m ∷ [])) ∙ sym (ap middle_writes (take_more ms l.x-index (0, 0, 0) h)) in
    renamed e
    (then l.invariant (record {
      points_are = ap (set l.self.points.now m.0) c.interpolate_half.ensures;
      as_many = length-set l.self.points.now m.0 c.interpolate_half.result;
      same_base = refl;
      same_points = refl;
    }))
