use Rattle.std.proofs.Common.{◌≡◌, ℕ, ◌<◌, ◌≤◌, true, length, get_or, sym, refl, ap, subst, rules}
use Rattle.rings.specs.declared.slice.Slice.{Slice}
use Rattle.rings.specs.Slices.{read}
use Rattle.shape.specs.Listing.{listable}
use Rattle.calculating.specs.ViewWrites.{slice_writes}
use Rattle.calculating.proofs.Runs.{renamed, can_list, listed}
use Rattle.calculating.proofs.calculation.Calculation.put_edge.Goals as goal
use Rattle.calculating.proofs.calculation.Calculation.put_edge.Goals.{In-Forward}

can_be_listed : (g : _) (c : In-Forward g) → listable c.in-Forward.vertices.now (length c.args.self.now.points.now) ≡ true
can_be_listed g c =
    let n = length c.args.self.now.points.now in
    can_list c.in-Forward.vertices.now n (subst (λ (e : Slice). length (read e) ≤ 12) c.in-Forward.is c.requires.few)
    (subst (λ (e : Slice). (i : ℕ) → get_or (read e) i 0 < n) c.in-Forward.is c.requires.within)

pub unwrap-requires : goal.unwrap-requires
unwrap-requires g c =
    let e = can_be_listed g (goal.at.unwrap-requires g c).In-Forward in
    let r = c.interpolate_multiple.ensures.0 in
    search rules

pub returns-in-Forward : goal.returns-in-Forward
returns-in-Forward g c =
    let base = c.args.self.now.base.now in
    let old = c.args.self.now.points.now in
    let between = g.S.BaseShape.between base in
    let half = g.S.BaseShape.half base in
    renamed (ap (λ (e : Slice). slice_writes e c.args.p c.args.q) (sym c.in-Forward.is)) (record {
      points_are =
          listed between half c.in-Forward.vertices.now c.args.p c.args.q old c.interpolate_multiple.new.buffer
          (can_be_listed g (goal.at.returns-in-Forward g c).In-Forward) c.interpolate_multiple.ensures.1;
      as_many = search rules;
      same_base = refl;
      same_points = refl;
    })
