use Rattle.std.proofs.Common.{◌-◌, ◌≤◌, length, sym, subst, arith, rules}
use Rattle.rings.specs.declared.contents.Ring.{Ring}
use Rattle.rings.specs.Held.{ring_at}
use Rattle.rings.specs.Sides.{on_sides, side_len}
use Rattle.growing.specs.RingGrowth.{LongerRing}
use Rattle.growing.proofs.RingSteps.{few_sides, more_moves, more_ready, some_deep, then_read}
use Rattle.growing.proofs.step.+step_step_ring.Goals as goal

pub step_ring-step-after-requires : goal.step_ring-step-after-requires
step_ring-step-after-requires t c =
    let rs = c.args.rings.now in
    let i = c.args.i in
    let d = c.requires.0 in
    let m = c.requires.1 in
    let r = c.requires.2 in
    let h = c.args.next in
    let L = side_len (ring_at rs i) in
    let some : 1 ≤ d = some_deep rs i d m h r in
    (search rules, (d - 1, L, more_ready rs i d m h r))

pub step_ring-lengthen_ring-requires : goal.step_ring-lengthen_ring-requires
step_ring-lengthen_ring-requires t c =
    let rs = c.args.rings.now in
    let d = c.requires.0 in
    let m = c.requires.1 in
    let r = c.requires.2 in
    let e = then_read rs c.step-after.new.rings c.args.i d m c.args.next c.step-after.result c.step-after.new.contents c.step-after.ensures r in
    (subst (λ (g : Ring). length (on_sides g) ≤ 24) (sym e) (few_sides rs c.args.i d m c.args.next r), let f = r.free in omega arith)

pub step_ring-returns : goal.step_ring-returns
step_ring-returns t c d m r =
    let rs = c.args.rings.now in
    let rs1 = c.step-after.new.rings in
    let i = c.args.i in
    let h = c.args.next in
    let after = c.step-after.result in
    let inner = c.step-after.new.contents in
    let e = then_read rs rs1 i d m h after inner c.step-after.ensures r in
    more_moves rs rs1 i d m h after c.lengthen_ring.new.ring inner
    (subst (λ (g : Ring). LongerRing g h c.lengthen_ring.new.ring) e c.lengthen_ring.ensures) c.step-after.ensures r
