use Rattle.std.proofs.Common.{◌≡◌, ℕ, ◌+◌, subst, arith}
use Rattle.growing.specs.Stepping.{Moves}
use Rattle.growing.proofs.Moving.{moves_ready, moves_more}
use Rattle.growing.proofs.steps.steps.Goals as goal

pub step-free-requires : goal.step-free-requires
step-free-requires c =
    let d = c.requires.0 in
    let m = c.requires.1 in
    let r = c.requires.2 in (
      d,
      m + c.loop.counter,
      moves_ready c.args.rings.now c.args.at d m c.args.count c.args.contents.now c.args.next r c.loop.counter c.loop.rings
          c.loop.contents c.loop.free c.loop-test.true (c.loop.invariant d m r),
    )

pub loop-preserved : goal.loop-preserved
loop-preserved c d m r =
    moves_more c.args.rings.now c.args.at d m c.args.count c.args.contents.now c.args.next r c.loop.counter c.loop.rings
    c.loop.contents c.loop.free c.step-free.new.rings c.step-free.new.contents c.step-free.result c.loop-test.true
    (c.loop.invariant d m r) c.step-free.ensures

pub returns : goal.returns
returns c d m r =
    let e : c.loop.counter ≡ c.args.count = omega arith in
    subst
    (λ (k : ℕ). Moves c.args.rings.now c.args.at d m k c.args.contents.now c.args.next c.loop.rings c.loop.contents c.loop.free) e
    (c.loop.invariant d m r)
