use Rattle.std.proofs.Common.{◌≡◌, ◌<◌, length, arith}
use Rattle.growing.proofs.InTurn.{stepped_ready, stepped_more, stepped_all}
use Rattle.growing.proofs.steps.step_all.Goals as goal

pub steps-free-requires : goal.steps-free-requires
steps-free-requires c =
    let m = c.requires.ready.0 in
    let r = c.requires.ready.1 in
    let p : c.loop-i.i < length c.args.contents.now = omega arith in (
      3,
      m,
      stepped_ready c.args.rings.now m c.args.count c.args.contents.now c.args.next c.loop-i.i c.loop-i.rings c.loop-i.contents
          c.loop-i.free r (c.loop-i.invariant m r) p c.requires.few.0 c.requires.few.1,
    )

pub loop-i-preserved : goal.loop-i-preserved
loop-i-preserved c m r =
    let p : c.loop-i.i < length c.args.contents.now = omega arith in
    stepped_more c.args.rings.now m c.args.count c.args.contents.now c.args.next c.loop-i.i c.loop-i.rings c.loop-i.contents
    c.loop-i.free r (c.loop-i.invariant m r) c.steps-free.new.rings c.steps-free.new.contents c.steps-free.result p c.requires.few.0 c.requires.few.1
    c.steps-free.ensures

pub returns : goal.returns
returns c m r =
    let e : c.loop-i.i ≡ length c.args.contents.now = omega arith in
    stepped_all c.args.rings.now m c.args.count c.args.contents.now c.args.next c.loop-i.i c.loop-i.rings c.loop-i.contents
    c.loop-i.free r (c.loop-i.invariant m r) e
