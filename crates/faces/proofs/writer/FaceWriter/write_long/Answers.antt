use Rattle.std.proofs.Common.{◌≡◌, ◌-◌, ◌≤◌, length, ap, arith}
use Rattle.pattern.specs.Ring.{pairs}
use Rattle.rings.specs.Views.{ring_of_view}
use Rattle.faces.proofs.Long.{up_more, long}
use Rattle.faces.proofs.Writing.{glue, renamed, long_buffer}
use Rattle.faces.proofs.writer.FaceWriter.write_long.Goals as goal

pub loop-i-preserved : goal.loop-i-preserved
loop-i-preserved c = record {
  writes =
      renamed (up_more c.loop-i.i (λ j. pairs j (ring_of_view c.args.view.now)))
      (glue c.loop-i.invariant.writes (renamed c.pairs.ensures c.write-in-loop-i.ensures));
  at = omega (arith, ap length c.pairs.ensures, c.write-in-loop-i.ensures.wrote.next_is, c.loop-i.invariant.at);
}

pub write-requires-3 : goal.write-requires-3
write-requires-3 c =
    let a = long_buffer c.write.ensures in
    let b = long_buffer c.write-2.ensures in
    let d = long_buffer c.loop-i.invariant.writes in
    omega (arith, ap length c.tips.ensures, ap length c.heels.ensures, ap length c.ends.ensures, c.write.ensures.wrote.next_is, c.write-2.ensures.wrote.next_is, c.loop-i.invariant.at)

pub returns : goal.returns
returns c =
    let e : c.loop-i.i ≡ c.args.m - 2 = omega arith in
    let h : 3 ≤ c.args.m = omega arith in
    renamed (long c.args.m c.loop-i.i (ring_of_view c.args.view.now) h e)
    (glue (renamed c.tips.ensures c.write.ensures) (glue (renamed c.heels.ensures c.write-2.ensures) (glue c.loop-i.invariant.writes (renamed c.ends.ensures c.write-3.ensures))))
