use Rattle.std.proofs.Common.{◌≡◌, ◌-◌, ◌++◌, take, ap, ◌∙◌, arith}
use Rattle.std.specs.List.{flat_map}
use Rattle.rings.specs.declared.contents.Side.TheVariants.{Ab}
use Rattle.rings.specs.Views.{ring_of_view}
use Rattle.lines.proofs.LongStrip.{side_run, descent, sides_up, sides_down, side_more, long_strip}
use Rattle.lines.proofs.ring_strip.strip_of_more.Goals as goal

pub loop-side-preserved : goal.loop-side-preserved
loop-side-preserved c = record {
  items =
      side_more (side_run (c.args.m - 2) (ring_of_view c.args.view.now)) sides_up c.loop-side.side-index Ab c.args.strip.now.items c.loop-side.strip.items c.run.new.strip.items
      (omega arith) c.loop-side.invariant.items c.run.ensures.items;
  len = omega (arith, c.loop-side.invariant.len, c.run.ensures.len);
}

pub loop-side-2-preserved : goal.loop-side-2-preserved
loop-side-2-preserved c = record {
  items =
      side_more (descent (c.args.m - 1) (ring_of_view c.args.view.now)) sides_down c.loop-side-2.side-index Ab c.push-2.new.self.items c.loop-side-2.strip.items c.zigzag.new.strip.items
      (omega arith) c.loop-side-2.invariant.items c.zigzag.ensures.items;
  len = omega (arith, c.loop-side-2.invariant.len, c.zigzag.ensures.len);
}

pub returns : goal.returns
returns c =
    let r = ring_of_view c.args.view.now in
    let m = c.args.m in
    let e : c.loop-side.side-index ≡ 3 = omega arith in
    let f : c.loop-side-2.side-index ≡ 3 = omega arith in
    long_strip m r c.args.strip.now.items c.loop-side.strip.items c.push.new.self.items c.push-2.new.self.items c.loop-side-2.strip.items
    c.inner.result c.edge.result (omega arith)
    (c.loop-side.invariant.items ∙ ap (λ i. c.args.strip.now.items ++ flat_map (side_run (m - 2) r) (take i sides_up)) e)
    c.inner.ensures c.edge.ensures c.push.ensures.items c.push-2.ensures.items
    (c.loop-side-2.invariant.items ∙ ap (λ i. c.push-2.new.self.items ++ flat_map (descent (m - 1) r) (take i sides_down)) f)
