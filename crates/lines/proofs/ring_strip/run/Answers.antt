use Rattle.std.proofs.Common.{ℕ, List, [], ◌∷◌, ◌∙◌, arith}
use Rattle.rings.specs.Views.{inner_at, ring_of_view}
use Rattle.lines.proofs.Runs.{up_more}
use Rattle.lines.proofs.ring_strip.run.Goals as goal

pub loop-i-preserved : goal.loop-i-preserved
loop-i-preserved c =
    let F : ℕ → List ℕ = λ j. inner_at c.args.side (ring_of_view c.args.view.now) j ∷ [] in
    let e = c.loop-i.invariant.items in
    let f = c.inner.ensures in
    record {
      items = up_more c.args.strip.now.items c.push.new.self.items c.loop-i.i F (c.push.ensures.items ∙ (cc));
      len = omega (arith, c.loop-i.invariant.len, c.push.ensures.len);
    }
