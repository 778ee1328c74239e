use Rattle.std.proofs.Common.{◌≡◌, ℕ, ◌+◌, ◌-◌, [], ◌∷◌, ◌++◌, ap, ◌∙◌, ap₂, append_assoc, arith}
use Rattle.rings.specs.Views.{edge_at, inner_at, ring_of_view}
use Rattle.lines.proofs.Runs.{down_more}
use Rattle.lines.proofs.ring_strip.zigzag.Goals as goal

pub loop-i-preserved : goal.loop-i-preserved
loop-i-preserved c =
    let i = c.loop-i.i in
    let u : ℕ → ℕ = edge_at c.args.side (ring_of_view c.args.view.now) in
    let v : ℕ → ℕ = inner_at c.args.side (ring_of_view c.args.view.now) in
    let s = c.loop-i.strip.items in
    let k : i - 1 + 1 ≡ i = omega arith in
    let e : c.edge.result ≡ u i = c.edge.ensures ∙ ap u k in
    let two : c.push-in-loop-i.new.self.items ≡ s ++ (u i ∷ v (i - 1) ∷ [])
    = c.push-in-loop-i.ensures.items ∙ ap₂ (λ l y. l ++ (y ∷ [])) (c.push.ensures.items ∙ ap (λ x. s ++ (x ∷ [])) e) c.inner.ensures
    ∙ append_assoc s (u i ∷ []) (v (i - 1) ∷ []) in
    record {
      items = down_more s c.push-in-loop-i.new.self.items i (λ j. u j ∷ v (j - 1) ∷ []) (omega arith) two ∙ c.loop-i.invariant.items;
      len = omega (arith, c.loop-i.invariant.len, c.push.ensures.len, c.push-in-loop-i.ensures.len);
    }
