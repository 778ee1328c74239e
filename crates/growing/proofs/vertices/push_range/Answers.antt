use Rattle.std.proofs.Common.{◌≡◌, ◌+◌, ◌-◌, ◌∷◌, [], ◌++◌, length, ap, ◌∙◌, arith, rules, append_assoc, length-append}
use Rattle.pattern.specs.Step.{range}
use Rattle.rings.specs.Rows.{row_vertices}
use Rattle.growing.proofs.Lengthening.{length-range, range-push}
use Rattle.growing.proofs.vertices.push_range.Goals as goal

pub push-requires : goal.push-requires
push-requires g c =
    let old = row_vertices c.args.list.now in
    let pushed = range c.args.next (c.loop-vertex.vertex - c.args.next) in
    let e : length (row_vertices c.loop-vertex.list) ≡ length old + length pushed = ap length c.loop-vertex.invariant ∙ length-append old pushed in
    (search rules, omega (arith, e, length-range c.args.next (c.loop-vertex.vertex - c.args.next)))

pub loop-vertex-preserved : goal.loop-vertex-preserved
loop-vertex-preserved g c =
    let old = row_vertices c.args.list.now in
    let v = c.loop-vertex.vertex in
    let h = c.args.next in
    c.push.ensures.items ∙ ap (λ l. l ++ (v ∷ [])) c.loop-vertex.invariant ∙ append_assoc old (range h (v - h)) (v ∷ [])
    ∙ ap (λ l. old ++ l) (range-push h (v - h) v (v + 1 - h) (omega arith) (omega arith))
