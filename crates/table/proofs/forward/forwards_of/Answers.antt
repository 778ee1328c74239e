use Rattle.std.proofs.Common.{◌≡◌, ◌+◌, ◌<◌, [], ◌∷◌, ◌++◌, length, take, vec_items, sym, ap, ◌∙◌, subst, ap₂, arith, rules}
use Rattle.std.proofs.lemmas.List.{take_more}
use Rattle.shape.specs.declared.triangle.Triangle.{Triangle}
use Rattle.table.specs.Forwards.{Has, Tells, forwards, forward_of, triangle_at, no_triangle}
use Rattle.table.proofs.Readings.{seen_by, seen_more, forwards_more}
use Rattle.table.proofs.forward.forwards_of.Goals as goal

pub loop-t-preserved : goal.loop-t-preserved
loop-t-preserved c =
    let ts = c.args.triangles.now in
    let i = c.loop-t.t-index in
    let h : i < length ts = omega arith in
    let t : Triangle = triangle_at ts i in
    let more : take (i + 1) ts ≡ take i ts ++ (t ∷ []) = take_more ts i no_triangle h in
    let seen = seen_by (take i ts) in
    let tells : Tells c.loop-t.seen t c.in_ok-forward_of.field-0 c.forward_of.new.seen = search rules in
    let told = tells seen c.loop-t.invariant.0 in
    let edges : seen_by (take (i + 1) ts) ≡ t.ca ∷ t.bc ∷ t.ab ∷ seen = ap seen_by more ∙ seen_more [] (take i ts) t in
    let list : forwards (take (i + 1) ts) ≡ forwards (take i ts) ++ (forward_of seen t ∷ []) = ap forwards more ∙ forwards_more [] (take i ts) t in
    let pushed : vec_items c.push.new.self ≡ vec_items c.loop-t.list ++ (c.in_ok-forward_of.field-0 ∷ []) = search rules in (
      subst (Has c.forward_of.new.seen) (sym edges) told.1,
      pushed ∙ ap₂ (λ l x. l ++ (x ∷ [])) c.loop-t.invariant.1 told.0 ∙ sym list,
    )
