use Rattle.std.proofs.Common.{◌≡◌, ℕ, suc, ◌+◌, ◌-◌, ◌<◌, ◌≤◌, T, List, [], ◌∷◌, length, get_or, sym, ap, ◌∙◌, subst, arith}
use Rattle.std.proofs.lemmas.List.{drop_all, drop_more}
use Rattle.mesh.specs.Sinks.{Sink, Writes, nothing, a_number, a_break}
use Rattle.mesh.specs.Strips.{offset_by}
use Rattle.strips.specs.Taking.{taken_or_full}
use Rattle.strips.specs.Writing.{too_large_or}
use Rattle.strips.proofs.Refusing.{not_both}
use Rattle.strips.proofs.Fitting.{none_too_large, push_taken, break_taken}
use Rattle.strips.proofs.writing.write_strip.Goals as goal

pub overflow_add-number : goal.overflow_add-number
overflow_add-number g c =
    let xs = c.args.numbers.now in
    let i = c.loop-number.number-index in
    let h : i < length xs = omega arith in
    let k = none_too_large c.args.offset xs i h (sym c.in_default.ensures) in
    omega arith

pub returns-in_err-push : goal.returns-in_err-push
returns-in_err-push g c =
    let xs = c.args.numbers.now in
    let i = c.loop-number.number-index in
    let o = c.args.offset in
    let h : i < length xs = omega arith in
    let k = none_too_large o xs i h (sym c.in_default.ensures) in
    let p : 0 < length xs - i = omega arith in
    let ok = c.push.ensures.answers ∙ push_taken (g.K.Sink.meaning c.loop-number.sink) (get_or xs i 0 + o) (length xs - i) k p c.loop-number.invariant.1 in
    absurd (not_both c.push.result tt c.in_err-push.field-0.0 ok c.in_err-push.was)

pub loop-number-preserved : goal.loop-number-preserved
loop-number-preserved g c =
    let xs = c.args.numbers.now in
    let i = c.loop-number.number-index in
    let o = c.args.offset in
    let s : Sink = g.K.Sink.meaning c.loop-number.sink in
    let h : i < length xs = omega arith in
    let n : length xs - i ≡ suc (length xs - (i + 1)) = omega arith in
    let u = c.push.ensures.accepted c.in_ok-push.was in (
      λ t w. c.loop-number.invariant.0 t (subst (λ (l : List ℕ). Writes (offset_by o (l ∷ [])) s t) (sym (drop_more xs i 0 h)) (a_number u w)),
      u.takes_still (length xs - (i + 1)) 1 (subst (λ (m : ℕ). T (s.takes m 1)) n c.loop-number.invariant.1),
      c.push.ensures.holds ∙ c.loop-number.invariant.2,
    )

pub returns : goal.returns
returns g c =
    let xs = c.args.numbers.now in
    let i = c.loop-number.number-index in
    let o = c.args.offset in
    let first : Sink = g.K.Sink.meaning c.args.sink.now in
    let s : Sink = g.K.Sink.meaning c.loop-number.sink in
    let t : Sink = g.K.Sink.meaning c.end_strip.new.self in
    let h : length xs ≤ i = omega arith in
    let ok = c.end_strip.ensures.answers ∙ break_taken s (length xs - i) c.loop-number.invariant.1 in
    record {
      answers =
          ok
          ∙ sym c.in_ok-check_room.was ∙ c.check_room.ensures
          ∙ ap (λ r. too_large_or r (taken_or_full first (length xs) 1)) c.in_default.ensures;
      accepted = λ q. c.loop-number.invariant.0 t (subst (λ (l : List ℕ). Writes (offset_by o (l ∷ [])) s t) (sym (drop_all i xs h)) (a_break (c.end_strip.ensures.accepted q) nothing));
      refused = λ e q. absurd (not_both c.end_strip.result tt e ok q);
      holds = c.end_strip.ensures.holds ∙ c.loop-number.invariant.2;
    }
