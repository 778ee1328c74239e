use Rattle.std.proofs.Common.{◌<◌, length, Ok, sym, refl, ap, ◌∙◌, [], ◌∷◌, rules}
use Rattle.mesh.specs.Sinks.{Pushed}
use Rattle.strips.specs.Marks.{mark_sink}
use Rattle.strips.proofs.Accepting.{no_mark, push_passes, after_filling}
use Rattle.strips.proofs.Marks.{mark_push, mark_takes}
use Rattle.strips.proofs.Refusing.{not_both}
use Rattle.strips.proofs.mark_taking.MarkSinkSink.push.Goals as goal

pub returns : goal.returns
returns c =
    let s = c.args.self.now.strips in
    let x = c.args.number in
    let h : s.used < length s.places.now = search rules in
    let q = sym c.check_number.ensures ∙ c.in_ok-check_number.was in
    record {
      answers = sym (push_passes x _ q (mark_sink s.used s.places.now) tt (mark_takes s.used s.places.now 1 0 refl h));
      accepted = λ _. after_filling (λ n l. Pushed x (mark_sink s.used s.places.now) (mark_sink n l)) c.push.ensures (mark_push s.used s.places.now x h (no_mark x _ q));
      refused = λ f q. absurd (not_both (Ok tt) tt f refl q);
      holds = ap (λ n. n ∷ []) c.push.ensures.same;
    }
