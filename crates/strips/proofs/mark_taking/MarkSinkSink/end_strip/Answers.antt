use Rattle.std.proofs.Common.{◌<◌, length, Ok, sym, refl, ap, [], ◌∷◌, rules}
use Rattle.mesh.specs.Sinks.{Broken}
use Rattle.strips.specs.Marks.{mark_sink}
use Rattle.strips.proofs.Accepting.{after_filling}
use Rattle.strips.proofs.Marks.{mark_break, mark_takes}
use Rattle.strips.proofs.Refusing.{not_both}
use Rattle.strips.proofs.mark_taking.MarkSinkSink.end_strip.Goals as goal

pub returns : goal.returns
returns c =
    let s = c.args.self.now.strips in
    let h : s.used < length s.places.now = search rules in
    record {
      answers = sym (mark_takes s.used s.places.now 0 1 refl h);
      accepted = λ _. after_filling (λ n l. Broken (mark_sink s.used s.places.now) (mark_sink n l)) c.push.ensures (mark_break s.used s.places.now h);
      refused = λ f q. absurd (not_both (Ok tt) tt f refl q);
      holds = ap (λ n. n ∷ []) c.push.ensures.same;
    }
