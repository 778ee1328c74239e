use Rattle.std.proofs.Common.{◌<◌, length, arith, Ok, sym, refl, ap, [], ◌∷◌, rules}
use Rattle.mesh.specs.Sinks.{Broken}
use Rattle.strips.specs.Starts.{start_sink}
use Rattle.strips.proofs.Accepting.{after_filling}
use Rattle.strips.proofs.Starts.{start_break, start_takes}
use Rattle.strips.proofs.Refusing.{not_both}
use Rattle.strips.proofs.start_taking.StartSinkSink.end_strip.Goals as goal

pub returns : goal.returns
returns c =
    let s = c.args.self.now.numbers in
    let e = c.args.self.now.starts in
    let h : e.used < length e.places.now = search rules in
    record {
      answers = sym (start_takes s.used s.places.now e.used e.places.now 0 1 (omega arith) (omega arith));
      accepted = λ _.
          after_filling (λ n l. Broken (start_sink s.used s.places.now e.used e.places.now) (start_sink s.used s.places.now n l)) c.push.ensures
          (start_break s.used s.places.now e.used e.places.now h);
      refused = λ f q. absurd (not_both (Ok tt) tt f refl q);
      holds = ap (λ n. s.places.ghost_name ∷ n ∷ []) c.push.ensures.same;
    }
