use Rattle.std.proofs.Common.{◌<◌, length, arith, Ok, sym, refl, ap, ◌∙◌, [], ◌∷◌, rules}
use Rattle.mesh.specs.Sinks.{Pushed}
use Rattle.strips.specs.Starts.{start_sink}
use Rattle.strips.proofs.Accepting.{push_passes, after_filling}
use Rattle.strips.proofs.Starts.{start_push, start_takes}
use Rattle.strips.proofs.Refusing.{not_both}
use Rattle.strips.proofs.start_taking.StartSinkSink.push.Goals as goal

pub returns : goal.returns
returns c =
    let s = c.args.self.now.numbers in
    let e = c.args.self.now.starts in
    let x = c.args.number in
    let h : s.used < length s.places.now = search rules in
    let q = sym c.check_number.ensures ∙ c.in_ok-check_number.was in
    record {
      answers = sym (push_passes x _ q (start_sink s.used s.places.now e.used e.places.now) tt (start_takes s.used s.places.now e.used e.places.now 1 0 (omega arith) (omega arith)));
      accepted = λ _.
          after_filling (λ n l. Pushed x (start_sink s.used s.places.now e.used e.places.now) (start_sink n l e.used e.places.now)) c.push.ensures
          (start_push s.used s.places.now e.used e.places.now x h c.args.self.now.within);
      refused = λ f q. absurd (not_both (Ok tt) tt f refl q);
      holds = ap (λ n. n ∷ e.places.ghost_name ∷ []) c.push.ensures.same;
    }
