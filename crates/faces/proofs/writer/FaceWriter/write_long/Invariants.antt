use Rattle.std.proofs.Common.{◌≡◌, ◌+◌, ◌*◌}
use Rattle.pattern.specs.Ring.{up, pairs}
use Rattle.rings.specs.Views.{ring_of_view}
use Rattle.faces.specs.Writer.{Writes}
use Rattle.faces.proofs.writer.FaceWriter.write_long.Given as goal

abbrev pub invariant-loop-i : goal.invariant-loop-i
invariant-loop-i l = record {
  writes : Writes (up 0 l.i (λ j. pairs j (ring_of_view l.view))) l.initial.self l.self;
  at : l.self.at ≡ l.initial.self.at + 18 * l.i;
}
