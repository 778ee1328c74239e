-- What writing whole strips makes of a sink.
use Rattle.std.specs.Prelude.{◌≡◌, ℕ, List}
use Rattle.std.specs.Borrow.{GName}
use Rattle.mesh.specs.Sinks.{Sink, Writes}

-- the strips were written, and the same references are held
pub record Draws {S : Type 0} (meaning : S → Sink) (held : S → List GName) (ls : List (List ℕ)) (old new : S) : Type 0 where
  pub writes : Writes ls (meaning old) (meaning new)
  pub holds : held new ≡ held old
