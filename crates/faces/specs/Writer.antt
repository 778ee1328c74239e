-- What a writer of faces leaves.
use Rattle.std.specs.Prelude.{◌≡◌, ℕ, ◌+◌, ◌*◌, ◌≤◌, List, length}
use Rattle.pattern.specs.Ring.{Face}
use Rattle.faces.specs.declared.writer.FaceWriter.{FaceWriter}
use Rattle.faces.specs.Written.{Wrote}

-- n faces have space behind what is written
abbrev pub HasRoom : ℕ → FaceWriter → Type 0
HasRoom n w = w.at + 3 * n ≤ length w.out.now

-- the faces fs went behind what was written, into the same buffer
pub record Writes (fs : List (Face ℕ)) (old new : FaceWriter) : Type 0 where
  pub wrote : Wrote old.out.now old.at fs new.out.now new.at
  pub same_buffer : new.out.ghost_name ≡ old.out.ghost_name
