-- What a buffer holds after faces are written into it from a place on.
use Rattle.std.specs.Prelude.{◌≡◌, ℕ, ◌+◌, ◌*◌, ◌≤◌, List, ◌++◌, length, take, drop}
use Rattle.pattern.specs.Ring.{Face}
use Rattle.mesh.specs.Faces.{face_numbers}

-- a buffer with xs written from place at on, and all else as it was
abbrev pub written : List ℕ → ℕ → List ℕ → List ℕ
written out at xs = take at out ++ (xs ++ drop (at + length xs) out)

-- the faces fs were written into old from place at on, which left new and the next free place
pub record Wrote (old : List ℕ) (at : ℕ) (fs : List (Face ℕ)) (new : List ℕ) (next : ℕ) : Type 0 where
  pub next_is : next ≡ at + 3 * length fs
  pub fits : next ≤ length old
  pub holds : new ≡ written old at (face_numbers fs)
