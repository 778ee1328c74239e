-- Steps of each triangle's contents in turn.
use Rattle.std.specs.Prelude.{◌≡◌, ℕ, ◌+◌, ◌*◌, ◌<◌, ◌≤◌, List, map, length, slice_index_or}
use Rattle.pattern.specs.Step.{NumberedContents}
use Rattle.mesh.specs.Numbering.{all_stepped, after_all}
use Rattle.rings.specs.declared.contents.Ring.{Ring}
use Rattle.rings.specs.declared.contents.TriangleContents.{TriangleContents}
use Rattle.rings.specs.declared.contents.TriangleContents.TheVariants as kind
use Rattle.rings.specs.Held.{held}
use Rattle.growing.specs.Placed.{Placed}

-- the contents of triangle i
abbrev pub kind_at : List TriangleContents → ℕ → TriangleContents
kind_at ts i = slice_index_or ts i kind.None

-- the contents of every triangle are of count m, and those of triangle i own the rings 3 * i, 3 * i + 1, 3 * i + 2
abbrev pub AllPlaced : List Ring → ℕ → List TriangleContents → Type 0
AllPlaced rs m ts = (i : ℕ) → i < length ts → Placed rs (3 * i) 3 m (kind_at ts i)

-- what the table holds for each triangle
abbrev pub all_held : List Ring → List TriangleContents → List NumberedContents
all_held rs ts = map (held rs 3) ts

-- k steps can be taken from contents of count m
pub record ReadyAll (rs : List Ring) (m k : ℕ) (ts : List TriangleContents) : Type 0 where
  pub placed : AllPlaced rs m ts
  pub some : 1 ≤ m
  pub few : m + k ≤ 12

-- what the k steps make of the table, of the contents and of the next free vertex, at one count m
pub record MovesAll (rs : List Ring) (m k : ℕ) (ts : List TriangleContents) (h : ℕ) (rs' : List Ring) (ts' : List TriangleContents) (h' : ℕ) : Type 0 where
  pub held_are : all_held rs' ts' ≡ all_stepped h k (all_held rs ts)
  pub next_is : h' ≡ after_all h k (all_held rs ts)
  pub placed : AllPlaced rs' (m + k) ts'

-- the same at every count from which the steps can be taken
abbrev pub StepsAll : List Ring → (k : ℕ) → List TriangleContents → (h : ℕ) → List Ring → List TriangleContents → (h' : ℕ) → Type 0
StepsAll rs k ts h rs' ts' h' = (m : ℕ) → ReadyAll rs m k ts → MovesAll rs m k ts h rs' ts' h'
