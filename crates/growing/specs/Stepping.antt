-- Steps of one triangle's contents in the table of rings.
use Rattle.std.specs.Prelude.{◌≡◌, ℕ, ◌+◌, ◌*◌, ◌<◌, ◌≤◌, ◌⊎◌, List, length}
use Rattle.mesh.specs.Numbering.{stepped, after}
use Rattle.rings.specs.declared.contents.Ring.{Ring}
use Rattle.rings.specs.declared.contents.TriangleContents.{TriangleContents}
use Rattle.rings.specs.Held.{held, ring_at}
use Rattle.growing.specs.Placed.{Placed}

-- k steps can be taken from contents t of count m, where the next free vertex is h: there are rings enough, and numbers left
pub record Ready (rs : List Ring) (b d m k : ℕ) (t : TriangleContents) (h : ℕ) : Type 0 where
  pub placed : Placed rs b d m t
  pub some : 1 ≤ m
  pub few : m + k ≤ 12
  pub deep : m + k ≤ 3 * d + 4
  pub free : h + 3 * d + 12 * k ≤ 4294967295

-- what the k steps make of the table, of the contents and of the next free vertex, at one count m
pub record Moves (rs : List Ring) (b d m k : ℕ) (t : TriangleContents) (h : ℕ) (rs' : List Ring) (t' : TriangleContents) (h' : ℕ) : Type 0 where
  pub held_is : held rs' d t' ≡ stepped h k (held rs d t)
  pub next_is : h' ≡ after h k (held rs d t)
  pub placed : Placed rs' b d (m + k) t'
  pub long : length rs' ≡ length rs
  -- no ring of others is changed
  pub others : (i : ℕ) → (i < b) ⊎ (b + d ≤ i) → ring_at rs' i ≡ ring_at rs i

-- the same for every count of rings and of edge vertices from which the steps can be taken
abbrev pub Steps : List Ring → (b k : ℕ) → TriangleContents → (h : ℕ) → List Ring → TriangleContents → (h' : ℕ) → Type 0
Steps rs b k t h rs' t' h' = (d m : ℕ) → Ready rs b d m k t h → Moves rs b d m k t h rs' t' h'
