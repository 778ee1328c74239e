-- Filling a data slice: each vertex's point is handed once, in rising order, to a generator.
use Rattle.std.specs.Prelude.{◌≡◌, ℕ, zero, suc, ◌<◌, ◌≤◌, List, length, None, slice_index_or, slice_set}
use Rattle.shape.specs.declared.triangle.Triangle.{Triangle}
use Rattle.mesh.specs.Calls.{fill, refusal, unless_refused}
use Rattle.mesh.specs.Numbering.{Numbering}
use Rattle.points.specs.Calculating.{at}

-- a generator by its meaning: its state and the point fix the answer and the next state
abbrev pub Generator : Type 0 → Type 0 → Type 0 → Type 0
Generator Point Data State = State → Point → Data × State

module _ {Point Data State : Type 0} (generate : Generator Point Data State) (point : ℕ → Point) where
  -- the state before vertex i, and the answer for it, where s is the state at first
  abbrev pub before : State → ℕ → State
  before s zero = s
  before s (suc i) = (generate (before s i) (point i)).1

  abbrev pub answer : State → ℕ → Data
  answer s i = (generate (before s i) (point i)).0

  -- the data slice and the generator after vertices i, i + 1, .., k of them
  abbrev pub filled_from : ℕ → ℕ → State → List Data → List Data × State
  filled_from i zero s l = (l, s)
  filled_from i (suc k) s l = filled_from (suc i) k (generate s (point i)).1 (slice_set l i (generate s (point i)).0)

  abbrev pub filled : (total : ℕ) → State → List Data → List Data × State
  filled total s l = filled_from 0 total s l

  -- the answer for vertex i is at place i, the rest is left
  pub record Filled (total : ℕ) (s : State) (old new : List Data) (s' : State) : Type 0 where
    pub long : length new ≡ length old
    pub vertex : (i : ℕ) (d : Data) → i < total → slice_index_or new i d ≡ answer s i
    pub left : (i : ℕ) (d : Data) → total ≤ i → slice_index_or new i d ≡ slice_index_or old i d
    pub state : s' ≡ before s total

-- filling the data slice l from a settled mesh over the triangles ts, of the numbering N and with the points F: a refused fill
-- leaves slice and generator
abbrev pub filled_mesh :
    {Point Data State : Type 0} → Generator Point Data State → Point → List Triangle → Numbering → List Point → State → List Data → List Data × State
filled_mesh generate blank ts N F s l = unless_refused (refusal ts N (fill (length l))) (filled generate (at blank F) N.total s l) (l, s)

-- of an accepted one
abbrev pub FillingStands : Type 0 → Type 0 → Type 0 → Type 0
FillingStands Point Data State =
    (generate : Generator Point Data State) (blank : Point) (ts : List Triangle) (N : Numbering) (F : List Point) (s : State) (l : List Data)
    → refusal ts N (fill (length l)) ≡ None
    → Filled generate (at blank F) N.total s l (filled_mesh generate blank ts N F s l).0 (filled_mesh generate blank ts N F s l).1
