-- The state of a mesh after any list of calls, refused ones among them.
use Rattle.std.specs.Prelude.{◌≡◌, ℕ, ◌+◌, List, [], ◌∷◌, length, Ok, Err, Result}
use Rattle.refusal.specs.declared.Refusal.{Refusal}
use Rattle.mesh.specs.Calls.{Ask, too_often, unless_refused}
use Rattle.mesh.specs.Numbering.{Numbering, grown}
use Rattle.points.specs.Calculating.{Meaning, calculated}

-- the caller's array of points, in which calculating may find anything
pub record Buffer (Point : Type 0) : Type 0 where
  pub places : List Point
  pub long : length places ≡ 3360

-- a settled mesh has its points as the last calculating left them
pub data State (Point : Type 0) : Type 0 where
  pending : Numbering → State Point
  settled : Numbering → List Point → State Point

pub data Call (Point : Type 0) : Type 0 where
  subdivide : (amount : ℕ) → Call Point
  calculate : Buffer Point → Call Point
  reopen : Call Point
  -- one of the calls that read a mesh
  ask : Ask → Call Point

module _ {Point Frac : Type 0} (share : ℕ → ℕ → Frac) (blank : Point) (M : Meaning Point Frac) where
  -- A refused call changes nothing, and a call that reads changes nothing. Nor does one that the state does not allow, though
  -- no program that compiles makes it: subdividing and calculating need a pending mesh, reopening a settled one.
  abbrev pub after_call : Call Point → State Point → State Point
  after_call (subdivide amount) (pending N) = pending (unless_refused (too_often N amount) (grown amount N) N)
  after_call (subdivide amount) (settled N F) = settled N F
  after_call (calculate f) (pending N) = settled N (calculated share blank M N f.places)
  after_call (calculate f) (settled N F) = settled N F
  after_call reopen (pending N) = pending N
  after_call reopen (settled N F) = pending N
  after_call (ask a) s = s

  abbrev pub after : List (Call Point) → State Point → State Point
  after [] s = s
  after (c ∷ cs) s = after cs (after_call c s)

  -- how much a call adds to the count
  abbrev pub added : Call Point → State Point → ℕ
  added (subdivide amount) (pending N) = unless_refused (too_often N amount) amount 0
  added (subdivide amount) (settled N F) = 0
  added (calculate f) s = 0
  added reopen s = 0
  added (ask a) s = 0

  -- how much a list of calls adds to it
  abbrev pub added_by : List (Call Point) → State Point → ℕ
  added_by [] s = 0
  added_by (c ∷ cs) s = added c s + added_by cs (after_call c s)

-- the base of the blank mesh that a refused making leaves
abbrev pub emptied : {Point Frac : Type 0} → Meaning Point Frac → Meaning Point Frac
emptied M = record { points = []; triangles = []; edges = 0; between = M.between; half = M.half }

-- what a mesh has of its base: all of it after an accepted making, no points, edges or triangles after a refused one
abbrev pub held : {Point Frac : Type 0} → Result (Unit {0}) Refusal → Meaning Point Frac → Meaning Point Frac
held (Ok u) M = M
held (Err r) M = emptied M
