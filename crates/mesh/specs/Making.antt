-- What making a mesh answers, and the mesh that it leaves.
use Rattle.std.specs.Prelude.{◌≡◌, ℕ, ◌<◌, ◌≤◌, List, [], length, Ok, Err, Result}
use Rattle.refusal.specs.declared.Refusal.{Refusal}
use Rattle.refusal.specs.declared.Refusal.TheVariants.{TooManySubdivisions, TooManyVertices}
use Rattle.shape.specs.declared.triangle.Triangle.{Triangle}
use Rattle.shape.specs.Questions.{Accepted}
use Rattle.shape.specs.Verdict.{Refused}
use Rattle.mesh.specs.Numbering.{Numbering, made, blank}

-- Over a base of P points, E edges and the triangles ts, at n: the count is asked first, then the base, then the number of vertices.
-- A refused making leaves the blank mesh.
pub data Making (P E : ℕ) (ts : List Triangle) (n : ℕ) : Result (Unit {0}) Refusal → Numbering → Type 0 where
  too_often : 12 < n → Making P E ts n (Err (TooManySubdivisions n)) blank
  refused : {r : Refusal} → n ≤ 12 → Refused P E ts r → Making P E ts n (Err r) blank
  too_large :
      n ≤ 12 → Accepted P E ts → 4294967295 < (made P E (length ts) n).total
      → Making P E ts n (Err (TooManyVertices (made P E (length ts) n).total)) blank
  accepted : n ≤ 12 → Accepted P E ts → (made P E (length ts) n).total ≤ 4294967295 → Making P E ts n (Ok tt) (made P E (length ts) n)

-- an accepted base is made at every count up to 12, and the number of vertices refuses none
pub record Makes (P E : ℕ) (ts : List Triangle) (n : ℕ) : Type 0 where
  pub passes : Making P E ts n (Ok tt) (made P E (length ts) n)
  pub never_large : 4294967295 < (made P E (length ts) n).total → ⊥

abbrev pub AcceptedMade : Type 0
AcceptedMade = (P E : ℕ) (ts : List Triangle) (n : ℕ) → Accepted P E ts → n ≤ 12 → Makes P E ts n

-- the one answer of a making, and the one mesh that it leaves
pub record OneMaking (P E : ℕ) (ts : List Triangle) (n : ℕ) : Type 0 where
  pub answer : Result (Unit {0}) Refusal
  pub mesh : Numbering
  pub stands : Making P E ts n answer mesh
  pub only : (r : Result (Unit {0}) Refusal) (N : Numbering) → Making P E ts n r N → (r ≡ answer) × (N ≡ mesh)

abbrev pub EveryMakingHasOneAnswer : Type 0
EveryMakingHasOneAnswer = (P E : ℕ) (ts : List Triangle) (n : ℕ) → OneMaking P E ts n

-- the triangles that a mesh has: those of its base after an accepted making, none after a refused one
abbrev pub held_triangles : Result (Unit {0}) Refusal → List Triangle → List Triangle
held_triangles (Ok u) ts = ts
held_triangles (Err r) ts = []
