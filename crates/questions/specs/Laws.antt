-- What holds of the verdict on a base: there is one, and it is the expected one of these bases.
use Rattle.std.specs.Prelude.{◌≡◌, ℕ, List, [], ◌∷◌, Err, Result}
use Rattle.refusal.specs.declared.Refusal.{Refusal}
use Rattle.refusal.specs.Refusals.{refusal_number, refusal_triangle}
use Rattle.shape.specs.declared.triangle.Triangle.{Triangle}
use Rattle.shape.specs.Tables.{triangle, triangle_triangles, square_triangles}
use Rattle.shape.specs.Questions.{Accepted}
use Rattle.shape.specs.Verdict.{Verdict}

-- every base has a verdict, and no second one: an accepted base is not refused, a refused one has one number and one place
pub record OneVerdict (P E : ℕ) (ts : List Triangle) : Type 0 where
  pub answer : Result (Unit {0}) Refusal
  pub stands : Verdict P E ts answer
  pub only : (r : Result (Unit {0}) Refusal) → Verdict P E ts r → r ≡ answer

abbrev pub EveryBaseHasOneVerdict : Type 0
EveryBaseHasOneVerdict = (P E : ℕ) (ts : List Triangle) → OneVerdict P E ts

-- a closed base
abbrev pub tetrahedron : List Triangle
tetrahedron = triangle 0 1 2 0 1 2 ∷ triangle 0 3 1 3 4 0 ∷ triangle 1 3 2 4 5 1 ∷ triangle 0 2 3 2 5 3 ∷ []

-- one triangle, and the same seen from behind
abbrev pub two_sided : List Triangle
two_sided = triangle 0 1 2 0 1 2 ∷ triangle 0 2 1 2 1 0 ∷ []

-- one triangle, and the same turned
abbrev pub turned_copy : List Triangle
turned_copy = triangle 0 1 2 0 1 2 ∷ triangle 1 2 0 1 2 0 ∷ []

-- refused with a number at a triangle
pub record RefusedAt (P E : ℕ) (ts : List Triangle) (number t : ℕ) : Type 0 where
  pub refusal : Refusal
  pub verdict : Verdict P E ts (Err refusal)
  pub number_is : refusal_number refusal ≡ number
  pub triangle_is : refusal_triangle refusal ≡ t

pub record Examples : Type 0 where
  pub triangle_accepted : Accepted 3 3 triangle_triangles
  pub square_accepted : Accepted 4 5 square_triangles
  pub tetrahedron_accepted : Accepted 4 6 tetrahedron
  pub two_sided_refused : RefusedAt 3 3 two_sided 8 1
  pub turned_copy_refused : RefusedAt 3 3 turned_copy 7 1
