-- Buffers worked out by hand, over points that are the terms they come from.
use Rattle.std.specs.Prelude.{◌≡◌, ℕ, List, [], ◌∷◌, replicate, slice_index_or}
use Rattle.std.proofs.lemmas.List.{length-replicate}
use Rattle.shape.specs.declared.triangle.Triangle.{Triangle}
use Rattle.mesh.specs.Examples.{one_triangle, square}
use Rattle.mesh.specs.Numbering.{Numbering, made, grown, blank as none_made}
use Rattle.points.specs.Calculating.{Meaning, calculated}
use Rattle.points.specs.Runs.{Buffer, emptied, Call, subdivide, calculate, reopen, ask, pending, settled, after, added_by}
use Rattle.mesh.specs.Calls.{all_faces}
use Rattle.points.specs.Promises.{Run, SameBase, point_faces}

pub data Term : Type 0 where
  blank : Term
  base : ℕ → Term
  half : Term → Term → Term
  -- k of n: at (k + 1) / (n + 1)
  between : Term → Term → ℕ × ℕ → Term

abbrev pub share : ℕ → ℕ → ℕ × ℕ
share k n = (k, n)

abbrev pub over : List Term → List Triangle → ℕ → Meaning Term (ℕ × ℕ)
over ps ts e = record { points = ps; triangles = ts; edges = e; between = between; half = half }

abbrev pub triangle_base : Meaning Term (ℕ × ℕ)
triangle_base = over (base 0 ∷ base 1 ∷ base 2 ∷ []) one_triangle 3

abbrev pub square_base : Meaning Term (ℕ × ℕ)
square_base = over (base 0 ∷ base 1 ∷ base 2 ∷ base 3 ∷ []) square 5

-- a buffer of 30, calculated
abbrev pub buffer : Meaning Term (ℕ × ℕ) → Numbering → List Term
buffer M N = calculated share blank M N (replicate 30 blank)

abbrev pub buffer_at : Meaning Term (ℕ × ℕ) → Numbering → ℕ → Term
buffer_at M N x = slice_index_or (buffer M N) x blank

abbrev pub any_buffer : Buffer Term
any_buffer = record { places = replicate 3360 blank; long = length-replicate 3360 blank }

-- calculated, asked, reopened, subdivided by 3, refused 9 more, calculated again
abbrev pub square_calls : List (Call Term)
square_calls = calculate any_buffer ∷ ask (all_faces 24) ∷ reopen ∷ subdivide 3 ∷ subdivide 9 ∷ calculate any_buffer ∷ []

pub record Examples : Type 0 where
  -- n = 2: edge ab runs from point 2 to point 1, bc from 1 to 0; One is half(ab0, bc1)
  pub ab0 : buffer_at triangle_base (made 3 3 1 2) 3 ≡ between (base 2) (base 1) (0, 2)
  pub one : buffer_at triangle_base (made 3 3 1 2) 9 ≡ half (between (base 2) (base 1) (0, 2)) (between (base 1) (base 0) (1, 2))
  pub beyond : buffer_at triangle_base (made 3 3 1 2) 10 ≡ blank
  -- n = 3: Three is half(ab1, ca1), half(bc1, ab1), half(ca1, bc1)
  pub three_b : buffer_at triangle_base (made 3 3 1 3) 13 ≡ half (between (base 1) (base 0) (1, 3)) (between (base 2) (base 1) (1, 3))
  -- n = 5: a of More is half(ab1, ca3); its side ab runs from a to b; the inner One is half(ab0, bc1) of the sides
  pub more_a : buffer_at triangle_base (made 3 3 1 5) 18 ≡ half (between (base 2) (base 1) (1, 5)) (between (base 0) (base 2) (3, 5))
  pub more_ab : buffer_at triangle_base (made 3 3 1 5) 22 ≡ between (buffer_at triangle_base (made 3 3 1 5) 18) (buffer_at triangle_base (made 3 3 1 5) 19) (1, 2)
  pub more_in : buffer_at triangle_base (made 3 3 1 5) 27 ≡ half (buffer_at triangle_base (made 3 3 1 5) 21) (buffer_at triangle_base (made 3 3 1 5) 24)
  -- the mesh of a refused making leaves the buffer as it was
  pub none_written : (f : List Term) → calculated share blank (emptied triangle_base) none_made f ≡ f
  -- made at 1 and subdivided by 1: other numbers, equal points
  pub histories :
      point_faces blank triangle_base (grown 1 (made 3 3 1 1)) (buffer triangle_base (grown 1 (made 3 3 1 1)))
      ≡ point_faces blank triangle_base (made 3 3 1 2) (buffer triangle_base (made 3 3 1 2))
  -- the square's second triangle reads edge 0, from point 2 to point 0, backward: its ab0 is the last of it
  pub backward : buffer_at square_base (made 4 5 2 2) 15 ≡ half (between (base 2) (base 0) (1, 2)) (between (base 2) (base 3) (1, 2))
  -- the promises speak of this: made at 1, and then these calls
  pub square_after :
      after share blank square_base square_calls (pending (made 4 5 2 1))
      ≡ settled (grown 3 (made 4 5 2 1)) (calculated share blank square_base (grown 3 (made 4 5 2 1)) any_buffer.places)
  pub square_added : added_by share blank square_base square_calls (pending (made 4 5 2 1)) ≡ 3
  pub square_run : Run share blank square_base (grown 3 (made 4 5 2 1)) (calculated share blank square_base (grown 3 (made 4 5 2 1)) any_buffer.places)
  pub square_same : SameBase share (λ p q. p ≡ q) square_base square_base
