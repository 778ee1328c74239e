-- The writes of one triangle, as it is viewed in the table.
use Rattle.std.specs.Prelude.{ℕ, ◌<◌, List, [], ◌∷◌, ◌++◌, length, slice_index}
use Rattle.pattern.specs.Step.{vertices}
use Rattle.point.specs.declared.Vec3A.{Vec3A}
use Rattle.points.specs.Calculating.{Write, along, tip_writes, contents_writes}
use Rattle.rings.specs.declared.ring_view.RingView.{RingView}
use Rattle.rings.specs.declared.slice.Slice.{Slice}
use Rattle.rings.specs.declared.slice.Slice.TheVariants.{Forward, Backward}
use Rattle.rings.specs.Held.{held}
use Rattle.rings.specs.Slices.{read}
use Rattle.rings.specs.Views.{inside}
use Rattle.shape.specs.Lists.{Each}

-- an edge is written by the triangle that reads it forward
abbrev pub slice_writes : Slice → ℕ → ℕ → List (Write Vec3A)
slice_writes (Forward s) p q = along (length s.now) (λ i. slice_index s.now i) p q ∷ []
slice_writes (Backward s) p q = []

abbrev pub inside_writes : RingView → List (Write Vec3A)
inside_writes w =
    contents_writes (length (read w.ab)) (λ i. slice_index (read w.ab) i) (λ i. slice_index (read w.bc) i) (λ i. slice_index (read w.ca) i) (inside w)

-- the corners a, b, c of its contents
abbrev pub corner_writes : RingView → ℕ → ℕ → ℕ → List (Write Vec3A)
corner_writes w a b c =
    tip_writes (length (read w.ab)) (λ i. slice_index (read w.ab) i) (λ i. slice_index (read w.bc) i) (λ i. slice_index (read w.ca) i) a b c

abbrev pub edges_writes : RingView → List (Write Vec3A)
edges_writes w = slice_writes w.ab w.a w.b ++ (slice_writes w.bc w.b w.c ++ slice_writes w.ca w.c w.a)

-- the edges ab, bc, ca, then the contents
abbrev pub view_writes : RingView → List (Write Vec3A)
view_writes w = edges_writes w ++ inside_writes w

-- every vertex of a view is a place of n points
pub record Below (n : ℕ) (w : RingView) : Type 0 where
  pub some : 0 < n
  pub on_a : w.a < n
  pub on_b : w.b < n
  pub on_c : w.c < n
  pub on_ab : (i : ℕ) → slice_index (read w.ab) i < n
  pub on_bc : (i : ℕ) → slice_index (read w.bc) i < n
  pub on_ca : (i : ℕ) → slice_index (read w.ca) i < n
  pub within : Each (λ x. x < n) (vertices (held w.rings.now w.depth w.inner))
