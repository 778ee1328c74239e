-- Which way each triangle reads its edges, and what the edges seen tell of it.
use Rattle.std.specs.Prelude.{◌≡◌, ℕ, ◌<◌, List, [], ◌∷◌, nat_eq, slice_index_or}
use Rattle.std.specs.BTreeSet.{BTreeSet, contains}
use Rattle.std.specs.Ordering.{nat_cmp}
use Rattle.mesh.specs.Faces.{forward}
use Rattle.pattern.specs.Sides.{among}
use Rattle.shape.specs.declared.triangle.Triangle.{Triangle}
use Rattle.table.specs.declared.forward.Forward.{Forward}

-- the readings of t, where seen are the edges used before
abbrev pub forward_of : List ℕ → Triangle → Forward
forward_of seen t = record { ab = forward seen t 0; bc = forward seen t 1; ca = forward seen t 2 }

abbrev pub forwards_from : List ℕ → List Triangle → List Forward
forwards_from seen [] = []
forwards_from seen (t ∷ ts) = forward_of seen t ∷ forwards_from (t.ca ∷ t.bc ∷ t.ab ∷ seen) ts

abbrev pub forwards : List Triangle → List Forward
forwards ts = forwards_from [] ts

-- the set has the edges seen
abbrev pub Has : BTreeSet ℕ → List ℕ → Type 0
Has set seen = (e : ℕ) → contains nat_cmp set e ≡ among nat_eq e seen

-- r are the readings of one triangle more, whose edges are seen from then on
abbrev pub Tells : BTreeSet ℕ → Triangle → Forward → BTreeSet ℕ → Type 0
Tells old t r new = (seen : List ℕ) → Has old seen → (r ≡ forward_of seen t) × Has new (t.ca ∷ t.bc ∷ t.ab ∷ seen)

abbrev pub EdgesBelow : ℕ → Triangle → Type 0
EdgesBelow n t = (t.ab < n) × (t.bc < n) × (t.ca < n)

abbrev pub no_triangle : Triangle
no_triangle = record { a = 0; b = 0; c = 0; ab = 0; bc = 0; ca = 0 }

abbrev pub triangle_at : List Triangle → ℕ → Triangle
triangle_at ts i = slice_index_or ts i no_triangle
