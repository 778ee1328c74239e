-- The strips of a triangle, or of a ring, that a view shows.
use Rattle.std.specs.Prelude.{ℕ, List, ◌∷◌, length}
use Rattle.pattern.specs.Ring.{ring_strip, contents_strips}
use Rattle.rings.specs.declared.ring_view.RingView.{RingView}
use Rattle.rings.specs.Slices.{read}
use Rattle.rings.specs.Views.{inside, ring_of_view, Whole}

-- every edge has as many vertices as ab, and the contents go with them
abbrev pub WholeView : RingView → Type 0
WholeView w = Whole (length (read w.ab)) w

-- the strip of its own ring
abbrev pub own_strip : RingView → List ℕ
own_strip w = ring_strip (length (read w.ab)) (ring_of_view w)

-- and then those of its contents
abbrev pub view_strips : RingView → List (List ℕ)
view_strips w = own_strip w ∷ contents_strips (inside w)
