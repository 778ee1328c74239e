-- The faces of a view.
use Rattle.std.specs.Prelude.{ℕ, List, length}
use Rattle.pattern.specs.Ring as pattern
use Rattle.pattern.specs.Ring.{Face, ring_faces, contents_faces, triangle_faces}
use Rattle.rings.specs.declared.ring_view.RingView.{RingView}
use Rattle.rings.specs.Slices.{read}
use Rattle.rings.specs.Views.{ring_of_view, inside}

-- those of its own ring, and those of its contents
abbrev pub own_faces : RingView → List (Face ℕ)
own_faces w = ring_faces (length (read w.ab)) (ring_of_view w)

abbrev pub inner_faces : RingView → List (Face ℕ)
inner_faces w = contents_faces (inside w)

-- all: those of a triangle with the view's corners, edges and contents
abbrev pub view_faces : RingView → List (Face ℕ)
view_faces w =
    let r : pattern.Ring ℕ = ring_of_view w in
    triangle_faces (length (read w.ab)) w.a w.b w.c r.ab r.bc r.ca (inside w)
