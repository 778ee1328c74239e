-- How many faces a view has.
use Rattle.std.proofs.Common.{◌≡◌, ℕ, ◌+◌, length, sym, ap, ◌∙◌, length-append}
use lib.ListN.{length-map}
use Rattle.pattern.specs.Amounts.{triangle_face_count}
use Rattle.pattern.specs.Ring as pattern
use Rattle.pattern.specs.Ring.{map_face}
use Rattle.pattern.specs.Spot.{spot_faces}
use Rattle.pattern.specs.Vertex.{vertex_of}
use Rattle.pattern.proofs.Link.{faces_of_spots}
use Rattle.pattern.proofs.Spots.{s_faces}
use Rattle.rings.specs.declared.ring_view.RingView.{RingView}
use Rattle.rings.specs.Views.{ring_of_view, inside, Whole}
use Rattle.rings.proofs.OfCount.{sized}
use Rattle.faces.specs.Viewed.{own_faces, inner_faces, view_faces}

pub view-length : (m : ℕ) (w : RingView) → Whole m w → length (view_faces w) ≡ triangle_face_count m
view-length m w h =
    let r : pattern.Ring ℕ = ring_of_view w in
    ap (λ n. length (pattern.triangle_faces n w.a w.b w.c r.ab r.bc r.ca (inside w))) h.on_ab
    ∙ ap length (faces_of_spots m w.a w.b w.c r.ab r.bc r.ca (inside w) (sized w.rings.now w.depth m w.inner h.goes))
    ∙ length-map (spot_faces m) (map_face (vertex_of w.a w.b w.c r.ab r.bc r.ca (inside w))) ∙ s_faces m h.few

-- those of its own ring, and those of its contents
pub view_lengths : (m : ℕ) (w : RingView) → Whole m w → length (own_faces w) + length (inner_faces w) ≡ triangle_face_count m
view_lengths m w h = sym (length-append (own_faces w) (inner_faces w)) ∙ view-length m w h
