-- A view of a mesh's triangle has the triangle's faces.
use Rattle.std.proofs.Common.{◌≡◌, ℕ, List, ◌++◌, ap, ◌∙◌, ap₂}
use Rattle.pattern.specs.Place.{Patch, patch_faces}
use Rattle.pattern.specs.Ring.{ring_faces, contents_faces}
use Rattle.rings.specs.declared.contents.Side.TheVariants.{Ab}
use Rattle.rings.specs.declared.ring_view.RingView.{RingView}
use Rattle.rings.specs.Views.{ring_of_view, ShowsPatch}
use Rattle.rings.proofs.Patches.{patch_ring, long_patch, patch_inside, patch_agrees}
use Rattle.faces.specs.Viewed.{view_faces}
use Rattle.faces.proofs.Agreeing.{faces_agree}

pub patch_faces_lem : (n : ℕ) (E : ℕ → List ℕ) (t : Patch) (w : RingView) → ShowsPatch n E t w → view_faces w ≡ patch_faces n E t
patch_faces_lem n E t w h =
    ap₂ (λ x y. x ++ y)
    (ap (λ m. ring_faces m (ring_of_view w)) (long_patch n E t w h Ab)
    ∙ faces_agree n (ring_of_view w) (patch_ring n E t) (patch_agrees n E t w h))
    (ap contents_faces (patch_inside n E t w h))
