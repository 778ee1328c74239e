-- The strips of a view that shows a triangle of a mesh.
use Rattle.std.proofs.Common.{◌≡◌, ℕ, ◌<◌, List, ◌∷◌, length, ap, ◌∙◌, ap₂}
use Rattle.pattern.specs.Place.{Patch, patch_strips, reading}
use Rattle.pattern.specs.Ring.{ring_strip, pos_ab, pos_bc, pos_ca, contents_strips}
use Rattle.pattern.specs.Step.{view}
use Rattle.rings.specs.declared.contents.Side.{Side}
use Rattle.rings.specs.declared.contents.Side.TheVariants.{Ab, Bc, Ca}
use Rattle.rings.specs.declared.ring_view.RingView.{RingView}
use Rattle.rings.specs.Held.{held}
use Rattle.rings.specs.Sides.{side_number}
use Rattle.rings.specs.Slices.{read}
use Rattle.rings.specs.Views.{edge_at, inner_at, ring_of_view}
use Rattle.rings.proofs.Patches.{patch_ring}
use Rattle.lines.specs.ViewStrips.{view_strips}
use Rattle.lines.proofs.Agreeing.{strip_agree}

-- w reads what patch t reads: edges of n vertices each, and contents; of the corners, the strips ask only for the first
pub record ShowsPatch (n : ℕ) (E : ℕ → List ℕ) (t : Patch) (w : RingView) : Type 0 where
  pub a_is : w.a ≡ t.tri.corner 0
  pub long : length (read w.ab) ≡ n
  pub edges : (s : Side) (i : ℕ) → i < n → edge_at s (ring_of_view w) i ≡ reading n E t (side_number s) i
  pub inner_is : held w.rings.now w.depth w.inner ≡ t.inner

pub patch_strips_lem : (n : ℕ) (E : ℕ → List ℕ) (t : Patch) (w : RingView) → ShowsPatch n E t w → view_strips w ≡ patch_strips n E t
patch_strips_lem n E t w h =
    ap₂ (λ l ls. l ∷ ls)
    (ap (λ m. ring_strip m (ring_of_view w)) h.long ∙ strip_agree (ring_of_view w) (patch_ring n E t) inners n edges)
    (ap (λ u. contents_strips (view u)) h.inner_is)
  where
    edges : (s : Side) (i : ℕ) → i < n → edge_at s (ring_of_view w) i ≡ edge_at s (patch_ring n E t) i
    edges Ab = h.edges Ab
    edges Bc = h.edges Bc
    edges Ca = h.edges Ca

    inners : (s : Side) (i : ℕ) → inner_at s (ring_of_view w) i ≡ inner_at s (patch_ring n E t) i
    inners Ab i = ap₂ (λ x u. pos_ab x (view u) i) h.a_is h.inner_is
    inners Bc i = ap₂ (λ x u. pos_bc x (view u) i) h.a_is h.inner_is
    inners Ca i = ap₂ (λ x u. pos_ca x (view u) i) h.a_is h.inner_is
