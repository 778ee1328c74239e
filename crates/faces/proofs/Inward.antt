-- One ring further in: what holds of the view of the ring that a view's contents name.
use Rattle.std.proofs.Common.{◌≡◌, ℕ, zero, suc, ◌+◌, ◌-◌, ◌<◌, List, ◌++◌, length, sym, ap, ◌∙◌, subst, ap₂, arith, length-append}
use Rattle.pattern.specs.Ring.{ring_faces, contents_faces}
use Rattle.rings.specs.declared.contents.Ring.{Ring}
use Rattle.rings.specs.declared.contents.TriangleContents.{TriangleContents}
use Rattle.rings.specs.declared.contents.TriangleContents.TheVariants.{More}
use Rattle.rings.specs.declared.ring_view.RingView.{RingView}
use Rattle.rings.specs.Held.{Fits, held_view, ring_at}
use Rattle.rings.specs.Sides.{side_len}
use Rattle.rings.specs.Slices.{read}
use Rattle.rings.specs.Views.{ring_of_view, table_ring, Whole, Shows}
use Rattle.rings.proofs.Shown.{shown_inside, shown_agrees, whole_shown}
use Rattle.faces.specs.Viewed.{own_faces, inner_faces}
use Rattle.faces.proofs.Agreeing.{faces_agree}

-- the contents of w are the ring that v shows
pub record Within (w v : RingView) : Type 0 where
  pub whole : Whole (length (read v.ab)) v
  pub less : v.depth < w.depth
  pub faces : inner_faces w ≡ own_faces v ++ inner_faces v
  pub lengths : length (inner_faces w) ≡ length (own_faces v) + length (inner_faces v)

deeper : (rs : List Ring) (d m i : ℕ) → Fits rs d m (More i) → d ≡ suc (d - 1)
deeper rs zero m i h = absurd h
deeper rs (suc d) m i h = omega arith

pub within :
    (w v : RingView) (m i : ℕ) → w.inner ≡ More i → Fits w.rings.now w.depth m w.inner
    → Shows w.rings.now (w.depth - 1) i v → Within w v
within w v m i is fits shows =
    let rs : List Ring = w.rings.now in
    let d : ℕ = w.depth - 1 in
    let g : Ring = ring_at rs i in
    let named : Fits rs w.depth m (More i) = subst (λ (t : TriangleContents). Fits rs w.depth m t) is fits in
    let deep : w.depth ≡ suc d = deeper rs w.depth m i named in
    let f : Fits rs (suc d) m (More i) = subst (λ (n : ℕ). Fits rs n m (More i)) deep named in
    let faces : inner_faces w ≡ own_faces v ++ inner_faces v =
    ap₂ (λ n t. contents_faces (held_view rs n t)) deep is
    ∙ sym (ap₂ (λ x y. x ++ y)
    (ap (λ n. ring_faces n (ring_of_view v)) shows.ab_long ∙ faces_agree (side_len g) (ring_of_view v) (table_ring rs d i) (shown_agrees rs d i v shows))
    (ap contents_faces (shown_inside rs d i v shows))) in
    record {
      whole = whole_shown rs d i v shows f.3 f.4;
      less = omega (arith, shows.depth_is);
      faces = faces;
      lengths = ap length faces ∙ length-append (own_faces v) (inner_faces v);
    }
