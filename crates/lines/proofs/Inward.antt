-- One ring further in: what holds of the view of the ring that a view's contents name.
use Rattle.std.proofs.Common.{◌≡◌, ℕ, zero, suc, ◌-◌, List, [], ◌∷◌, sym, ap, ◌∙◌, subst, ap₂, refl, arith}
use Rattle.pattern.specs.Ring.{ring_strip, contents_strips}
use Rattle.rings.specs.declared.contents.Ring.{Ring}
use Rattle.rings.specs.declared.contents.TriangleContents.{TriangleContents}
use Rattle.rings.specs.declared.contents.TriangleContents.TheVariants as kind
use Rattle.rings.specs.declared.ring_view.RingView.{RingView}
use Rattle.rings.specs.Held.{Fits, held_view, ring_at}
use Rattle.rings.specs.Sides.{side_len}
use Rattle.rings.specs.Views.{inside, ring_of_view, table_ring, Shows}
use Rattle.rings.proofs.Shown.{shown_inside, shown_agrees, whole_shown}
use Rattle.lines.specs.ViewStrips.{own_strip, WholeView}
use Rattle.lines.proofs.Agreeing.{strip_agree}

-- the strips of a view's contents
abbrev pub inner_strips : RingView → List (List ℕ)
inner_strips w = contents_strips (inside w)

-- the contents of w are the ring that v shows
pub record Within (w v : RingView) : Type 0 where
  pub whole : WholeView v
  pub strips : inner_strips w ≡ own_strip v ∷ inner_strips v

deeper : (rs : List Ring) (d m i : ℕ) → Fits rs d m (kind.More i) → d ≡ suc (d - 1)
deeper rs zero m i h = absurd h
deeper rs (suc d) m i h = omega arith

pub within :
    (w v : RingView) (m i : ℕ) → w.inner ≡ kind.More i → Fits w.rings.now w.depth m w.inner
    → Shows w.rings.now (w.depth - 1) i v → Within w v
within w v m i is fits shows =
    let rs : List Ring = w.rings.now in
    let d : ℕ = w.depth - 1 in
    let g : Ring = ring_at rs i in
    let named : Fits rs w.depth m (kind.More i) = subst (λ (t : TriangleContents). Fits rs w.depth m t) is fits in
    let deep : w.depth ≡ suc d = deeper rs w.depth m i named in
    let f : Fits rs (suc d) m (kind.More i) = subst (λ (n : ℕ). Fits rs n m (kind.More i)) deep named in
    let agree = shown_agrees rs d i v shows in
    record {
      whole = whole_shown rs d i v shows f.3 f.4;
      strips =
          ap₂ (λ n t. contents_strips (held_view rs n t)) deep is
          ∙ sym (ap₂ (λ l ls. l ∷ ls)
          (ap (λ n. ring_strip n (ring_of_view v)) shows.ab_long ∙ strip_agree (ring_of_view v) (table_ring rs d i) agree.inners (side_len g) agree.edges)
          (ap contents_strips (shown_inside rs d i v shows)));
    }

pub nothing_inside :
    (w : RingView) → ((i : ℕ) → w.inner ≡ kind.More i → ⊥) → ((a b c ab bc ca : ℕ) → w.inner ≡ kind.Six a b c ab bc ca → ⊥) → inner_strips w ≡ []
nothing_inside w = of w.inner
  where
    of :
        (t : TriangleContents) → ((i : ℕ) → t ≡ kind.More i → ⊥) → ((a b c ab bc ca : ℕ) → t ≡ kind.Six a b c ab bc ca → ⊥)
        → contents_strips (held_view w.rings.now w.depth t) ≡ []
    of kind.None h k = refl
    of (kind.One x) h k = refl
    of (kind.Three a b c) h k = refl
    of (kind.Six a b c ab bc ca) h k = absurd (k a b c ab bc ca refl)
    of (kind.More i) h k = absurd (h i refl)
