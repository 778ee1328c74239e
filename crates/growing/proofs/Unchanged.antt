-- Contents are as they were where the rings that they own are.
use Rattle.std.proofs.Common.{◌≡◌, ℕ, zero, suc, ◌+◌, ◌<◌, ◌≤◌, List, length, sym, refl, ap, ◌∙◌, subst, arith}
use Rattle.pattern.specs.Step as numbered
use Rattle.pattern.specs.Step.{NumberedContents}
use Rattle.rings.specs.declared.contents.Ring.{Ring}
use Rattle.rings.specs.declared.contents.TriangleContents.{TriangleContents}
use Rattle.rings.specs.declared.contents.TriangleContents.TheVariants as kind
use Rattle.rings.specs.Held.{held, Fits, Own, ring_at}
use Rattle.rings.specs.Sides.{on_sides, side_len}
use Rattle.growing.specs.Placed.{Equal, EqualSides, Placed}

-- the rings b, b + 1, .., d of them, are the same in both tables
abbrev pub Same : List Ring → List Ring → ℕ → ℕ → Type 0
Same rs rs' b d = (i : ℕ) → b ≤ i → i < b + d → ring_at rs' i ≡ ring_at rs i

module _ (rs rs' : List Ring) where
  after_first : (b d : ℕ) → Same rs rs' b (suc d) → Same rs rs' (suc b) d
  after_first b d e i p q = e i (omega arith) (omega arith)

  first : (b d i : ℕ) → i ≡ b → Same rs rs' b (suc d) → ring_at rs' i ≡ ring_at rs i
  first b d i q e = e i (omega arith) (omega arith)

  pub held_same : (b d : ℕ) (t : TriangleContents) → Own rs b d t → Same rs rs' b d → held rs' d t ≡ held rs d t
  held_same b d kind.None o e = refl
  held_same b d (kind.One x) o e = refl
  held_same b d (kind.Three x y z) o e = refl
  held_same b d (kind.Six x y z xy yz zx) o e = refl
  held_same b zero (kind.More i) o e = absurd o
  held_same b (suc d) (kind.More i) o e =
      let r : Ring = ring_at rs i in
      ap (λ (g : Ring). numbered.More g.a g.b g.c (side_len g) (on_sides g) (held rs' d g.inner)) (first b d i o.0 e)
      ∙ ap (λ (g : NumberedContents). numbered.More r.a r.b r.c (side_len r) (on_sides r) g)
      (held_same (suc b) d r.inner o.1 (after_first b d e))

  own_same : (b d : ℕ) (t : TriangleContents) → Own rs b d t → Same rs rs' b d → Own rs' b d t
  own_same b d kind.None o e = tt
  own_same b d (kind.One x) o e = tt
  own_same b d (kind.Three x y z) o e = tt
  own_same b d (kind.Six x y z xy yz zx) o e = tt
  own_same b zero (kind.More i) o e = absurd o
  own_same b (suc d) (kind.More i) o e =
      (o.0, subst (λ (g : Ring). Own rs' (suc b) d g.inner) (sym (first b d i o.0 e)) (own_same (suc b) d (ring_at rs i).inner o.1 (after_first b d e)))

  fits_same : (b d m : ℕ) (t : TriangleContents) → length rs' ≡ length rs → Own rs b d t → Same rs rs' b d → Fits rs d m t → Fits rs' d m t
  fits_same b d m kind.None l o e f = f
  fits_same b d m (kind.One x) l o e f = f
  fits_same b d m (kind.Three x y z) l o e f = f
  fits_same b d m (kind.Six x y z xy yz zx) l o e f = f
  fits_same b zero m (kind.More i) l o e f = absurd o
  fits_same b (suc d) m (kind.More i) l o e f =
      let g : ring_at rs' i ≡ ring_at rs i = first b d i o.0 e in
      let n : side_len (ring_at rs' i) ≡ side_len (ring_at rs i) = ap side_len g in
      let inner = fits_same (suc b) d (side_len (ring_at rs i)) (ring_at rs i).inner l o.1 (after_first b d e) f.4 in
      (omega (arith, f.0), omega (arith, f.1), omega (arith, f.2), omega (arith, f.3), subst (λ (g : Ring). Fits rs' d (side_len g) g.inner) (sym g) inner)

  equal_same : (b d : ℕ) (t : TriangleContents) → Own rs b d t → Same rs rs' b d → EqualSides rs d t → EqualSides rs' d t
  equal_same b d kind.None o e w = tt
  equal_same b d (kind.One x) o e w = tt
  equal_same b d (kind.Three x y z) o e w = tt
  equal_same b d (kind.Six x y z xy yz zx) o e w = tt
  equal_same b zero (kind.More i) o e w = tt
  equal_same b (suc d) (kind.More i) o e w =
      let g : ring_at rs' i ≡ ring_at rs i = first b d i o.0 e in
      let inner = equal_same (suc b) d (ring_at rs i).inner o.1 (after_first b d e) w.1 in
      (subst Equal (sym g) w.0, subst (λ (x : Ring). EqualSides rs' d x.inner) (sym g) inner)

  pub placed_same : (b d m : ℕ) (t : TriangleContents) → length rs' ≡ length rs → Same rs rs' b d → Placed rs b d m t → Placed rs' b d m t
  placed_same b d m t l e p =
      let room = p.room in
      record { fits = fits_same b d m t l p.own e p.fits; own = own_same b d t p.own e; room = omega arith; equal = equal_same b d t p.own e p.equal }
