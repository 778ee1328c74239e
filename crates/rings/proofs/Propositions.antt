-- That contents fit the table, and which rings they own, can hold in one way only.
use Rattle.std.proofs.Common.{ℕ, zero, suc, ◌+◌, List, refl}
use native.Mathlib.Bridge.{le_prop}
use native.Mathlib.Nat.{ℕ_set}
use Rattle.rings.specs.declared.contents.Ring.{Ring}
use Rattle.rings.specs.declared.contents.TriangleContents.{TriangleContents}
use Rattle.rings.specs.declared.contents.TriangleContents.TheVariants as kind
use Rattle.rings.specs.Held.{Fits, Own, ring_at}
use Rattle.rings.specs.Sides.{side_len}

pub fits_prop : (rs : List Ring) (d m : ℕ) (t : TriangleContents) → IsProp (Fits rs d m t)
fits_prop rs d m kind.None = le_prop
fits_prop rs d m (kind.One x) = ℕ_set m 2
fits_prop rs d m (kind.Three a b c) = ℕ_set m 3
fits_prop rs d m (kind.Six a b c ab bc ca) = ℕ_set m 4
fits_prop rs zero m (kind.More i) = λ x y. absurd x
fits_prop rs (suc d) m (kind.More i) = λ x y j. (
  le_prop x.0 y.0 j,
  ℕ_set m (3 + side_len (ring_at rs i)) x.1 y.1 j,
  le_prop x.2 y.2 j,
  le_prop x.3 y.3 j,
  fits_prop rs d (side_len (ring_at rs i)) (ring_at rs i).inner x.4 y.4 j,
)

pub own_prop : (rs : List Ring) (b d : ℕ) (t : TriangleContents) → IsProp (Own rs b d t)
own_prop rs b d kind.None = λ x y. refl
own_prop rs b d (kind.One x) = λ x y. refl
own_prop rs b d (kind.Three x y z) = λ x y. refl
own_prop rs b d (kind.Six x y z xy yz zx) = λ x y. refl
own_prop rs b zero (kind.More i) = λ x y. absurd x
own_prop rs b (suc d) (kind.More i) = λ x y j. (ℕ_set i b x.0 y.0 j, own_prop rs (suc b) d (ring_at rs i).inner x.1 y.1 j)
