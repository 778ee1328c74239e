-- Contents in their place in the table of rings.
use Rattle.std.specs.Prelude.{◌≡◌, ℕ, zero, suc, ◌+◌, ◌*◌, ◌≤◌, List, length}
use Rattle.rings.specs.declared.contents.Ring.{Ring}
use Rattle.rings.specs.declared.contents.TriangleContents.{TriangleContents}
use Rattle.rings.specs.declared.contents.TriangleContents.TheVariants as kind
use Rattle.rings.specs.Held.{Fits, Own, ring_at}
use Rattle.rings.specs.Sides.{on_sides, side_len}

-- a ring has as many vertices on each side
abbrev pub Equal : Ring → Type 0
Equal g = length (on_sides g) ≡ 3 * side_len g

-- the rings that contents name, at most d of them one inside another, have as many vertices on each side
abbrev pub EqualSides : List Ring → ℕ → TriangleContents → Type 0
EqualSides rs d kind.None = Unit {0}
EqualSides rs d (kind.One x) = Unit {0}
EqualSides rs d (kind.Three a b c) = Unit {0}
EqualSides rs d (kind.Six a b c ab bc ca) = Unit {0}
EqualSides rs zero (kind.More i) = Unit {0}
EqualSides rs (suc d) (kind.More i) = Equal (ring_at rs i) × EqualSides rs d (ring_at rs i).inner

-- contents t of count m, which own the d rings of the table from number b on
pub record Placed (rs : List Ring) (b d m : ℕ) (t : TriangleContents) : Type 0 where
  pub fits : Fits rs d m t
  pub own : Own rs b d t
  pub room : b + d ≤ length rs
  pub equal : EqualSides rs d t
