-- A position of contents, and none beyond the last.
use Rattle.std.specs.Prelude.{◌≡◌, ℕ, cond, Some, None, Option, nat_lt}
use Rattle.pattern.specs.Ring.{Contents, pick, positions, pos_ab, pos_bc, pos_ca}
use Rattle.rings.specs.declared.contents.Side.{Side}
use Rattle.rings.specs.Sides.{side_number}

-- position k of a side that has n of them, where x stands there
abbrev pub position : ℕ → ℕ → ℕ → Option ℕ
position n k x = cond (nat_lt k n) (Some x) None

-- r is position k of the side of the contents that pos reads; the first argument of pos is never read
abbrev pub PositionOf : (ℕ → Contents ℕ → ℕ → ℕ) → Contents ℕ → ℕ → Option ℕ → Type 0
PositionOf pos s k r = (d : ℕ) → r ≡ position (positions s) k (pos d s k)

-- the positions of a side of the contents
abbrev pub pos_of : Side → ℕ → Contents ℕ → ℕ → ℕ
pos_of s = pick (side_number s) pos_ab pos_bc pos_ca
