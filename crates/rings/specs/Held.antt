-- The contents that a table of rings holds, and which rings they own.
use Rattle.std.specs.Prelude.{◌≡◌, ℕ, zero, suc, ◌+◌, ◌<◌, ◌≤◌, List, [], length, slice_index_or}
use Rattle.pattern.specs.Ring.{Contents}
use Rattle.pattern.specs.Step as numbered
use Rattle.pattern.specs.Step.{NumberedContents, view}
use Rattle.rings.specs.declared.contents.Ring.{Ring}
use Rattle.rings.specs.declared.contents.TriangleContents.{TriangleContents}
use Rattle.rings.specs.declared.contents.TriangleContents.TheVariants as kind
use Rattle.rings.specs.Rows.{no_vertices}
use Rattle.rings.specs.Sides.{on_sides, side_len}

-- what is read beyond a table
abbrev pub no_ring : Ring
no_ring = record { a = 0; b = 0; c = 0; sides = record { places = []; len = 0 }; inner = kind.None }

-- a ring that nothing names yet
abbrev pub blank_ring : Ring
blank_ring = record { a = 0; b = 0; c = 0; sides = no_vertices 27; inner = kind.None }

-- the ring that a number names
abbrev pub ring_at : List Ring → ℕ → Ring
ring_at rs i = slice_index_or rs i no_ring

-- the contents that the table holds, at most d rings deep
abbrev pub held : List Ring → ℕ → TriangleContents → NumberedContents
held rs d kind.None = numbered.None
held rs d (kind.One x) = numbered.One x
held rs d (kind.Three a b c) = numbered.Three a b c
held rs d (kind.Six a b c ab bc ca) = numbered.Six a b c ab bc ca
held rs zero (kind.More i) = numbered.None
held rs (suc d) (kind.More i) =
    let g : Ring = ring_at rs i in
    numbered.More g.a g.b g.c (side_len g) (on_sides g) (held rs d g.inner)

-- the same, read by position
abbrev pub held_view : List Ring → ℕ → TriangleContents → Contents ℕ
held_view rs d t = view (held rs d t)

-- contents of count m, at most d rings deep, every ring in the table and its sides as long as they should be
abbrev pub Fits : List Ring → ℕ → ℕ → TriangleContents → Type 0
Fits rs d m kind.None = m ≤ 1
Fits rs d m (kind.One x) = m ≡ 2
Fits rs d m (kind.Three a b c) = m ≡ 3
Fits rs d m (kind.Six a b c ab bc ca) = m ≡ 4
Fits rs zero m (kind.More i) = ⊥
Fits rs (suc d) m (kind.More i) =
    (i < length rs) × (m ≡ 3 + side_len (ring_at rs i)) × (2 ≤ side_len (ring_at rs i)) × (side_len (ring_at rs i) ≤ 9)
    × Fits rs d (side_len (ring_at rs i)) (ring_at rs i).inner

-- the contents own the rings b, b + 1, .., d of them: their ring, if any, is b, and its inner contents own the rest
abbrev pub Own : List Ring → ℕ → ℕ → TriangleContents → Type 0
Own rs b d kind.None = Unit {0}
Own rs b d (kind.One x) = Unit {0}
Own rs b d (kind.Three x y z) = Unit {0}
Own rs b d (kind.Six x y z xy yz zx) = Unit {0}
Own rs b zero (kind.More i) = ⊥
Own rs b (suc d) (kind.More i) = (i ≡ b) × Own rs (suc b) d (ring_at rs i).inner

-- a ring that contents name is in the table
abbrev pub Names : List Ring → ℕ → TriangleContents → Type 0
Names rs d kind.None = Unit {0}
Names rs d (kind.One x) = Unit {0}
Names rs d (kind.Three a b c) = Unit {0}
Names rs d (kind.Six a b c ab bc ca) = Unit {0}
Names rs d (kind.More i) = (0 < d) × (i < length rs)
