-- What a ring view reads.
use Rattle.std.specs.Prelude.{◌≡◌, ℕ, ◌+◌, ◌<◌, ◌≤◌, List, length, slice_index}
use Rattle.pattern.specs.Place.{Patch}
use Rattle.pattern.specs.Ring as pattern
use Rattle.pattern.specs.Ring.{Contents, ring_of, positions}
use Rattle.rings.specs.declared.contents.Ring.{Ring}
use Rattle.rings.specs.declared.contents.Side.{Side}
use Rattle.rings.specs.declared.contents.Side.TheVariants.{Ab, Bc, Ca}
use Rattle.rings.specs.declared.ring_view.RingView.{RingView}
use Rattle.rings.specs.Held.{ring_at, held, held_view, Fits, Names}
use Rattle.rings.specs.Sides.{on_sides, side_len, side_of}
use Rattle.rings.specs.Slices.{read, Forth, Reads}

-- the contents of a view
abbrev pub inside : RingView → Contents ℕ
inside w = held_view w.rings.now w.depth w.inner

abbrev pub ring_of_view : RingView → pattern.Ring ℕ
ring_of_view w =
    ring_of w.a w.b w.c (λ i. slice_index (read w.ab) i) (λ i. slice_index (read w.bc) i) (λ i. slice_index (read w.ca) i) (inside w)

-- the corner where a side of a ring starts, the side's edge, and the same side of the contents
abbrev pub corner_at : Side → pattern.Ring ℕ → ℕ
corner_at Ab r = r.a
corner_at Bc r = r.b
corner_at Ca r = r.c

abbrev pub edge_at : Side → pattern.Ring ℕ → ℕ → ℕ
edge_at Ab r = r.ab
edge_at Bc r = r.bc
edge_at Ca r = r.ca

abbrev pub inner_at : Side → pattern.Ring ℕ → ℕ → ℕ
inner_at Ab r = r.AB
inner_at Bc r = r.BC
inner_at Ca r = r.CA

-- a ring that the contents name is in the table
abbrev pub Named : RingView → Type 0
Named w = Names w.rings.now w.depth w.inner

-- contents with n positions or more on each side
abbrev pub Opens : ℕ → RingView → Type 0
Opens n w = Named w × (n ≤ positions (inside w))

-- three readings of m numbers each, and contents that go with them
pub record Whole (m : ℕ) (w : RingView) : Type 0 where
  pub on_ab : length (read w.ab) ≡ m
  pub on_bc : length (read w.bc) ≡ m
  pub on_ca : length (read w.ca) ≡ m
  pub few : m ≤ 12
  pub goes : Fits w.rings.now w.depth m w.inner

-- what ring i of the table reads, where its inner contents are at most d rings deep
abbrev pub table_ring : List Ring → ℕ → ℕ → pattern.Ring ℕ
table_ring rs d i =
    let g : Ring = ring_at rs i in
    let L : ℕ = side_len g in
    let sides : List ℕ = on_sides g in
    ring_of g.a g.b g.c (λ j. slice_index sides j) (λ j. slice_index sides (L + j)) (λ j. slice_index sides (L + L + j))
    (held_view rs d g.inner)

-- w shows ring i of the table, its sides read forward
pub record Shows (rs : List Ring) (d i : ℕ) (w : RingView) : Type 0 where
  pub a_is : w.a ≡ (ring_at rs i).a
  pub b_is : w.b ≡ (ring_at rs i).b
  pub c_is : w.c ≡ (ring_at rs i).c
  pub ab_is : read w.ab ≡ side_of (ring_at rs i) Ab
  pub bc_is : read w.bc ≡ side_of (ring_at rs i) Bc
  pub ca_is : read w.ca ≡ side_of (ring_at rs i) Ca
  pub ab_forth : Forth w.ab
  pub bc_forth : Forth w.bc
  pub ca_forth : Forth w.ca
  pub ab_long : length (read w.ab) ≡ side_len (ring_at rs i)
  pub bc_long : length (read w.bc) ≡ side_len (ring_at rs i)
  pub ca_long : length (read w.ca) ≡ side_len (ring_at rs i)
  pub inner_is : w.inner ≡ (ring_at rs i).inner
  pub rings_are : w.rings.now ≡ rs
  pub depth_is : w.depth ≡ d

-- w shows a triangle of a mesh at count n, where E has the vertices of each edge
pub record ShowsPatch (n : ℕ) (E : ℕ → List ℕ) (t : Patch) (w : RingView) : Type 0 where
  pub a_is : w.a ≡ t.tri.corner 0
  pub b_is : w.b ≡ t.tri.corner 1
  pub c_is : w.c ≡ t.tri.corner 2
  pub on_ab : Reads (E (t.tri.edge 0)) (t.forth 0) w.ab
  pub on_bc : Reads (E (t.tri.edge 1)) (t.forth 1) w.bc
  pub on_ca : Reads (E (t.tri.edge 2)) (t.forth 2) w.ca
  pub long : (k : ℕ) → k < 3 → length (E (t.tri.edge k)) ≡ n
  pub inner_is : held w.rings.now w.depth w.inner ≡ t.inner
  pub few : n ≤ 12
  pub goes : Fits w.rings.now w.depth n w.inner
