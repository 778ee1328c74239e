-- A view of a ring of the table: it is whole, and agrees with the ring.
use Rattle.std.proofs.Common.{◌≡◌, ℕ, ◌<◌, ◌≤◌, List, length, get_or, sym, ap, ◌∙◌, subst, ap₂, arith}
use Rattle.pattern.specs.Ring.{pos_ab, pos_bc, pos_ca}
use Rattle.pattern.specs.Step.{view}
use Rattle.rings.specs.declared.contents.Ring.{Ring}
use Rattle.rings.specs.declared.contents.Side.{Side}
use Rattle.rings.specs.declared.contents.Side.TheVariants.{Ab, Bc, Ca}
use Rattle.rings.specs.declared.contents.TriangleContents.{TriangleContents}
use Rattle.rings.specs.declared.ring_view.RingView.{RingView}
use Rattle.rings.specs.declared.slice.Slice.{Slice}
use Rattle.rings.specs.Held.{Fits, held, held_view, ring_at}
use Rattle.rings.specs.Sides.{on_sides, side_len}
use Rattle.rings.specs.Slices.{read}
use Rattle.rings.specs.Views.{corner_at, edge_at, inner_at, inside, ring_of_view, table_ring, Shows, Whole}
use Rattle.rings.proofs.Agree.{Agree}
use Rattle.rings.proofs.InRing.{at_side, from}

pub whole_shown :
    (rs : List Ring) (d i : ℕ) (w : RingView) → Shows rs d i w → side_len (ring_at rs i) ≤ 9 → Fits rs d (side_len (ring_at rs i)) (ring_at rs i).inner
    → Whole (length (read w.ab)) w
whole_shown rs d i w s few h =
    let L : ℕ = side_len (ring_at rs i) in
    let f : Fits rs d L w.inner = subst (λ (t : TriangleContents). Fits rs d L t) (sym s.inner_is) h in
    let g : Fits w.rings.now d L w.inner = subst (λ (l : List Ring). Fits l d L w.inner) (sym s.rings_are) f in
    let k : Fits w.rings.now w.depth L w.inner = subst (λ (e : ℕ). Fits w.rings.now e L w.inner) (sym s.depth_is) g in
    record {
      on_ab = s.ab_long ∙ sym s.ab_long;
      on_bc = s.bc_long ∙ sym s.ab_long;
      on_ca = s.ca_long ∙ sym s.ab_long;
      few = let e = s.ab_long in omega arith;
      goes = subst (λ (m : ℕ). Fits w.rings.now w.depth m w.inner) (sym s.ab_long) k;
    }

pub held_shown : (rs : List Ring) (d i : ℕ) (w : RingView) → Shows rs d i w → held w.rings.now w.depth w.inner ≡ held rs d (ring_at rs i).inner
held_shown rs d i w s =
    ap (λ l. held l w.depth w.inner) s.rings_are ∙ ap (λ e. held rs e w.inner) s.depth_is ∙ ap (held rs d) s.inner_is

-- the slice of a side
abbrev pub slice_at : Side → RingView → Slice
slice_at Ab w = w.ab
slice_at Bc w = w.bc
slice_at Ca w = w.ca

-- what a view of a ring reads along a side, position by position
pub read_shown :
    (rs : List Ring) (d i : ℕ) (w : RingView) → Shows rs d i w → (s : Side) (j : ℕ) → j < side_len (ring_at rs i)
    → get_or (read (slice_at s w)) j 0 ≡ get_or (on_sides (ring_at rs i)) (from (side_len (ring_at rs i)) s j) 0
read_shown rs d i w h Ab j l = ap (λ x. get_or x j 0) h.ab_is ∙ at_side (ring_at rs i) Ab j l
read_shown rs d i w h Bc j l = ap (λ x. get_or x j 0) h.bc_is ∙ at_side (ring_at rs i) Bc j l
read_shown rs d i w h Ca j l = ap (λ x. get_or x j 0) h.ca_is ∙ at_side (ring_at rs i) Ca j l

pub long_shown : (rs : List Ring) (d i : ℕ) (w : RingView) → Shows rs d i w → (s : Side) → length (read (slice_at s w)) ≡ side_len (ring_at rs i)
long_shown rs d i w h Ab = h.ab_long
long_shown rs d i w h Bc = h.bc_long
long_shown rs d i w h Ca = h.ca_long

pub shown_inside : (rs : List Ring) (d i : ℕ) (w : RingView) → Shows rs d i w → inside w ≡ held_view rs d (ring_at rs i).inner
shown_inside rs d i w h = ap view (held_shown rs d i w h)

pub shown_agrees : (rs : List Ring) (d i : ℕ) (w : RingView) → Shows rs d i w → Agree (side_len (ring_at rs i)) (ring_of_view w) (table_ring rs d i)
shown_agrees rs d i w h = record { corners = corners; edges = edges; inners = inners }
  where
    corners : (k : Side) → corner_at k (ring_of_view w) ≡ corner_at k (table_ring rs d i)
    corners Ab = h.a_is
    corners Bc = h.b_is
    corners Ca = h.c_is

    edges : (k : Side) (j : ℕ) → j < side_len (ring_at rs i) → edge_at k (ring_of_view w) j ≡ edge_at k (table_ring rs d i) j
    edges Ab = read_shown rs d i w h Ab
    edges Bc = read_shown rs d i w h Bc
    edges Ca = read_shown rs d i w h Ca

    inners : (k : Side) (j : ℕ) → inner_at k (ring_of_view w) j ≡ inner_at k (table_ring rs d i) j
    inners Ab j = ap₂ (λ x s. pos_ab x s j) h.a_is (shown_inside rs d i w h)
    inners Bc j = ap₂ (λ x s. pos_bc x s j) h.a_is (shown_inside rs d i w h)
    inners Ca j = ap₂ (λ x s. pos_ca x s j) h.a_is (shown_inside rs d i w h)
