-- The writes of a ring of the table, and its vertices as places of the points.
use Rattle.std.proofs.Common.{◌≡◌, ℕ, zero, suc, ◌-◌, ◌<◌, ◌≤◌, List, [], ◌∷◌, ◌++◌, length, get_or, sym, ap, ◌∙◌, subst, ap₂, inl, inr, arith}
use Rattle.std.proofs.lemmas.List.{get_or_past}
use Rattle.std.proofs.lemmas.Bool.{cases_lt}
use lib.Ieee.{Float}
use Rattle.pattern.proofs.Runs.{up_cong}
use Rattle.pattern.specs.Step.{NumberedContents, vertices, view}
use Rattle.point.specs.declared.Vec3A.{Vec3A}
use Rattle.points.specs.Calculating.{Write, along, at, tip_writes, contents_writes}
use Rattle.questions.proofs.Stepwise.{each_left, each_right}
use Rattle.rings.specs.declared.contents.Ring.{Ring}
use Rattle.rings.specs.declared.contents.Side.{Side}
use Rattle.rings.specs.declared.contents.Side.TheVariants.{Ab, Bc, Ca}
use Rattle.rings.specs.declared.contents.TriangleContents.{TriangleContents}
use Rattle.rings.specs.declared.contents.TriangleContents.TheVariants as kind
use Rattle.rings.specs.declared.ring_view.RingView.{RingView}
use Rattle.rings.specs.declared.slice.Slice.{Slice}
use Rattle.rings.specs.declared.slice.Slice.TheVariants.{Forward, Backward}
use Rattle.rings.specs.Held.{held, held_view, Fits, ring_at}
use Rattle.rings.specs.Sides.{on_sides, side_len}
use Rattle.rings.specs.Slices.{read, Forth}
use Rattle.rings.specs.Views.{Shows, Whole, inside}
use Rattle.rings.proofs.InRing.{from}
use Rattle.rings.proofs.Shown.{slice_at, held_shown, read_shown, long_shown, whole_shown}
use Rattle.shape.specs.Listing.{share, placed}
use Rattle.shape.specs.Lists.{Each}
use Rattle.calculating.specs.Rules.{no_point, wrote}
use Rattle.calculating.specs.ViewWrites.{Below, slice_writes, edges_writes, inside_writes}
use Rattle.calculating.proofs.Inside.{contents_agree}
use Rattle.calculating.proofs.Runs.{wrote-++}

module _ (between : Vec3A → Vec3A → Float → Vec3A) (half : Vec3A → Vec3A → Vec3A) where
  along_agree :
      (m : ℕ) (xs ys : ℕ → ℕ) (p q : ℕ) (f : List Vec3A) → ((i : ℕ) → i < m → xs i ≡ ys i)
      → wrote between half (along m xs p q ∷ []) f ≡ wrote between half (along m ys p q ∷ []) f
  along_agree m xs ys p q f h =
      ap (λ l. placed (λ i. between (at no_point f p) (at no_point f q) (share i m)) 0 l f) (up_cong 0 m (λ i. xs i ∷ []) (λ i. ys i ∷ []) (λ i a l. ap (λ x. x ∷ []) (h i (omega arith))))

  -- an edge that is read forward
  pub edge_writes :
      (e : Slice) (p p' q q' m : ℕ) (xs : ℕ → ℕ) (f : List Vec3A) → Forth e → p ≡ p' → q ≡ q' → length (read e) ≡ m
      → ((i : ℕ) → i < m → get_or (read e) i 0 ≡ xs i) → wrote between half (slice_writes e p q) f ≡ wrote between half (along m xs p' q' ∷ []) f
  edge_writes (Forward s) p p' q q' m xs f t u v l h =
      ap (λ k. wrote between half (along k (λ i. get_or s.now i 0) p q ∷ []) f) l ∙ along_agree m (λ i. get_or s.now i 0) xs p q f h
      ∙ ap₂ (λ x y. wrote between half (along m xs x y ∷ []) f) u v
  edge_writes (Backward s) p p' q q' m xs f t u v l h = absurd t

  module _ (rs : List Ring) (d i : ℕ) (w : RingView) (s : Shows rs d i w) (h : Fits rs d (side_len (ring_at rs i)) (ring_at rs i).inner) where
    abbrev L : ℕ
    L = side_len (ring_at rs i)

    abbrev side : Side → ℕ → ℕ
    side k j = get_or (on_sides (ring_at rs i)) (from L k j) 0

    abbrev sides : List (Write Vec3A)
    sides =
        along L (side Ab) (ring_at rs i).a (ring_at rs i).b ∷ along L (side Bc) (ring_at rs i).b (ring_at rs i).c
        ∷ along L (side Ca) (ring_at rs i).c (ring_at rs i).a ∷ []

    sides_same : (f : List Vec3A) → wrote between half (edges_writes w) f ≡ wrote between half sides f
    sides_same f =
        let p = slice_writes w.ab w.a w.b in
        let q = slice_writes w.bc w.b w.c in
        let r = slice_writes w.ca w.c w.a in
        let g = wrote between half (along L (side Ab) (ring_at rs i).a (ring_at rs i).b ∷ []) f in
        let k = wrote between half (along L (side Bc) (ring_at rs i).b (ring_at rs i).c ∷ []) g in
        wrote-++ between half p (q ++ r) f ∙ wrote-++ between half q r (wrote between half p f)
        ∙ ap (λ x. wrote between half r (wrote between half q x))
        (edge_writes w.ab w.a (ring_at rs i).a w.b (ring_at rs i).b L (side Ab) f s.ab_forth s.a_is s.b_is s.ab_long (read_shown rs d i w s Ab))
        ∙ ap (wrote between half r)
        (edge_writes w.bc w.b (ring_at rs i).b w.c (ring_at rs i).c L (side Bc) g s.bc_forth s.b_is s.c_is s.bc_long (read_shown rs d i w s Bc))
        ∙ edge_writes w.ca w.c (ring_at rs i).c w.a (ring_at rs i).a L (side Ca) k s.ca_forth s.c_is s.a_is s.ca_long (read_shown rs d i w s Ca)

    inside_same : inside_writes w ≡ contents_writes L (side Ab) (side Bc) (side Ca) (held_view rs d (ring_at rs i).inner)
    inside_same =
        let ab : ℕ → ℕ = λ j. get_or (read w.ab) j 0 in
        let bc : ℕ → ℕ = λ j. get_or (read w.bc) j 0 in
        let ca : ℕ → ℕ = λ j. get_or (read w.ca) j 0 in
        ap (λ m. contents_writes m ab bc ca (inside w)) s.ab_long
        ∙ ap (λ t. contents_writes L ab bc ca (view t)) (held_shown rs d i w s)
        ∙ contents_agree ab bc ca (side Ab) (side Bc) (side Ca) rs d L (ring_at rs i).inner h (read_shown rs d i w s Ab) (read_shown rs d i w s Bc) (read_shown rs d i w s Ca)

    -- the writes of a view of ring i are those of the ring
    pub ring_writes :
        (f : List Vec3A)
        → wrote between half (edges_writes w ++ inside_writes w) f
        ≡ wrote between half (sides ++ contents_writes L (side Ab) (side Bc) (side Ca) (held_view rs d (ring_at rs i).inner)) f
    ring_writes f =
        wrote-++ between half (edges_writes w) (inside_writes w) f ∙ ap (wrote between half (inside_writes w)) (sides_same f)
        ∙ ap (λ ws. wrote between half ws (wrote between half sides f)) inside_same

  swapped :
      (ts us vs ws : List (Write Vec3A)) (f : List Vec3A) → ts ≡ us → ((g : List Vec3A) → wrote between half vs g ≡ wrote between half ws g)
      → wrote between half (ts ++ vs) f ≡ wrote between half (us ++ ws) f
  swapped ts us vs ws f e h =
      wrote-++ between half ts vs f ∙ h (wrote between half ts f) ∙ sym (wrote-++ between half ts ws f) ∙ ap (λ l. wrote between half (l ++ ws) f) e

  -- so the writes of contents that name ring i are those of its corners, and then of the view
  pub more_writes :
      (rs : List Ring) (d i m : ℕ) (ab bc ca : ℕ → ℕ) (w : RingView) → 0 < d → Shows rs (d - 1) i w → Fits rs d m (kind.More i) → (f : List Vec3A)
      → wrote between half (tip_writes m ab bc ca w.a w.b w.c ++ (edges_writes w ++ inside_writes w)) f
      ≡ wrote between half (contents_writes m ab bc ca (held_view rs d (kind.More i))) f
  more_writes rs zero i m ab bc ca w lt s t f = absurd (omega arith)
  more_writes rs (suc d) i m ab bc ca w lt s t f =
      let e : suc d - 1 ≡ d = omega arith in
      let S : Shows rs d i w = subst (λ (x : ℕ). Shows rs x i w) e s in
      let ring = ring_at rs i in
      let p = S.a_is in
      let q = S.b_is in
      let r = S.c_is in
      swapped (tip_writes m ab bc ca w.a w.b w.c) (tip_writes m ab bc ca ring.a ring.b ring.c) (edges_writes w ++ inside_writes w)
      (sides rs d i w S t.4 ++ contents_writes (L rs d i w S t.4) (side rs d i w S t.4 Ab) (side rs d i w S t.4 Bc) (side rs d i w S t.4 Ca) (held_view rs d ring.inner))
      f (cc) (ring_writes rs d i w S t.4)

-- ---- the vertices of a ring as places of n points
each_at : (n : ℕ) (l : List ℕ) → 0 < n → Each (λ x. x < n) l → (i : ℕ) → get_or l i 0 < n
each_at n [] z e i = z
each_at n (x ∷ l) z e zero = e.0
each_at n (x ∷ l) z e (suc i) = each_at n l z e.1 i

short_at : (l : List ℕ) (n m i : ℕ) → 0 < n → length l ≡ m → (i < m → get_or l i 0 < n) → get_or l i 0 < n
short_at l n m i z e h =
    elim (cases_lt i m) [
      | inl lt ↦ h lt
      | inr ge ↦ let q : length l ≤ i = omega arith in let d : get_or l i 0 ≡ 0 = get_or_past l i 0 q in subst (λ x. x < n) (sym d) z
    ]

side_below :
    (rs : List Ring) (d i n : ℕ) (w : RingView) → Shows rs d i w → 0 < n → Each (λ x. x < n) (on_sides (ring_at rs i))
    → (s : Side) (j : ℕ) → get_or (read (slice_at s w)) j 0 < n
side_below rs d i n w h z e s j =
    let L : ℕ = side_len (ring_at rs i) in
    short_at (read (slice_at s w)) n L j z (long_shown rs d i w h s)
    (λ lt. subst (λ x. x < n) (sym (read_shown rs d i w h s j lt)) (each_at n (on_sides (ring_at rs i)) z e (from L s j)))

pub ring_below :
    (rs : List Ring) (d i n : ℕ) (w : RingView) → 0 < d → Shows rs (d - 1) i w → 0 < n → Each (λ x. x < n) (vertices (held rs d (kind.More i)))
    → Below n w
ring_below rs zero i n w lt h z e = absurd (omega arith)
ring_below rs (suc d) i n w lt h z e =
    let q : suc d - 1 ≡ d = omega arith in
    let S : Shows rs d i w = subst (λ (x : ℕ). Shows rs x i w) q h in
    let g : Ring = ring_at rs i in
    let sides : List ℕ = on_sides g in
    let within : Each (λ x. x < n) (vertices (held rs d g.inner)) = each_right (λ x. x < n) sides (vertices (held rs d g.inner)) e.1.1.1 in
    let here : Each (λ x. x < n) sides = each_left (λ x. x < n) sides (vertices (held rs d g.inner)) e.1.1.1 in
    record {
      some = z;
      on_a = subst (λ x. x < n) (sym S.a_is) e.0;
      on_b = subst (λ x. x < n) (sym S.b_is) e.1.0;
      on_c = subst (λ x. x < n) (sym S.c_is) e.1.1.0;
      on_ab = side_below rs d i n w S z here Ab;
      on_bc = side_below rs d i n w S z here Bc;
      on_ca = side_below rs d i n w S z here Ca;
      within = subst (λ (t : NumberedContents). Each (λ x. x < n) (vertices t)) (sym (held_shown rs d i w S)) within;
    }

inward : (rs : List Ring) (d m i : ℕ) → Fits rs d m (kind.More i) → Fits rs (d - 1) (side_len (ring_at rs i)) (ring_at rs i).inner
inward rs zero m i h = absurd h
inward rs (suc d) m i h = let e : d ≡ suc d - 1 = omega arith in subst (λ (n : ℕ). Fits rs n (side_len (ring_at rs i)) (ring_at rs i).inner) e h.4

pub deep : (rs : List Ring) (d m i : ℕ) → Fits rs d m (kind.More i) → 0 < d
deep rs zero m i h = absurd h
deep rs (suc d) m i h = omega arith

short : (rs : List Ring) (d m i : ℕ) → Fits rs d m (kind.More i) → side_len (ring_at rs i) ≤ 9
short rs zero m i h = absurd h
short rs (suc d) m i h = h.3

-- what a view of the ring inside meets
pub ring_ready :
    (rs : List Ring) (d m i n : ℕ) (t : TriangleContents) (w : RingView) → t ≡ kind.More i → Fits rs d m t → Shows rs (d - 1) i w → 0 < n
    → Each (λ x. x < n) (vertices (held rs d t)) → Whole (length (read w.ab)) w × Below n w
ring_ready rs d m i n t w e f s z v =
    let f' : Fits rs d m (kind.More i) = subst (λ (x : TriangleContents). Fits rs d m x) e f in
    let v' : Each (λ x. x < n) (vertices (held rs d (kind.More i))) = subst (λ (x : TriangleContents). Each (λ y. y < n) (vertices (held rs d x))) e v in
    (whole_shown rs (d - 1) i w s (short rs d m i f') (inward rs d m i f'), ring_below rs d i n w (deep rs d m i f') s z v')
