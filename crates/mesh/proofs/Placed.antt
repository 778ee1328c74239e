-- The triangles of an accepted base with a reached numbering are placed as they should be.
use Rattle.std.proofs.Common.{◌≡◌, ℕ, zero, suc, ◌+◌, ◌<◌, ◌≤◌, Bool, true, false, not, eqb, List, [], ◌∷◌, ◌++◌, length, get_or, sym, refl, ap, ◌∙◌, subst, inl, inr, arith}
use native.Mathlib.Decide.{dec_le}
use Rattle.pattern.proofs.Neighbours.{Placed, Alone, PlacedAll, AllPlaced}
use Rattle.pattern.specs.Place.{Patch, reading}
use Rattle.pattern.specs.Sides.{occ}
use Rattle.pattern.specs.Ring.{up, ring_list}
use Rattle.shape.specs.Sides.{tick, Use, walk, uses, use_count, way_count}
use Rattle.pattern.specs.Step.{NumberedContents, vertices, range, OfCount}
use Rattle.pattern.proofs.Count.{weigh}
use Rattle.shape.specs.Questions.{Below, ThreeCorners, Differ, Accepted}
use Rattle.shape.specs.Lists.{In, Each, Pairs}
use Rattle.shape.specs.declared.triangle.Triangle.{Triangle}
use Rattle.mesh.specs.Numbering.{Numbering, edge_of, flat, inners}
use Rattle.mesh.specs.Faces.{by_side, forward, patches_from, patches}
use Rattle.mesh.proofs.Beside.{use_at, edge_of_lem, in_uses, use_count-cons, in_use_count, use_count_split, way_count_split, used_twice, edge_apart, beside}
use Rattle.mesh.proofs.Invariant.{Inv}
use Rattle.mesh.proofs.Facing.{facing, run_is, weigh_facing}
use Rattle.mesh.proofs.Sum.{sum_to, at_most_all, flat-sum}
use Rattle.pattern.proofs.Occurrences.{distinct_two, distinct_three, in_below, among_no, among_yes, hits, hits_yes, hits_no, Same?, is, isnt, same?, occ-cons, occ_weigh, occ-++, occ_alike, occ_get_d, get_d_apart, range_once, range_in}

long_at : (m : ℕ) (ls : List (List ℕ)) → Each (λ l. length l ≡ m) ls → (e : ℕ) → e < length ls → length (get_or ls e []) ≡ m
long_at m [] h e l = absurd (let z : ⊥ = omega arith in z)
long_at m (x ∷ ls) h zero l = h.0
long_at m (x ∷ ls) h (suc e) l = long_at m ls h.1 e (omega arith)

-- ---- which way a triangle reads
abbrev pub Edges3 : Triangle → Type 0
Edges3 t = (k j : ℕ) → k < 3 → j < 3 → (by_side t).edge k ≡ (by_side t).edge j → k ≡ j

pub not_ab_bc : (t : Triangle) → Edges3 t → t.ab ≡ t.bc → ⊥
not_ab_bc t h e = let d : ◌≡◌ {A = ℕ} 0 1 = h 0 1 (omega arith) (omega arith) e in omega arith

pub not_bc_ca : (t : Triangle) → Edges3 t → t.bc ≡ t.ca → ⊥
not_bc_ca t h e = let d : ◌≡◌ {A = ℕ} 1 2 = h 1 2 (omega arith) (omega arith) e in omega arith

pub not_ca_ab : (t : Triangle) → Edges3 t → t.ca ≡ t.ab → ⊥
not_ca_ab t h e = let d : ◌≡◌ {A = ℕ} 2 0 = h 2 0 (omega arith) (omega arith) e in omega arith

forward_yes : (seen : List ℕ) (t : Triangle) → Edges3 t → (k : ℕ) → k < 3 → occ ((by_side t).edge k) seen ≡ 0 → forward seen t k ≡ true
forward_yes seen t h zero l e = ap not (among_no t.ab seen e)
forward_yes seen t h (suc zero) l e = ap not (among_no t.bc (t.ab ∷ seen) (omega (arith, occ-cons t.bc t.ab seen, hits_no t.bc t.ab (λ d. not_ab_bc t h (sym d)))))
forward_yes seen t h (suc (suc zero)) l e =
    ap not (among_no t.ca (t.bc ∷ t.ab ∷ seen)
    (omega (
      arith,
      occ-cons t.ca t.bc (t.ab ∷ seen),
      occ-cons t.ca t.ab seen,
      hits_no t.ca t.ab (not_ca_ab t h),
      hits_no t.ca t.bc (λ d. not_bc_ca t h (sym d)),
    )))
forward_yes seen t h (suc (suc (suc k))) l e = absurd (let z : ⊥ = omega arith in z)

forward_no : (seen : List ℕ) (t : Triangle) (k : ℕ) → k < 3 → 1 ≤ occ ((by_side t).edge k) seen → forward seen t k ≡ false
forward_no seen t zero l e = ap not (among_yes t.ab seen e)
forward_no seen t (suc zero) l e = ap not (among_yes t.bc (t.ab ∷ seen) (omega (arith, occ-cons t.bc t.ab seen)))
forward_no seen t (suc (suc zero)) l e =
    ap not (among_yes t.ca (t.bc ∷ t.ab ∷ seen) (omega (arith, occ-cons t.ca t.bc (t.ab ∷ seen), occ-cons t.ca t.ab seen)))
forward_no seen t (suc (suc (suc k))) l e = absurd (let z : ⊥ = omega arith in z)

-- ---- below the bounds
pub corner_below : (P E : ℕ) (t : Triangle) → Below P E t → (k : ℕ) → (by_side t).corner k < P
corner_below P E t b zero = b.a<P
corner_below P E t b (suc zero) = b.b<P
corner_below P E t b (suc (suc k)) = b.c<P

pub edge_below : (P E : ℕ) (t : Triangle) → Below P E t → (k : ℕ) → (by_side t).edge k < E
edge_below P E t b zero = b.ab<E
edge_below P E t b (suc zero) = b.bc<E
edge_below P E t b (suc (suc k)) = b.ca<E

abbrev pub patch : List ℕ → Triangle → NumberedContents → Patch
patch seen t g = record { tri = by_side t; forth = forward seen t; inner = g }

module _ (P E : ℕ) (ts : List Triangle) (A : Accepted P E ts) (N : Numbering) (I : Inv P E (length ts) N) where
  pub edge_long : (e : ℕ) → e < E → length (edge_of N e) ≡ N.n
  edge_long e l = long_at N.n N.edges I.long e (let d = I.edge_count in let z : e < length N.edges = omega arith in z)

  pub all_once : (x : ℕ) → occ x (range 0 P) + occ x (flat N.edges) + occ x (inners N.contents) ≤ 1
  all_once x =
      omega (
        arith,
        occ_alike (range 0 P ++ (flat N.edges ++ inners N.contents)) (range 0 N.total) I.all x,
        range_once x 0 N.total,
        occ-++ x (range 0 P) (flat N.edges ++ inners N.contents),
        occ-++ x (flat N.edges) (inners N.contents),
      )

  pub some_edges :
      (x : ℕ) (es : List ℕ) → Each (λ e. e < E) es → ((e : ℕ) → occ e es ≤ 1) → weigh (λ e. occ x (edge_of N e)) es ≤ occ x (flat N.edges)
  some_edges x es b once =
      let a = at_most_all E (λ e. occ x (edge_of N e)) es b once in
      let c = flat-sum x N.edges in
      let d : sum_to (length N.edges) (λ e. occ x (edge_of N e)) ≡ sum_to E (λ e. occ x (edge_of N e)) = ap (λ m. sum_to m (λ e. occ x (edge_of N e))) I.edge_count in
      omega arith

  pub one_edge : (x e : ℕ) → e < E → occ x (edge_of N e) ≤ occ x (flat N.edges)
  one_edge x e l = omega (arith, some_edges x (e ∷ []) (l, tt) (λ y. single y))
    where
      below : (b : Bool) → tick b 0 ≤ 1
      below true = omega arith
      below false = omega arith

      single : (y : ℕ) → occ y (e ∷ []) ≤ 1
      single y = below (eqb y e)

  pub two_edges : (x e d : ℕ) → e < E → d < E → (e ≡ d → ⊥) → occ x (edge_of N e) + occ x (edge_of N d) ≤ occ x (flat N.edges)
  two_edges x e d l m ne = omega (arith, some_edges x (e ∷ d ∷ []) (l, (m, tt)) (distinct_two e d ne))

  -- ---- numbers on an edge
  pub on_edge : (e i : ℕ) → e < E → i < N.n → 1 ≤ occ (get_or (edge_of N e) i 0) (edge_of N e)
  on_edge e i l h = occ_get_d (edge_of N e) i (let d = edge_long e l in let z : i < length (edge_of N e) = omega arith in z)

  low : (x : ℕ) → x < P → 1 ≤ occ x (range 0 P)
  low x l = range_in x 0 P (omega arith) (omega arith)

  pub high : (x : ℕ) → 1 ≤ occ x (flat N.edges) + occ x (inners N.contents) → P ≤ x
  high x c = go (dec_le P x)
    where
      go : Dec (P ≤ x) → P ≤ x
      go (yes l) = l
      go (no l) = absurd (let m : x < P = omega arith in let z : ⊥ = omega (arith, all_once x, low x m) in z)

  edge_high : (e i : ℕ) → e < E → i < N.n → P ≤ get_or (edge_of N e) i 0
  edge_high e i l h =
      let x : ℕ = get_or (edge_of N e) i 0 in
      let a = on_edge e i l h in
      let b = one_edge x e l in
      high x (omega arith)

  edges_apart : (e i d j : ℕ) → e < E → d < E → i < N.n → j < N.n → get_or (edge_of N e) i 0 ≡ get_or (edge_of N d) j 0 → (e ≡ d) × (i ≡ j)
  edges_apart e i d j l m h k q = go (same? e d)
    where
      a : 1 ≤ occ (get_or (edge_of N d) j 0) (edge_of N e)
      a = subst (λ (y : ℕ). 1 ≤ occ y (edge_of N e)) q (on_edge e i l h)

      b : 1 ≤ occ (get_or (edge_of N d) j 0) (edge_of N d)
      b = on_edge d j m k

      go : Same? e d → (e ≡ d) × (i ≡ j)
      go (is s y) = (
        s,
        get_d_apart (edge_of N e) (λ z. omega (arith, one_edge z e l, all_once z)) i j
            (let c = edge_long e l in omega arith) (let c = edge_long e l in omega arith)
            (q ∙ ap (λ f. get_or (edge_of N f) j 0) (sym s)),
      )
      go (isnt s y) =
          absurd (let z : ⊥ = omega (arith, a, b, two_edges (get_or (edge_of N d) j 0) e d l m s, all_once (get_or (edge_of N d) j 0)) in z)

  -- ---- one triangle
  pub run_occ : (seen : List ℕ) (t : Triangle) (g : NumberedContents) (k : ℕ) → (by_side t).edge k < E → (x : ℕ)
      → occ x (up 0 N.n (λ i. reading N.n (edge_of N) (patch seen t g) k i ∷ [])) ≡ occ x (edge_of N ((by_side t).edge k))
  run_occ seen t g k l x =
      ap (occ x) (run_is N.n (edge_of N ((by_side t).edge k)) (forward seen t k) (edge_long ((by_side t).edge k) l))
      ∙ occ_weigh x (facing (forward seen t k) (edge_of N ((by_side t).edge k)))
      ∙ weigh_facing (hits x) (forward seen t k) (edge_of N ((by_side t).edge k))
      ∙ sym (occ_weigh x (edge_of N ((by_side t).edge k)))

  corners_occ : (t : Triangle) → Below P E t → ThreeCorners t → (x : ℕ) → occ x (t.a ∷ t.b ∷ t.c ∷ []) ≤ occ x (range 0 P)
  corners_occ t b c x = go (dec_le 1 (occ x (t.a ∷ t.b ∷ t.c ∷ [])))
    where
      go : Dec (1 ≤ occ x (t.a ∷ t.b ∷ t.c ∷ [])) → occ x (t.a ∷ t.b ∷ t.c ∷ []) ≤ occ x (range 0 P)
      go (yes h) =
          let l : x < P = in_below P x (t.a ∷ t.b ∷ t.c ∷ []) (b.a<P, (b.b<P, (b.c<P, tt))) h in
          omega (arith, distinct_three t.a t.b t.c c.ab c.bc c.ca x, low x l)
      go (no h) = omega arith

  alone :
      (seen : List ℕ) (t : Triangle) (g : NumberedContents) → Below P E t → ThreeCorners t → Edges3 t
      → ((x : ℕ) → occ x (range 0 P) + occ x (flat N.edges) + occ x (vertices g) ≤ 1) → Alone N.n (edge_of N) (patch seen t g)
  alone seen t g b c e3 h x =
      let r : ℕ → List ℕ = λ k. up 0 N.n (λ i. reading N.n (edge_of N) (patch seen t g) k i ∷ []) in
      let M : List ℕ = r 0 ++ (r 1 ++ r 2) in
      omega (
        arith,
        h x,
        corners_occ t b c x,
        some_edges x (t.ab ∷ t.bc ∷ t.ca ∷ []) (b.ab<E, (b.bc<E, (b.ca<E, tt)))
            (distinct_three t.ab t.bc t.ca (not_ab_bc t e3) (not_bc_ca t e3) (not_ca_ab t e3)),
        run_occ seen t g 0 b.ab<E x,
        run_occ seen t g 1 b.bc<E x,
        run_occ seen t g 2 b.ca<E x,
        occ-++ x (ring_list N.n t.a t.b t.c (reading N.n (edge_of N) (patch seen t g) 0) (reading N.n (edge_of N) (patch seen t g) 1) (reading N.n (edge_of N) (patch seen t g) 2)) (vertices g),
        occ-++ x (t.a ∷ t.b ∷ t.c ∷ []) M,
        occ-++ x (r 0) (r 1 ++ r 2),
        occ-++ x (r 1) (r 2),
      )

  -- ---- two triangles: t, and u among those after it
  record Ahead (t : Triangle) (g : NumberedContents) (seen : List ℕ) (us : List Triangle) (gs : List NumberedContents) (later : List ℕ) : Type 0 where
    pub in_t : (k : ℕ) → In (use_at t k) (uses ts)
    pub three_t : ThreeCorners t
    pub below_t : Below P E t
    pub right_t : OfCount N.n g
    pub in_us : (v : Use) → In v (uses us) → In v (uses ts)
    pub three_us : Each ThreeCorners us
    pub below_us : Each (Below P E) us
    pub way : (e p q : ℕ) → way_count e p q (uses (t ∷ [])) + way_count e p q (uses us) ≤ 1
    pub dif : Each (Differ t) us
    pub right_gs : Each (OfCount N.n) gs
    pub apart : (x : ℕ) → occ x (range 0 P) + occ x (flat N.edges) + occ x (vertices g) + occ x (inners gs) ≤ 1
    pub seen_t : (k : ℕ) → 1 ≤ occ ((by_side t).edge k) later
    pub few : (e : ℕ) → occ e seen + use_count e (uses (t ∷ [])) + use_count e (uses us) ≤ 2

  used_here : (t : Triangle) (k : ℕ) → 1 ≤ use_count ((by_side t).edge k) (uses (t ∷ []))
  used_here t k =
      let a = in_use_count (use_at t k) (uses (t ∷ [])) (in_uses t [] k) in
      let b : use_count ((by_side t).edge k) (uses (t ∷ [])) ≡ use_count (use_at t k).edge (uses (t ∷ [])) = ap (λ e. use_count e (uses (t ∷ []))) (edge_of_lem t k) in
      omega arith

  module _ (t : Triangle) (g : NumberedContents) (seen : List ℕ) (u : Triangle) (us : List Triangle) (h : NumberedContents) (gs : List NumberedContents) (later : List ℕ) (H : Ahead t g seen (u ∷ us) (h ∷ gs) later) where
    in_u : (k : ℕ) → In (use_at u k) (uses ts)
    in_u k = H.in_us (use_at u k) (in_uses u us k)

    here_apart : (x : ℕ) → occ x (range 0 P) + occ x (flat N.edges) + occ x (vertices g) + occ x (vertices h) ≤ 1
    here_apart x = omega (arith, H.apart x, occ-++ x (vertices h) (inners gs))

    high_vertex : (x : ℕ) → 1 ≤ occ x (vertices g) + occ x (vertices h) → P ≤ x
    high_vertex x c = go (dec_le P x)
      where
        go : Dec (P ≤ x) → P ≤ x
        go (yes l) = l
        go (no l) = absurd (let m : x < P = omega arith in let z : ⊥ = omega (arith, here_apart x, low x m) in z)

    edge_t : (k : ℕ) → (by_side t).edge k < E
    edge_t k = edge_below P E t H.below_t k

    edge_u : (k : ℕ) → (by_side u).edge k < E
    edge_u k = edge_below P E u H.below_us.0 k

    not_within : (e i : ℕ) → e < E → i < N.n → 1 ≤ occ (get_or (edge_of N e) i 0) (vertices g) + occ (get_or (edge_of N e) i 0) (vertices h) → ⊥
    not_within e i l m c =
        let x : ℕ = get_or (edge_of N e) i 0 in
        omega (arith, on_edge e i l m, one_edge x e l, here_apart x)

    against : (k j : ℕ) → k < 3 → j < 3 → (by_side t).edge k ≡ (by_side u).edge j → (forward seen t k ≡ true) × (forward later u j ≡ false)
    against k j a b e =
        let x = used_here t k in
        let y = used_here u j in
        let z : use_count ((by_side u).edge j) (uses (u ∷ [])) ≡ use_count ((by_side t).edge k) (uses (u ∷ [])) = ap (λ d. use_count d (uses (u ∷ []))) (sym e) in
        let none : occ ((by_side t).edge k) seen ≡ 0 = omega (arith, H.few ((by_side t).edge k), use_count_split ((by_side t).edge k) u us) in (
          forward_yes seen t (edge_apart P E ts A t H.three_t H.in_t) k a none,
          forward_no later u j b (subst (λ (d : ℕ). 1 ≤ occ d later) e (H.seen_t k)),
        )

    placed : Placed N.n P (edge_of N) (patch seen t g) (patch later u h)
    placed =
        record {
          beside =
              beside P E ts A t u H.in_t in_u H.three_t H.three_us.0
              (λ e p q. omega (arith, H.way e p q, way_count_split e p q u us)) H.dif.0;
          right_t = H.right_t;
          right_u = H.right_gs.0;
          point_t = λ k l. corner_below P E t H.below_t k;
          point_u = λ k l. corner_below P E u H.below_us.0 k;
          edge_high_t = λ k i l m. edge_high ((by_side t).edge k) i (edge_t k) m;
          edge_high_u = λ k i l m. edge_high ((by_side u).edge k) i (edge_u k) m;
          inner_high_t = λ x c. high_vertex x (omega arith);
          inner_high_u = λ x c. high_vertex x (omega arith);
          edges_apart = λ k i l j a b c d e. edges_apart ((by_side t).edge k) i ((by_side u).edge l) j (edge_t k) (edge_u l) c d e;
          edge_inner_t = λ k i a b c. not_within ((by_side u).edge k) i (edge_u k) b (omega arith);
          edge_inner_u = λ k i a b c. not_within ((by_side t).edge k) i (edge_t k) b (omega arith);
          inner_apart = λ x a b. omega (arith, here_apart x);
          against = λ k j a b e. inl (against k j a b e);
        }

    next : Ahead t g seen us gs (u.ca ∷ u.bc ∷ u.ab ∷ later)
    next =
        record {
          in_t = H.in_t;
          three_t = H.three_t;
          below_t = H.below_t;
          right_t = H.right_t;
          in_us = λ v i. H.in_us v (inr (inr (inr i)));
          three_us = H.three_us.1;
          below_us = H.below_us.1;
          way = λ e p q. omega (arith, H.way e p q, way_count_split e p q u us);
          dif = H.dif.1;
          right_gs = H.right_gs.1;
          apart = λ x. omega (arith, H.apart x, occ-++ x (vertices h) (inners gs));
          seen_t = λ k.
              omega (
                arith,
                H.seen_t k,
                occ-cons ((by_side t).edge k) u.ca (u.bc ∷ u.ab ∷ later),
                occ-cons ((by_side t).edge k) u.bc (u.ab ∷ later),
                occ-cons ((by_side t).edge k) u.ab later,
              );
          few = λ e. omega (arith, H.few e, use_count_split e u us);
        }

  placed_all :
      (t : Triangle) (g : NumberedContents) (seen : List ℕ) (us : List Triangle) (gs : List NumberedContents) (later : List ℕ) → Ahead t g seen us gs later
      → PlacedAll N.n P (edge_of N) (patch seen t g) (patches_from later us gs)
  placed_all t g seen [] gs later H = tt
  placed_all t g seen (u ∷ us) [] later H = tt
  placed_all t g seen (u ∷ us) (h ∷ gs) later H =
      (placed t g seen u us h gs later H, placed_all t g seen us gs (u.ca ∷ u.bc ∷ u.ab ∷ later) (next t g seen u us h gs later H))

  -- ---- all of them
  pub record Rest (seen : List ℕ) (us : List Triangle) (gs : List NumberedContents) : Type 0 where
    pub in_us : (v : Use) → In v (uses us) → In v (uses ts)
    pub three_us : Each ThreeCorners us
    pub below_us : Each (Below P E) us
    pub way : (e p q : ℕ) → way_count e p q (uses us) ≤ 1
    pub dif : Pairs Differ us
    pub right_gs : Each (OfCount N.n) gs
    pub apart : (x : ℕ) → occ x (range 0 P) + occ x (flat N.edges) + occ x (inners gs) ≤ 1
    pub few : (e : ℕ) → occ e seen + use_count e (uses us) ≤ 2

  module _ (seen : List ℕ) (t : Triangle) (us : List Triangle) (g : NumberedContents) (gs : List NumberedContents) (H : Rest seen (t ∷ us) (g ∷ gs)) where
    pub edges3 : Edges3 t
    edges3 = edge_apart P E ts A t H.three_us.0 (λ k. H.in_us (use_at t k) (in_uses t us k))

    seen_own : (k : ℕ) → 1 ≤ occ ((by_side t).edge k) (t.ca ∷ t.bc ∷ t.ab ∷ seen)
    seen_own k = go k
      where
        e : (x : ℕ) → occ x (t.ca ∷ t.bc ∷ t.ab ∷ seen) ≡ hits x t.ca + (hits x t.bc + (hits x t.ab + occ x seen))
        e x =
            occ-cons x t.ca (t.bc ∷ t.ab ∷ seen)
            ∙ ap (λ n. hits x t.ca + n) (occ-cons x t.bc (t.ab ∷ seen) ∙ ap (λ n. hits x t.bc + n) (occ-cons x t.ab seen))

        go : (k : ℕ) → 1 ≤ occ ((by_side t).edge k) (t.ca ∷ t.bc ∷ t.ab ∷ seen)
        go zero = omega (arith, e t.ab, hits_yes t.ab t.ab refl)
        go (suc zero) = omega (arith, e t.bc, hits_yes t.bc t.bc refl)
        go (suc (suc k)) = omega (arith, e t.ca, hits_yes t.ca t.ca refl)

    ahead : Ahead t g seen us gs (t.ca ∷ t.bc ∷ t.ab ∷ seen)
    ahead =
        record {
          in_t = λ k. H.in_us (use_at t k) (in_uses t us k);
          three_t = H.three_us.0;
          below_t = H.below_us.0;
          right_t = H.right_gs.0;
          in_us = λ v i. H.in_us v (inr (inr (inr i)));
          three_us = H.three_us.1;
          below_us = H.below_us.1;
          way = λ e p q. omega (arith, H.way e p q, way_count_split e p q t us);
          dif = H.dif.0;
          right_gs = H.right_gs.1;
          apart = λ x. omega (arith, H.apart x, occ-++ x (vertices g) (inners gs));
          seen_t = seen_own;
          few = λ e. omega (arith, H.few e, use_count_split e t us);
        }

    pub rest : Rest (t.ca ∷ t.bc ∷ t.ab ∷ seen) us gs
    rest =
        record {
          in_us = λ v i. H.in_us v (inr (inr (inr i)));
          three_us = H.three_us.1;
          below_us = H.below_us.1;
          way = λ e p q. omega (arith, H.way e p q, way_count_split e p q t us);
          dif = H.dif.1;
          right_gs = H.right_gs.1;
          apart = λ x. omega (arith, H.apart x, occ-++ x (vertices g) (inners gs));
          few = λ e.
              omega (
                arith,
                H.few e,
                occ-cons e t.ca (t.bc ∷ t.ab ∷ seen),
                occ-cons e t.bc (t.ab ∷ seen),
                occ-cons e t.ab seen,
                use_count-cons e (walk t.ab t.a t.b) (walk t.bc t.b t.c ∷ walk t.ca t.c t.a ∷ uses us),
                use_count-cons e (walk t.bc t.b t.c) (walk t.ca t.c t.a ∷ uses us),
                use_count-cons e (walk t.ca t.c t.a) (uses us),
              );
        }

    own_apart : (x : ℕ) → occ x (range 0 P) + occ x (flat N.edges) + occ x (vertices g) ≤ 1
    own_apart x = omega (arith, H.apart x, occ-++ x (vertices g) (inners gs))

  rest_placed : (seen : List ℕ) (us : List Triangle) (gs : List NumberedContents) → Rest seen us gs → AllPlaced N.n P (edge_of N) (patches_from seen us gs)
  rest_placed seen [] gs H = tt
  rest_placed seen (t ∷ us) [] H = tt
  rest_placed seen (t ∷ us) (g ∷ gs) H = (
    (H.right_gs.0, alone seen t g H.below_us.0 H.three_us.0 (edges3 seen t us g gs H) (own_apart seen t us g gs H)),
    placed_all t g seen us gs (t.ca ∷ t.bc ∷ t.ab ∷ seen) (ahead seen t us g gs H),
    rest_placed (t.ca ∷ t.bc ∷ t.ab ∷ seen) us gs (rest seen t us g gs H),
  )

  pub whole : Rest [] ts N.contents
  whole =
      record {
        in_us = λ v i. i;
        three_us = A.three;
        below_us = A.below;
        way = A.each_way;
        dif = A.differ;
        right_gs = I.right;
        apart = all_once;
        few = λ e. omega (arith, used_twice P E ts A e);
      }

  pub all_placed : AllPlaced N.n P (edge_of N) (patches ts N)
  all_placed = rest_placed [] ts N.contents whole
