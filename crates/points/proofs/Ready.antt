-- Over a whole mesh: no place is written twice, and each write reads what was written before.
use Rattle.std.proofs.Common.{◌≡◌, ℕ, suc, ◌+◌, ◌-◌, ◌<◌, ◌≤◌, Bool, true, false, cond, not, eqb, List, [], ◌∷◌, ◌++◌, length, get_or, sym, refl, ap, ◌∙◌, subst, arith}
use native.Mathlib.Decide.{dec_le}
use Rattle.pattern.specs.Place.{turned, reading}
use Rattle.pattern.specs.Sides.{occ, among}
use Rattle.pattern.specs.Step.{NumberedContents, view, vertices, range, OfCount}
use Rattle.pattern.proofs.Count.{weigh}
use Rattle.pattern.proofs.Fresh.{read_all, view_list}
use Rattle.pattern.proofs.Grow.{sized}
use Rattle.shape.specs.Questions.{Below, Accepted}
use Rattle.shape.specs.Lists.{Each}
use Rattle.shape.specs.Sides.{use_count, Use, walk, uses}
use Rattle.shape.specs.declared.triangle.Triangle.{Triangle}
use Rattle.mesh.specs.Numbering.{Numbering, edge_of, flat, inners}
use Rattle.mesh.specs.Faces.{by_side, forward, patches_from, patches}
use Rattle.mesh.proofs.Firsts.{Seen?, old, new, seen?, firsts, firsts_below, firsts_one, first_or_later}
use Rattle.mesh.proofs.Invariant.{Inv}
use Rattle.mesh.proofs.Placed.{edge_long, some_edges}
use Rattle.pattern.proofs.Occurrences.{hits_yes, hits_no, Same?, is, isnt, same?, occ-cons, occ-++, occ_alike, range_in}
use Rattle.points.specs.Calculating.{Write, along, point_writes, contents_writes, patches_writes}
use Rattle.points.proofs.Writes.{run_of, places, all_places, Ready}
use Rattle.points.proofs.Contents.{places_contents, Known, known_run, ready_contents}

module _ {Point : Type 0} where
  -- ---- lists of writes, one after the other
  abbrev pub seen_after : List ℕ → List (Write Point) → List ℕ
  seen_after seen [] = seen
  seen_after seen (w ∷ ws) = seen_after (places w ++ seen) ws

  pub occ_after : (x : ℕ) (seen : List ℕ) (ws : List (Write Point)) → occ x (seen_after seen ws) ≡ occ x seen + occ x (all_places ws)
  occ_after x seen [] = omega arith
  occ_after x seen (w ∷ ws) = omega (arith, occ_after x (places w ++ seen) ws, occ-++ x (places w) seen, occ-++ x (places w) (all_places ws))

  pub after-++ : (seen : List ℕ) (ws vs : List (Write Point)) → seen_after seen (ws ++ vs) ≡ seen_after (seen_after seen ws) vs
  after-++ seen [] vs = refl
  after-++ seen (w ∷ ws) vs = after-++ (places w ++ seen) ws vs

  pub ready-++ : (seen : List ℕ) (ws vs : List (Write Point)) → Ready seen ws → Ready (seen_after seen ws) vs → Ready seen (ws ++ vs)
  ready-++ seen [] vs r s = s
  ready-++ seen (w ∷ ws) vs r s = (r.0, ready-++ (places w ++ seen) ws vs r.1 s)

  pub places-++ : (x : ℕ) (ws vs : List (Write Point)) → occ x (all_places (ws ++ vs)) ≡ occ x (all_places ws) + occ x (all_places vs)
  places-++ x [] vs = omega arith
  places-++ x (w ∷ ws) vs =
      omega (arith, places-++ x ws vs, occ-++ x (places w) (all_places (ws ++ vs)), occ-++ x (places w) (all_places ws))

  -- ---- the points
  pub places_points : (i : ℕ) (ps : List Point) → all_places (point_writes i ps) ≡ range i (length ps)
  places_points i [] = refl
  places_points i (p ∷ ps) = ap (λ l. i ∷ l) (places_points (suc i) ps)

  pub ready_points : (seen : List ℕ) (i : ℕ) (ps : List Point) → Ready seen (point_writes i ps)
  ready_points seen i [] = tt
  ready_points seen i (p ∷ ps) = (tt, ready_points (i ∷ seen) (suc i) ps)

known_after : {Point : Type 0} (xs : ℕ → ℕ) (m : ℕ) (seen : List ℕ) (ws : List (Write Point)) → Known seen xs m → Known (seen_after seen ws) xs m
known_after xs m seen ws k i l = omega (arith, k i l, occ_after (xs i) seen ws)

known_turned : (seen l : List ℕ) (n : ℕ) (b : Bool) → Known seen (λ i. get_or l i 0) n → Known seen (λ i. get_or l (turned n b i) 0) n
known_turned seen l n true k i lt = k i lt
known_turned seen l n false k i lt = k (n - suc i) (omega arith)

module _ (Point : Type 0) (n : ℕ) (E : ℕ → List ℕ) where
  -- ---- one use of an edge, where b says whether the edge was seen before
  abbrev pub use_writes : Bool → Use → List (Write Point)
  use_writes b u = cond (not b) (along n (λ i. get_or (E u.edge) i 0) u.start u.stop ∷ []) []

  ready_use : (seen : List ℕ) (b : Bool) (u : Use) → 1 ≤ occ u.start seen → 1 ≤ occ u.stop seen → Ready seen (use_writes b u)
  ready_use seen true u p q = tt
  ready_use seen false u p q = ((p, (q, tt)), tt)

  -- the vertices of every edge in es are seen
  abbrev EdgesKnown : List ℕ → List ℕ → Type 0
  EdgesKnown seen es = (e : ℕ) → 1 ≤ occ e es → Known seen (λ i. get_or (E e) i 0) n

  known_use : (seen es : List ℕ) (u : Use) → EdgesKnown seen es → EdgesKnown (seen_after seen (use_writes (among eqb u.edge es) u)) (u.edge ∷ es)
  known_use seen es u k e h = go (same? e u.edge) (seen? u.edge es)
    where
      go : Same? e u.edge → Seen? u.edge es → Known (seen_after seen (use_writes (among eqb u.edge es) u)) (λ i. get_or (E e) i 0) n
      go (isnt d x) s =
          known_after (λ i. get_or (E e) i 0) n seen (use_writes (among eqb u.edge es) u)
          (k e (omega (arith, occ-cons e u.edge es, hits_no e u.edge d)))
      go (is d x) (old c b) =
          known_after (λ i. get_or (E e) i 0) n seen (use_writes (among eqb u.edge es) u)
          (k e (subst (λ (y : ℕ). 1 ≤ occ y es) (sym d) c))
      go (is d x) (new c b) =
          subst (λ (v : Bool). Known (seen_after seen (use_writes v u)) (λ i. get_or (E e) i 0) n) (sym b)
          (subst (λ (y : ℕ). Known (run_of (λ i. get_or (E u.edge) i 0) 0 n ++ seen) (λ i. get_or (E y) i 0) n) (sym d)
          (known_run (λ i. get_or (E u.edge) i 0) n seen))

  module _ (P : ℕ) where
    abbrev Corners : List ℕ → Type 0
    Corners seen = (x : ℕ) → x < P → 1 ≤ occ x seen

    corners_after : (seen : List ℕ) (ws : List (Write Point)) → Corners seen → Corners (seen_after seen ws)
    corners_after seen ws c x l = omega (arith, c x l, occ_after x seen ws)

    pub ready_patches :
        (D : ℕ) (seen es : List ℕ) (ts : List Triangle) (gs : List NumberedContents) → Each (Below P D) ts → Each (OfCount n) gs → Corners seen → EdgesKnown seen es
        → Ready {Point = Point} seen (patches_writes n E (patches_from es ts gs))
    ready_patches D seen es [] gs b r c k = tt
    ready_patches D seen es (t ∷ ts) [] b r c k = tt
    ready_patches D seen es (t ∷ ts) (g ∷ gs) b r c k =
        let u0 : Use = walk t.ab t.a t.b in
        let u1 : Use = walk t.bc t.b t.c in
        let u2 : Use = walk t.ca t.c t.a in
        let W0 : List (Write Point) = use_writes (among eqb t.ab es) u0 in
        let W1 : List (Write Point) = use_writes (among eqb t.bc (t.ab ∷ es)) u1 in
        let W2 : List (Write Point) = use_writes (among eqb t.ca (t.bc ∷ t.ab ∷ es)) u2 in
        let rd : ℕ → ℕ → ℕ = λ j i. reading n E (record { tri = by_side t; forth = forward es t; inner = g }) j i in
        let C : List (Write Point) = contents_writes n (rd 0) (rd 1) (rd 2) (view g) in
        let S1 : List ℕ = seen_after seen W0 in
        let S2 : List ℕ = seen_after S1 W1 in
        let S3 : List ℕ = seen_after S2 W2 in
        let es3 : List ℕ = t.ca ∷ t.bc ∷ t.ab ∷ es in
        let c1 = corners_after seen W0 c in
        let c2 = corners_after S1 W1 c1 in
        let c3 = corners_after S2 W2 c2 in
        let k1 = known_use seen es u0 k in
        let k2 = known_use S1 (t.ab ∷ es) u1 k1 in
        let k3 = known_use S2 (t.bc ∷ t.ab ∷ es) u2 k2 in
        let a<P = b.0.a<P in
        let b<P = b.0.b<P in
        let c<P = b.0.c<P in
        let o1 : (x y z : ℕ) (l : List ℕ) → 1 ≤ occ x (x ∷ l) = λ x y z l. omega (arith, occ-cons x x l, hits_yes x x refl) in
        let in0 : 1 ≤ occ t.ab es3 = omega (arith, o1 t.ab 0 0 es, occ-cons t.ab t.ca (t.bc ∷ t.ab ∷ es), occ-cons t.ab t.bc (t.ab ∷ es)) in
        let in1 : 1 ≤ occ t.bc es3 = omega (arith, o1 t.bc 0 0 (t.ab ∷ es), occ-cons t.bc t.ca (t.bc ∷ t.ab ∷ es)) in
        let in2 : 1 ≤ occ t.ca es3 = o1 t.ca 0 0 (t.bc ∷ t.ab ∷ es) in
        let rc : Ready S3 C
        = ready_contents Point S3 n (rd 0) (rd 1) (rd 2) (view g) (sized n g r.0)
        (known_turned S3 (E t.ab) n (forward es t 0) (k3 t.ab in0))
        (known_turned S3 (E t.bc) n (forward es t 1) (k3 t.bc in1))
        (known_turned S3 (E t.ca) n (forward es t 2) (k3 t.ca in2)) in
        let front : Ready seen (W0 ++ (W1 ++ (W2 ++ C)))
        = ready-++ seen W0 (W1 ++ (W2 ++ C)) (ready_use seen (among eqb t.ab es) u0 (c t.a a<P) (c t.b b<P))
        (ready-++ S1 W1 (W2 ++ C) (ready_use S1 (among eqb t.bc (t.ab ∷ es)) u1 (c1 t.b b<P) (c1 t.c c<P))
        (ready-++ S2 W2 C (ready_use S2 (among eqb t.ca (t.bc ∷ t.ab ∷ es)) u2 (c2 t.c c<P) (c2 t.a a<P)) rc)) in
        let same : seen_after S3 C ≡ seen_after seen (W0 ++ (W1 ++ (W2 ++ C)))
        = sym (after-++ seen W0 (W1 ++ (W2 ++ C)) ∙ after-++ S1 W1 (W2 ++ C) ∙ after-++ S2 W2 C) in
        ready-++ seen (W0 ++ (W1 ++ (W2 ++ C))) (patches_writes n E (patches_from es3 ts gs)) front
        (subst (λ (s : List ℕ). Ready {Point = Point} s (patches_writes n E (patches_from es3 ts gs))) same
        (ready_patches D (seen_after S3 C) es3 ts gs b.1 r.1 (corners_after S3 C c3)
        (λ e h. known_after (λ i. get_or (E e) i 0) n S3 C (k3 e h))))

-- ---- no place twice
module _ (Point : Type 0) (P D : ℕ) (ts : List Triangle) (A : Accepted P D ts) (N : Numbering) (I : Inv P D (length ts) N) where
  edge_run : (l : List ℕ) (n : ℕ) → length l ≡ n → run_of (λ i. get_or l i 0) 0 n ≡ l
  edge_run l n e = ap (λ m. run_of (λ i. get_or l i 0) 0 m) (sym e) ∙ read_all l

  abbrev on_edges : ℕ → ℕ → ℕ
  on_edges x e = occ x (edge_of N e)

  use_places :
      (x : ℕ) (b : Bool) (u : Use) (X : List ℕ) → u.edge < D
      → occ x (all_places (use_writes Point N.n (edge_of N) b u)) + weigh (on_edges x) X ≡ weigh (on_edges x) (cond b X (u.edge ∷ X))
  use_places x true u X l = omega arith
  use_places x false u X l =
      let r : List ℕ = run_of (λ i. get_or (edge_of N u.edge) i 0) 0 N.n in
      omega (arith, occ-++ x r [], ap (occ x) (edge_run (edge_of N u.edge) N.n (edge_long P D ts A N I u.edge l)))

  patches_places :
      (x : ℕ) (es : List ℕ) (us : List Triangle) (gs : List NumberedContents) → Each (Below P D) us → Each (OfCount N.n) gs
      → occ x (all_places (patches_writes {Point = Point} N.n (edge_of N) (patches_from es us gs))) ≤ weigh (on_edges x) (firsts es (uses us)) + occ x (inners gs)
  patches_places x es [] gs b r = omega arith
  patches_places x es (t ∷ us) [] b r = omega arith
  patches_places x es (t ∷ us) (g ∷ gs) b r =
      let n : ℕ = N.n in
      let E : ℕ → List ℕ = edge_of N in
      let u0 : Use = walk t.ab t.a t.b in
      let u1 : Use = walk t.bc t.b t.c in
      let u2 : Use = walk t.ca t.c t.a in
      let W0 : List (Write Point) = use_writes Point n E (among eqb t.ab es) u0 in
      let W1 : List (Write Point) = use_writes Point n E (among eqb t.bc (t.ab ∷ es)) u1 in
      let W2 : List (Write Point) = use_writes Point n E (among eqb t.ca (t.bc ∷ t.ab ∷ es)) u2 in
      let rd : ℕ → ℕ → ℕ = λ j i. reading n E (record { tri = by_side t; forth = forward es t; inner = g }) j i in
      let C : List (Write Point) = contents_writes n (rd 0) (rd 1) (rd 2) (view g) in
      let es3 : List ℕ = t.ca ∷ t.bc ∷ t.ab ∷ es in
      let rest : List (Write Point) = patches_writes n E (patches_from es3 us gs) in
      let X3 : List ℕ = firsts es3 (uses us) in
      let X2 : List ℕ = cond (among eqb t.ca (t.bc ∷ t.ab ∷ es)) X3 (t.ca ∷ X3) in
      let X1 : List ℕ = cond (among eqb t.bc (t.ab ∷ es)) X2 (t.bc ∷ X2) in
      let h0 = use_places x (among eqb t.ab es) u0 X1 b.0.ab<E in
      let h1 = use_places x (among eqb t.bc (t.ab ∷ es)) u1 X2 b.0.bc<E in
      let h2 = use_places x (among eqb t.ca (t.bc ∷ t.ab ∷ es)) u2 X3 b.0.ca<E in
      let c : occ x (all_places C) ≡ occ x (vertices g) = ap (occ x) (places_contents Point n (rd 0) (rd 1) (rd 2) (view g) ∙ view_list n g r.0) in
      let ih = patches_places x es3 us gs b.1 r.1 in
      let p0 = places-++ x (W0 ++ (W1 ++ (W2 ++ C))) rest in
      let p1 = places-++ x W0 (W1 ++ (W2 ++ C)) in
      let p2 = places-++ x W1 (W2 ++ C) in
      let p3 = places-++ x W2 C in
      let p4 = occ-++ x (vertices g) (inners gs) in
      omega arith

  edges_below : (us : List Triangle) → Each (Below P D) us → Each (λ u. u.edge < D) (uses us)
  edges_below [] b = tt
  edges_below (t ∷ us) b = (b.0.ab<E, (b.0.bc<E, (b.0.ca<E, edges_below us b.1)))

  firsts_once : (e : ℕ) → occ e (firsts [] (uses ts)) ≤ 1
  firsts_once e = go (dec_le 1 (use_count e (uses ts)))
    where
      go : Dec (1 ≤ use_count e (uses ts)) → occ e (firsts [] (uses ts)) ≤ 1
      go (yes h) = omega (arith, firsts_one e [] (uses ts) refl h)
      go (no h) = omega (arith, first_or_later e [] (uses ts))

  pub all_places_lem :
      (ps : List Point) → length ps ≡ P → (x : ℕ)
      → occ x (all_places (point_writes 0 ps ++ patches_writes N.n (edge_of N) (patches ts N))) ≤ occ x (range 0 N.total)
  all_places_lem ps e x =
      let a = places-++ x (point_writes 0 ps) (patches_writes N.n (edge_of N) (patches ts N)) in
      let b : occ x (all_places (point_writes 0 ps)) ≡ occ x (range 0 P) = ap (occ x) (places_points 0 ps ∙ ap (range 0) e) in
      let c = patches_places x [] ts N.contents A.below I.right in
      let d = some_edges P D ts A N I x (firsts [] (uses ts)) (firsts_below D [] (uses ts) (edges_below ts A.below)) firsts_once in
      omega (
        arith,
        occ_alike (range 0 P ++ (flat N.edges ++ inners N.contents)) (range 0 N.total) I.all x,
        occ-++ x (range 0 P) (flat N.edges ++ inners N.contents),
        occ-++ x (flat N.edges) (inners N.contents),
      )

  pub all_ready : (ps : List Point) → length ps ≡ P → Ready [] (point_writes 0 ps ++ patches_writes N.n (edge_of N) (patches ts N))
  all_ready ps e =
      ready-++ [] (point_writes 0 ps) (patches_writes N.n (edge_of N) (patches ts N)) (ready_points [] 0 ps)
      (ready_patches Point N.n (edge_of N) P D (seen_after [] (point_writes 0 ps)) [] ts N.contents A.below I.right
      (λ x l. let i = range_in x 0 P (omega arith) (omega arith) in
      omega (arith, occ_after x [] (point_writes 0 ps), ap (occ x) (places_points 0 ps ∙ ap (range 0) e)))
      (λ e h. absurd (let z : ⊥ = omega arith in z)))
