-- Equal bases and equal counts give equal points, place by place.
use Rattle.std.proofs.Common.{◌≡◌, ℕ, zero, suc, ◌<◌, ◌≤◌, Bool, true, false, cond, T, eqb, List, [], ◌∷◌, ◌++◌, map, length, get_or, sym, refl, ap, ◌∙◌, subst, arith}
use mathlib.Core.List.{map-append, map-map}
use Rattle.pattern.specs.Place.{BySide, patch_vertex, reading, patch_faces, all_faces, turned}
use Rattle.pattern.specs.Ring.{pick, Face, Contents, none, one, three, six, more, map_face}
use Rattle.pattern.specs.Sides.{face_sides}
use Rattle.shape.specs.Sides.{both, Use, uses}
use Rattle.pattern.specs.Spot.{Spot, is_spot, ends, spot_faces}
use Rattle.pattern.specs.Step.{NumberedContents, view, OfCount}
use Rattle.pattern.specs.Vertex.{on_ring, vertex_in, vertex_at}
use Rattle.pattern.proofs.Count.{every, both_left, both_right}
use Rattle.pattern.proofs.Grow.{sized}
use Rattle.pattern.proofs.Link.{faces_of_spots}
use Rattle.pattern.proofs.Spots.{s_spots}
use Rattle.shape.specs.Questions.{Below, Accepted}
use Rattle.shape.specs.Lists.{Each}
use Rattle.shape.specs.declared.triangle.Triangle.{Triangle}
use Rattle.mesh.specs.Numbering.{Numbering, edge_of, Reached}
use Rattle.mesh.specs.Faces.{by_side, patches_from, patches, first_use}
use Rattle.mesh.proofs.Invariant.{Inv, reached_inv}
use Rattle.points.specs.Calculating.{Meaning, calculated}
use Rattle.points.specs.Places.{corner_point, edge_point, filled, side_point, contents_points, point_at, PlacedAs}
use Rattle.points.specs.Promises.{Both, BothFace, SameBase, point_faces}
use Rattle.mesh.proofs.Placed.{patch}
use Rattle.points.proofs.Where.{points_placed}

-- ---- contents with R between their names
data Like {X Y : Type 0} (R : X → Y → Type 0) : Contents X → Contents Y → Type 0 where
  l_none : Like R none none
  l_one : {x : X} {y : Y} → R x y → Like R (one x) (one y)
  l_three : {a b c : X} {a' b' c' : Y} → R a a' → R b b' → R c c' → Like R (three a b c) (three a' b' c')
  l_six :
      {a b c ab bc ca : X} {a' b' c' ab' bc' ca' : Y} → R a a' → R b b' → R c c' → R ab ab' → R bc bc' → R ca ca'
      → Like R (six a b c ab bc ca) (six a' b' c' ab' bc' ca')
  l_more :
      {a b c : X} {a' b' c' : Y} {L : ℕ} {ab bc ca : ℕ → X} {ab' bc' ca' : ℕ → Y} {s : Contents X} {s' : Contents Y}
      → R a a' → R b b' → R c c' → ((i : ℕ) → R (ab i) (ab' i)) → ((i : ℕ) → R (bc i) (bc' i)) → ((i : ℕ) → R (ca i) (ca' i)) → Like R s s'
      → Like R (more a b c L ab bc ca s) (more a' b' c' L ab' bc' ca' s')

module _ {X Y : Type 0} (R : X → Y → Type 0) where
  pick_like : (k : ℕ) (x y z : X) (x' y' z' : Y) → R x x' → R y y' → R z z' → R (pick k x y z) (pick k x' y' z')
  pick_like zero x y z x' y' z' a b c = a
  pick_like (suc zero) x y z x' y' z' a b c = b
  pick_like (suc (suc k)) x y z x' y' z' a b c = c

  ring_like :
      (a b c : X) (ab bc ca : ℕ → X) (a' b' c' : Y) (ab' bc' ca' : ℕ → Y) → R a a' → R b b' → R c c'
      → ((i : ℕ) → R (ab i) (ab' i)) → ((i : ℕ) → R (bc i) (bc' i)) → ((i : ℕ) → R (ca i) (ca' i)) → (k i : ℕ)
      → R (on_ring a b c ab bc ca k i) (on_ring a' b' c' ab' bc' ca' k i)
  ring_like a b c ab bc ca a' b' c' ab' bc' ca' ra rb rc rab rbc rca k zero = pick_like k a b c a' b' c' ra rb rc
  ring_like a b c ab bc ca a' b' c' ab' bc' ca' ra rb rc rab rbc rca k (suc i) =
      pick_like k (ab i) (bc i) (ca i) (ab' i) (bc' i) (ca' i) (rab i) (rbc i) (rca i)

  in_like : (x : X) (y : Y) → R x y → (s : Contents X) (s' : Contents Y) → Like R s s' → (d k i : ℕ) → R (vertex_in x s d k i) (vertex_in y s' d k i)
  in_like x y r s s' l_none d k i = r
  in_like x y r s s' (l_one e) d k i = e
  in_like x y r s s' (l_three a b c) d k i = pick_like k _ _ _ _ _ _ a b c
  in_like x y r s s' (l_six a b c ab bc ca) d k i =
      ring_like _ _ _ (λ j. _) (λ j. _) (λ j. _) _ _ _ (λ j. _) (λ j. _) (λ j. _) a b c (λ j. ab) (λ j. bc) (λ j. ca) k i
  in_like x y r s s' (l_more a b c ab bc ca t) zero k i = ring_like _ _ _ _ _ _ _ _ _ _ _ _ a b c ab bc ca k i
  in_like x y r s s' (l_more {s = u} {s' = u'} a b c ab bc ca t) (suc d) k i = in_like x y r u u' t d k i

  vertex_like :
      (a b c : X) (ab bc ca : ℕ → X) (s : Contents X) (a' b' c' : Y) (ab' bc' ca' : ℕ → Y) (s' : Contents Y) → R a a' → R b b' → R c c'
      → ((i : ℕ) → R (ab i) (ab' i)) → ((i : ℕ) → R (bc i) (bc' i)) → ((i : ℕ) → R (ca i) (ca' i)) → Like R s s' → (d k i : ℕ)
      → R (vertex_at a b c ab bc ca s d k i) (vertex_at a' b' c' ab' bc' ca' s' d k i)
  vertex_like a b c ab bc ca s a' b' c' ab' bc' ca' s' ra rb rc rab rbc rca l zero k i =
      ring_like a b c ab bc ca a' b' c' ab' bc' ca' ra rb rc rab rbc rca k i
  vertex_like a b c ab bc ca s a' b' c' ab' bc' ca' s' ra rb rc rab rbc rca l (suc d) k i = in_like a a' ra s s' l d k i

  both_at : (ps : List X) (qs : List Y) (d : X) (d' : Y) → Both R ps qs → (x : ℕ) → x < length ps → R (get_or ps x d) (get_or qs x d')
  both_at [] qs d d' h x l = absurd (let z : ⊥ = omega arith in z)
  both_at (p ∷ ps) [] d d' h x l = absurd h
  both_at (p ∷ ps) (q ∷ qs) d d' h zero l = h.0
  both_at (p ∷ ps) (q ∷ qs) d d' h (suc x) l = both_at ps qs d d' h.1 x (omega arith)

  both_long : (ps : List X) (qs : List Y) → Both R ps qs → length ps ≡ length qs
  both_long [] [] h = refl
  both_long [] (q ∷ qs) h = absurd h
  both_long (p ∷ ps) [] h = absurd h
  both_long (p ∷ ps) (q ∷ qs) h = ap suc (both_long ps qs h.1)

  both-++ : (l m : List X) (l' m' : List Y) → Both R l l' → Both R m m' → Both R (l ++ m) (l' ++ m')
  both-++ [] m [] m' h k = k
  both-++ [] m (y ∷ l') m' h k = absurd h
  both-++ (x ∷ l) m [] m' h k = absurd h
  both-++ (x ∷ l) m (y ∷ l') m' h k = (h.0, both-++ l m l' m' h.1 k)

  -- spot by spot, so face by face
  faces_like :
      (n : ℕ) (f : Spot → X) (g : Spot → Y) → ((p : Spot) → T (is_spot n p) → R (f p) (g p)) → (l : List (Face Spot)) → T (every (ends n) (face_sides l))
      → Both (BothFace R) (map (map_face f) l) (map (map_face g) l)
  faces_like n f g h [] t = tt
  faces_like n f g h (p ∷ l) t =
      let t0 : T (both (ends n (p.1, p.2)) (both (ends n (p.2, p.0)) (every (ends n) (face_sides l)))) = both_right (ends n (p.0, p.1)) _ t in
      let t1 : T (both (ends n (p.2, p.0)) (every (ends n) (face_sides l))) = both_right (ends n (p.1, p.2)) _ t0 in
      let s0 : T (ends n (p.0, p.1)) = both_left (ends n (p.0, p.1)) _ t in
      let s2 : T (ends n (p.2, p.0)) = both_left (ends n (p.2, p.0)) _ t1 in (
        (
          h p.0 (both_left (is_spot n p.0) (is_spot n p.1) s0),
          h p.1 (both_right (is_spot n p.0) (is_spot n p.1) s0),
          h p.2 (both_left (is_spot n p.2) (is_spot n p.0) s2),
        ),
        faces_like n f g h l (both_right (ends n (p.2, p.0)) _ t1),
      )

-- ---- first uses join points of the base
abbrev Joins : ℕ → Use → Type 0
Joins P u = (u.start < P) × (u.stop < P)

joins_cond : (P : ℕ) (b : Bool) (u v : Use) → Joins P u → Joins P v → Joins P (cond b u v)
joins_cond P true u v h k = h
joins_cond P false u v h k = k

first_joins : (P D : ℕ) (e : ℕ) (ts : List Triangle) → 0 < P → Each (Below P D) ts → Joins P (first_use e (uses ts))
first_joins P D e [] z b = (z, z)
first_joins P D e (t ∷ ts) z b =
    joins_cond P (eqb e t.ab) _ _ (b.0.a<P, b.0.b<P)
    (joins_cond P (eqb e t.bc) _ _ (b.0.b<P, b.0.c<P)
    (joins_cond P (eqb e t.ca) _ _ (b.0.c<P, b.0.a<P) (first_joins P D e ts z b.1)))

module _ {Point Frac : Type 0} (share : ℕ → ℕ → Frac) (blank : Point) (R : Point → Point → Type 0) (M M' : Meaning Point Frac) (S : SameBase share R M M') where
  filled_like :
      (n : ℕ) (ab bc ca ab' bc' ca' : ℕ → Point) → ((i : ℕ) → R (ab i) (ab' i)) → ((i : ℕ) → R (bc i) (bc' i)) → ((i : ℕ) → R (ca i) (ca' i))
      → Like R (filled share blank M n ab bc ca) (filled share blank M' n ab' bc' ca')
  filled_like zero ab bc ca ab' bc' ca' rab rbc rca = l_none
  filled_like (suc zero) ab bc ca ab' bc' ca' rab rbc rca = l_none
  filled_like (suc (suc zero)) ab bc ca ab' bc' ca' rab rbc rca = l_one (S.half _ _ _ _ (rab 0) (rbc 1))
  filled_like (suc (suc (suc zero))) ab bc ca ab' bc' ca' rab rbc rca =
      l_three (S.half _ _ _ _ (rab 1) (rca 1)) (S.half _ _ _ _ (rbc 1) (rab 1)) (S.half _ _ _ _ (rca 1) (rbc 1))
  filled_like (suc (suc (suc (suc zero)))) ab bc ca ab' bc' ca' rab rbc rca =
      let a = S.half _ _ _ _ (rab 1) (rca 2) in
      let b = S.half _ _ _ _ (rab 2) (rbc 1) in
      let c = S.half _ _ _ _ (rbc 2) (rca 1) in
      l_six a b c (S.half _ _ _ _ a b) (S.half _ _ _ _ b c) (S.half _ _ _ _ c a)
  filled_like (suc (suc (suc (suc (suc k))))) ab bc ca ab' bc' ca' rab rbc rca =
      let z : ℕ = suc (suc (suc k)) in
      let a = S.half _ _ _ _ (rab 1) (rca z) in
      let b = S.half _ _ _ _ (rab z) (rbc 1) in
      let c = S.half _ _ _ _ (rbc z) (rca 1) in
      let sab = λ (i : ℕ). S.between _ _ _ _ a b i (suc (suc k)) in
      let sbc = λ (i : ℕ). S.between _ _ _ _ b c i (suc (suc k)) in
      let sca = λ (i : ℕ). S.between _ _ _ _ c a i (suc (suc k)) in
      l_more a b c sab sbc sca (filled_like (suc (suc k)) _ _ _ _ _ _ sab sbc sca)

  module _ (A : Accepted (length M.points) M.edges M.triangles) where
    corner_like : (x : ℕ) → x < length M.points → R (corner_point blank M x) (corner_point blank M' x)
    corner_like x l = both_at R M.points M'.points blank blank S.points x l

    edge_like : (n e i : ℕ) → R (edge_point share blank M n e i) (edge_point share blank M' n e i)
    edge_like n e i =
        let u : Use = first_use e (uses M.triangles) in
        let j : Joins (length M.points) (first_use e (uses M.triangles))
        = first_joins (length M.points) M.edges e M.triangles (let z = A.sizes.points.0 in let y : 0 < length M.points = omega arith in y) A.below in
        subst
        (λ (ts : List Triangle). R (edge_point share blank M n e i)
        (M'.between (corner_point blank M' (first_use e (uses ts)).start) (corner_point blank M' (first_use e (uses ts)).stop) (share i n)))
        S.triangles
        (S.between _ _ _ _ (corner_like (first_use e (uses M.triangles)).start j.0) (corner_like (first_use e (uses M.triangles)).stop j.1) i n)

    side_like : (n : ℕ) (t : BySide) (k i : ℕ) → R (side_point share blank M n t k i) (side_point share blank M' n t k i)
    side_like n t k i =
        subst
        (λ (ts : List Triangle). R (side_point share blank M n t k i) (edge_point share blank M' n (t.edge k) (turned n (eqb (first_use (t.edge k) (uses ts)).start (t.corner k)) i)))
        S.triangles
        (edge_like n (t.edge k) (turned n (eqb (first_use (t.edge k) (uses M.triangles)).start (t.corner k)) i))

    point_like :
        (n : ℕ) (t : Triangle) → Below (length M.points) M.edges t → (p : Spot)
        → R (point_at share blank M n (by_side t) p) (point_at share blank M' n (by_side t) p)
    point_like n t b p =
        let r : (k i : ℕ) → R (side_point share blank M n (by_side t) k i) (side_point share blank M' n (by_side t) k i) = side_like n (by_side t) in
        vertex_like R _ _ _ (side_point share blank M n (by_side t) 0) (side_point share blank M n (by_side t) 1) (side_point share blank M n (by_side t) 2) (contents_points share blank M n (by_side t))
        _ _ _ (side_point share blank M' n (by_side t) 0) (side_point share blank M' n (by_side t) 1) (side_point share blank M' n (by_side t) 2) (contents_points share blank M' n (by_side t))
        (corner_like t.a b.a<P) (corner_like t.b b.b<P) (corner_like t.c b.c<P) (r 0) (r 1) (r 2)
        (filled_like n _ _ _ _ _ _ (r 0) (r 1) (r 2)) p.0 p.1 p.2

    module _ (n : ℕ) (small : n ≤ 12) (E E' : ℕ → List ℕ) (F F' : List Point) where
      patch_faces_lem :
          (G : List Point) (D : ℕ → List ℕ) (es : List ℕ) (t : Triangle) (g : NumberedContents) → OfCount n g
          → map (map_face (λ x. get_or G x blank)) (patch_faces n D (patch es t g)) ≡ map (map_face (λ p. get_or G (patch_vertex n D (patch es t g) p) blank)) (spot_faces n)
      patch_faces_lem G D es t g r =
          ap (map (map_face (λ x. get_or G x blank)))
          (faces_of_spots n t.a t.b t.c (reading n D (patch es t g) 0) (reading n D (patch es t g) 1) (reading n D (patch es t g) 2) (view g) (sized n g r))
          ∙ map-map (map_face (λ x. get_or G x blank)) (map_face (patch_vertex n D (patch es t g))) (spot_faces n)

      patches_like :
          (es : List ℕ) (us : List Triangle) (gs gs' : List NumberedContents) → length gs ≡ length us → length gs' ≡ length us
          → Each (Below (length M.points) M.edges) us → Each (OfCount n) gs → Each (OfCount n) gs'
          → Each (PlacedAs share blank M F n E) (patches_from es us gs) → Each (PlacedAs share blank M' F' n E') (patches_from es us gs')
          → Both (BothFace R) (map (map_face (λ x. get_or F x blank)) (all_faces n E (patches_from es us gs)))
          (map (map_face (λ x. get_or F' x blank)) (all_faces n E' (patches_from es us gs')))
      patches_like es [] gs gs' z z' b r r' h h' = tt
      patches_like es (t ∷ us) [] gs' z z' b r r' h h' = absurd (let y : ⊥ = omega arith in y)
      patches_like es (t ∷ us) (g ∷ gs) [] z z' b r r' h h' = absurd (let y : ⊥ = omega arith in y)
      patches_like es (t ∷ us) (g ∷ gs) (g' ∷ gs') z z' b r r' h h' =
          let es3 : List ℕ = t.ca ∷ t.bc ∷ t.ab ∷ es in
          let m : Face ℕ → Face Point = map_face (λ x. get_or F x blank) in
          let m' : Face ℕ → Face Point = map_face (λ x. get_or F' x blank) in
          let vertex : Spot → ℕ = patch_vertex n E (patch es t g) in
          let vertex' : Spot → ℕ = patch_vertex n E' (patch es t g') in
          let front : Both (BothFace R) (map m (patch_faces n E (patch es t g))) (map m' (patch_faces n E' (patch es t g')))
          = subst (λ (l : List (Face Point)). Both (BothFace R) l (map m' (patch_faces n E' (patch es t g')))) (sym (patch_faces_lem F E es t g r.0))
          (subst (λ (l : List (Face Point)). Both (BothFace R) (map (map_face (λ p. get_or F (vertex p) blank)) (spot_faces n)) l) (sym (patch_faces_lem F' E' es t g' r'.0))
          (faces_like R n (λ p. get_or F (vertex p) blank) (λ p. get_or F' (vertex' p) blank)
          (λ p i.
          subst (λ (v : Point). R v (get_or F' (vertex' p) blank)) (sym (h.0 p i))
          (subst (λ (v : Point). R (point_at share blank M n (by_side t) p) v) (sym (h'.0 p i)) (point_like n t b.0 p)))
          (spot_faces n) (s_spots n small))) in
          let rest = patches_like es3 us gs gs' (omega arith) (omega arith) b.1 r.1 r'.1 h.1 h'.1 in
          subst (λ (l : List (Face Point)). Both (BothFace R) l (map m' (patch_faces n E' (patch es t g') ++ all_faces n E' (patches_from es3 us gs'))))
          (sym (map-append m (patch_faces n E (patch es t g)) (all_faces n E (patches_from es3 us gs))))
          (subst
          (λ (l : List (Face Point)). Both (BothFace R) (map m (patch_faces n E (patch es t g)) ++ map m (all_faces n E (patches_from es3 us gs))) l)
          (sym (map-append m' (patch_faces n E' (patch es t g')) (all_faces n E' (patches_from es3 us gs'))))
          (both-++ (BothFace R) (map m (patch_faces n E (patch es t g))) (map m (all_faces n E (patches_from es3 us gs)))
          (map m' (patch_faces n E' (patch es t g'))) (map m' (all_faces n E' (patches_from es3 us gs'))) front rest))

pub buffers_like :
    (Point Frac : Type 0) (R : Point → Point → Type 0) (share : ℕ → ℕ → Frac) (blank : Point) (M M' : Meaning Point Frac) (N N' : Numbering) (f f' : List Point)
    → SameBase share R M M' → Accepted (length M.points) M.edges M.triangles
    → Reached (length M.points) M.edges M.triangles N → Reached (length M'.points) M'.edges M'.triangles N'
    → N.n ≡ N'.n → 3360 ≤ length f → 3360 ≤ length f'
    → Both (BothFace R) (point_faces blank M N (calculated share blank M N f)) (point_faces blank M' N' (calculated share blank M' N' f'))
buffers_like Point Frac R share blank M M' N N' f f' S A r r' e lf lf' =
    let ts : List Triangle = M.triangles in
    let ts' : List Triangle = M'.triangles in
    let A1 : Accepted (length M'.points) M.edges M.triangles
    = subst (λ (k : ℕ). Accepted k M.edges M.triangles) (both_long R M.points M'.points S.points) A in
    let A2 : Accepted (length M'.points) M'.edges M.triangles = subst (λ (k : ℕ). Accepted (length M'.points) k M.triangles) S.edges A1 in
    let A' : Accepted (length M'.points) M'.edges M'.triangles = subst (λ (k : List Triangle). Accepted (length M'.points) M'.edges k) S.triangles A2 in
    let I : Inv (length M.points) M.edges (length ts) N = reached_inv (length M.points) M.edges ts N r in
    let I' : Inv (length M'.points) M'.edges (length ts') N' = reached_inv (length M'.points) M'.edges ts' N' r' in
    let F : List Point = calculated share blank M N f in
    let F' : List Point = calculated share blank M' N' f' in
    let K = points_placed Point Frac share blank M N f A r lf in
    let K' = points_placed Point Frac share blank M' N' f' A' r' lf' in
    let h1 : Each (PlacedAs share blank M' F' N.n (edge_of N')) (patches ts' N')
    = subst (λ (k : ℕ). Each (PlacedAs share blank M' F' k (edge_of N')) (patches ts' N')) (sym e) K'.spots in
    let h' : Each (PlacedAs share blank M' F' N.n (edge_of N')) (patches ts N')
    = subst (λ (k : List Triangle). Each (PlacedAs share blank M' F' N.n (edge_of N')) (patches k N')) (sym S.triangles) h1 in
    let z' : length N'.contents ≡ length ts = I'.contents_count ∙ ap length (sym S.triangles) in
    let right' : Each (OfCount N.n) N'.contents = subst (λ (k : ℕ). Each (OfCount k) N'.contents) (sym e) I'.right in
    let l : List (Face Point) = map (map_face (λ x. get_or F x blank)) (all_faces N.n (edge_of N) (patches ts N)) in
    subst (λ (k : List Triangle). Both (BothFace R) l (map (map_face (λ x. get_or F' x blank)) (all_faces N'.n (edge_of N') (patches k N')))) S.triangles
    (subst (λ (k : ℕ). Both (BothFace R) l (map (map_face (λ x. get_or F' x blank)) (all_faces k (edge_of N') (patches ts N')))) e
    (patches_like share blank R M M' S A N.n I.small (edge_of N) (edge_of N') F F' [] ts N.contents N'.contents I.contents_count z' A.below I.right right' K.spots h'))
