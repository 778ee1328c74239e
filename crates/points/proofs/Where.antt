-- The point that calculating leaves at each vertex.
use Rattle.std.proofs.Common.{◌≡◌, ℕ, zero, suc, ◌+◌, ◌-◌, ◌<◌, ◌≤◌, Bool, true, false, eqb, List, [], ◌∷◌, ◌++◌, map, length, get_or, sym, refl, ap, ◌∙◌, subst, ap₂, arith}
use mathlib.Core.List.{map-append, map-map}
use native.Mathlib.Decide.{dec_le}
use Rattle.pattern.specs.Place.{turned, reading, patch_vertex}
use Rattle.pattern.specs.Ring.{contents_list, ring_list}
use Rattle.pattern.specs.Sides.{occ, among}
use Rattle.pattern.specs.Spot.{Spot, all_spots}
use Rattle.pattern.specs.Step.{NumberedContents, view, range, OfCount}
use Rattle.pattern.proofs.Grow.{sized}
use Rattle.shape.specs.Questions.{Below, ThreeCorners, Accepted}
use Rattle.shape.specs.Lists.{Each}
use Rattle.shape.specs.Sides.{Use, walk, uses}
use Rattle.shape.specs.declared.triangle.Triangle.{Triangle}
use Rattle.mesh.specs.Numbering.{edge_of, Counted}
use Rattle.mesh.specs.Faces.{by_side, forward, patches_from, patches, first_use}
use Rattle.mesh.proofs.Counted.{vertices_once}
use Rattle.mesh.proofs.Firsts.{Seen?, old, new, seen?}
use Rattle.mesh.proofs.Invariant.{Inv, reached_inv}
use Rattle.pattern.proofs.Occurrences.{hits_yes, hits_no, Same?, is, isnt, same?, occ-cons, range_once, range_above}
use Rattle.points.specs.Calculating.{Meaning, Write, point_writes, contents_writes, patches_writes, calculated}
use Rattle.points.specs.Places.{corner_point, edge_point, side_point, contents_points, point_at, PlacedAs, PointsPlaced}
use Rattle.points.proofs.Cover.{covered}
use Rattle.mesh.proofs.Placed.{patch}
use Rattle.mesh.proofs.Readings.{Left, first_use_lem, next, reads, left}
use Rattle.points.proofs.Writes.{all_places, Holds, run_other, run_long, holds}
use Rattle.points.proofs.Contents.{map_ring, filled_sized, filled_points, all_names, same_at}
use Rattle.points.proofs.Ready.{use_writes, all_places_lem, all_ready}

module _ {X : Type 0} (R : X → Type 0) where
  each_front : (l m : List X) → Each R (l ++ m) → Each R l
  each_front [] m h = tt
  each_front (x ∷ l) m h = (h.0, each_front l m h.1)

  each_back : (l m : List X) → Each R (l ++ m) → Each R m
  each_back [] m h = h
  each_back (x ∷ l) m h = each_back l m h.1

module _ {Point Frac : Type 0} (share : ℕ → ℕ → Frac) (blank : Point) (M : Meaning Point Frac) (F : List Point) where
  abbrev on : ℕ → Point
  on x = get_or F x blank

  abbrev H : Write Point → Type 0
  H w = Holds share blank M F w

  corner_holds : (i : ℕ) (ps : List Point) → Each (Holds share blank M F) (point_writes i ps) → (x : ℕ) → x < length ps → on (i + x) ≡ get_or ps x blank
  corner_holds i [] h x l = absurd (let z : ⊥ = omega arith in z)
  corner_holds i (p ∷ ps) h zero l = ap on (let z : i + 0 ≡ i = omega arith in z) ∙ h.0
  corner_holds i (p ∷ ps) h (suc x) l =
      ap on (let z : i + suc x ≡ suc i + x = omega arith in z) ∙ corner_holds (suc i) ps h.1 x (omega arith)

  module _ (n : ℕ) (E : ℕ → List ℕ) (P D : ℕ) (A : Accepted P D M.triangles) (corner : (x : ℕ) → x < P → on x ≡ corner_point blank M x) where
    abbrev EdgePlaced : ℕ → Type 0
    EdgePlaced e = (i : ℕ) → i < n → on (get_or (E e) i 0) ≡ edge_point share blank M n e i

    abbrev EdgesPlaced : List ℕ → Type 0
    EdgesPlaced es = (e : ℕ) → 1 ≤ occ e es → EdgePlaced e

    use_placed :
        (es : List ℕ) (u : Use) (us : List Use) → u.start < P → u.stop < P → Left (uses M.triangles) A.matching.one_pair es (u ∷ us)
        → Each (Holds share blank M F) (use_writes Point n E (among eqb u.edge es) u) → EdgesPlaced es → EdgesPlaced (u.edge ∷ es)
    use_placed es u us l m f h k e c = go (same? e u.edge) (seen? u.edge es)
      where
        here : occ u.edge es ≡ 0 → among eqb u.edge es ≡ false → EdgePlaced u.edge
        here z b i lt =
            let w : Each (Holds share blank M F) (use_writes Point n E false u) = subst (λ (v : Bool). Each (Holds share blank M F) (use_writes Point n E v u)) b h in
            let fu : first_use u.edge (uses M.triangles) ≡ u
            = first_use_lem (uses M.triangles) A.matching.one_pair es u us f z in
            w.0 i lt ∙ ap₂ (λ p q. M.between p q (share i n)) (corner u.start l) (corner u.stop m)
            ∙ ap (λ v. M.between (corner_point blank M v.start) (corner_point blank M v.stop) (share i n)) (sym fu)

        go : Same? e u.edge → Seen? u.edge es → EdgePlaced e
        go (isnt d x) s = k e (omega (arith, occ-cons e u.edge es, hits_no e u.edge d))
        go (is d x) (old y b) = k e (subst (λ (v : ℕ). 1 ≤ occ v es) (sym d) y)
        go (is d x) (new y b) = subst EdgePlaced (sym d) (here y b)

    turned_placed :
        (e : ℕ) (b d : Bool) → b ≡ d → EdgePlaced e → (i : ℕ) → i < n → on (get_or (E e) (turned n b i) 0) ≡ edge_point share blank M n e (turned n d i)
    turned_placed e b d q k i l = go b ∙ ap (λ v. edge_point share blank M n e (turned n v i)) q
      where
        go : (b : Bool) → on (get_or (E e) (turned n b i) 0) ≡ edge_point share blank M n e (turned n b i)
        go true = k i l
        go false = k (n - suc i) (omega arith)

    -- t reads side k forward exactly where it walks it as its first use does
    abbrev Reads : List ℕ → Triangle → ℕ → Type 0
    Reads es t k = forward es t k ≡ eqb (first_use ((by_side t).edge k) (uses M.triangles)).start ((by_side t).corner k)

    patch_placed :
        (es : List ℕ) (t : Triangle) (g : NumberedContents) → Below P D t → OfCount n g → Reads es t 0 → Reads es t 1 → Reads es t 2
        → EdgePlaced t.ab → EdgePlaced t.bc → EdgePlaced t.ca
        → Each (Holds share blank M F) (contents_writes n (reading n E (patch es t g) 0) (reading n E (patch es t g) 1) (reading n E (patch es t g) 2) (view g))
        → PlacedAs share blank M F n E (patch es t g)
    patch_placed es t g b r q0 q1 q2 eab ebc eca h p i =
        let rd : ℕ → ℕ → ℕ = λ k j. reading n E (patch es t g) k j in
        let rp : ℕ → ℕ → Point = λ k j. side_point share blank M n (by_side t) k j in
        let f0 : (j : ℕ) → j < n → on (rd 0 j) ≡ rp 0 j = turned_placed t.ab (forward es t 0) _ q0 eab in
        let f1 : (j : ℕ) → j < n → on (rd 1 j) ≡ rp 1 j = turned_placed t.bc (forward es t 1) _ q1 ebc in
        let f2 : (j : ℕ) → j < n → on (rd 2 j) ≡ rp 2 j = turned_placed t.ca (forward es t 2) _ q2 eca in
        let A : Point = corner_point blank M t.a in
        let B : Point = corner_point blank M t.b in
        let C : Point = corner_point blank M t.c in
        let s = contents_points share blank M n (by_side t) in
        let vertex : Spot → ℕ = patch_vertex n E (patch es t g) in
        same_at (λ q. on (vertex q)) (point_at share blank M n (by_side t)) (all_spots n)
        (sym (map-map on vertex (all_spots n))
        ∙ ap (map on) (all_names n t.a t.b t.c (rd 0) (rd 1) (rd 2) (view g) (sized n g r))
        ∙ map-append on (ring_list n t.a t.b t.c (rd 0) (rd 1) (rd 2)) (contents_list (view g))
        ∙ ap₂ (λ x y. x ++ y)
        (map_ring on n t.a t.b t.c (rd 0) (rd 1) (rd 2) A B C (rp 0) (rp 1) (rp 2) (corner t.a b.a<P) (corner t.b b.b<P) (corner t.c b.c<P) f0 f1 f2)
        (filled_points share blank M F n (rd 0) (rd 1) (rd 2) (rp 0) (rp 1) (rp 2) (view g) (sized n g r) h f0 f1 f2)
        ∙ sym (all_names n A B C (rp 0) (rp 1) (rp 2) s (filled_sized share blank M n (rp 0) (rp 1) (rp 2)))) p i

    patches_placed :
        (es : List ℕ) (us : List Triangle) (gs : List NumberedContents) → Each (Below P D) us → Each ThreeCorners us → Each (OfCount n) gs → Left (uses M.triangles) A.matching.one_pair es (uses us) → EdgesPlaced es
        → Each (Holds share blank M F) (patches_writes n E (patches_from es us gs)) → Each (PlacedAs share blank M F n E) (patches_from es us gs)
    patches_placed es [] gs b d r f k h = tt
    patches_placed es (t ∷ us) [] b d r f k h = tt
    patches_placed es (t ∷ us) (g ∷ gs) b d r f k h =
        let u0 : Use = walk t.ab t.a t.b in
        let u1 : Use = walk t.bc t.b t.c in
        let u2 : Use = walk t.ca t.c t.a in
        let W0 : List (Write Point) = use_writes Point n E (among eqb t.ab es) u0 in
        let W1 : List (Write Point) = use_writes Point n E (among eqb t.bc (t.ab ∷ es)) u1 in
        let W2 : List (Write Point) = use_writes Point n E (among eqb t.ca (t.bc ∷ t.ab ∷ es)) u2 in
        let rd : ℕ → ℕ → ℕ = λ k j. reading n E (patch es t g) k j in
        let C : List (Write Point) = contents_writes n (rd 0) (rd 1) (rd 2) (view g) in
        let es3 : List ℕ = t.ca ∷ t.bc ∷ t.ab ∷ es in
        let rest : List (Write Point) = patches_writes n E (patches_from es3 us gs) in
        let q : Write Point → Type 0 = λ w. Holds share blank M F w in
        let hf = each_front q (W0 ++ (W1 ++ (W2 ++ C))) rest h in
        let hr = each_back q (W0 ++ (W1 ++ (W2 ++ C))) rest h in
        let h0 = each_front q W0 (W1 ++ (W2 ++ C)) hf in
        let h1' = each_back q W0 (W1 ++ (W2 ++ C)) hf in
        let h1 = each_front q W1 (W2 ++ C) h1' in
        let h2' = each_back q W1 (W2 ++ C) h1' in
        let h2 = each_front q W2 C h2' in
        let hc = each_back q W2 C h2' in
        let la = b.0.a<P in
        let lb = b.0.b<P in
        let lc = b.0.c<P in
        let f1 = next (uses M.triangles) A.matching.one_pair es u0 (u1 ∷ u2 ∷ uses us) f in
        let f2 = next (uses M.triangles) A.matching.one_pair (t.ab ∷ es) u1 (u2 ∷ uses us) f1 in
        let f3 = next (uses M.triangles) A.matching.one_pair (t.bc ∷ t.ab ∷ es) u2 (uses us) f2 in
        let q0 = reads (uses M.triangles) A.matching.one_pair es u0 (u1 ∷ u2 ∷ uses us) f d.0.ab in
        let q1 = reads (uses M.triangles) A.matching.one_pair (t.ab ∷ es) u1 (u2 ∷ uses us) f1 d.0.bc in
        let q2 = reads (uses M.triangles) A.matching.one_pair (t.bc ∷ t.ab ∷ es) u2 (uses us) f2 d.0.ca in
        let k1 = use_placed es u0 (u1 ∷ u2 ∷ uses us) la lb f h0 k in
        let k2 = use_placed (t.ab ∷ es) u1 (u2 ∷ uses us) lb lc f1 h1 k1 in
        let k3 = use_placed (t.bc ∷ t.ab ∷ es) u2 (uses us) lc la f2 h2 k2 in
        let o1 : (x : ℕ) (l : List ℕ) → 1 ≤ occ x (x ∷ l) = λ x l. omega (arith, occ-cons x x l, hits_yes x x refl) in
        let in0 : 1 ≤ occ t.ab es3 = omega (arith, o1 t.ab es, occ-cons t.ab t.ca (t.bc ∷ t.ab ∷ es), occ-cons t.ab t.bc (t.ab ∷ es)) in
        let in1 : 1 ≤ occ t.bc es3 = omega (arith, o1 t.bc (t.ab ∷ es), occ-cons t.bc t.ca (t.bc ∷ t.ab ∷ es)) in
        let in2 : 1 ≤ occ t.ca es3 = o1 t.ca (t.bc ∷ t.ab ∷ es) in (
          patch_placed es t g b.0 r.0 q0 q1 q2 (k3 t.ab in0) (k3 t.bc in1) (k3 t.ca in2) hc,
          patches_placed es3 us gs b.1 d.1 r.1 f3 k3 hr,
        )

pub points_placed : (Point Frac : Type 0) → PointsPlaced Point Frac
points_placed Point Frac share blank M N f A r lf =
    let P : ℕ = length M.points in
    let D : ℕ = M.edges in
    let ts : List Triangle = M.triangles in
    let I : Inv P D (length ts) N = reached_inv P D ts N r in
    let K : Counted P D ts N = vertices_once P D ts A N r in
    let ws : List (Write Point) = point_writes 0 M.points ++ patches_writes N.n (edge_of N) (patches ts N) in
    let F : List Point = calculated share blank M N f in
    let few : (x : ℕ) → occ x (all_places ws) ≤ occ x (range 0 N.total) = all_places_lem Point P D ts A N I M.points refl in
    let none : (x : ℕ) → N.total ≤ x → occ x (all_places ws) ≡ 0 = λ x l. omega (arith, few x, range_above x 0 N.total (omega arith)) in
    let low : (x : ℕ) → 1 ≤ occ x (all_places ws) → x < length f
    = λ x c. low_go x (length f) N.total (occ x (all_places ws)) (none x) K.fits lf c in
    let hs : Each (Holds share blank M F) ws
    = holds share blank M [] ws f (all_ready Point P D ts A N I M.points refl) (λ x. omega (arith, few x, range_once x 0 N.total)) low in
    let q : Write Point → Type 0 = λ w. Holds share blank M F w in
    let hp = each_front q (point_writes 0 M.points) (patches_writes N.n (edge_of N) (patches ts N)) hs in
    let hf = each_back q (point_writes 0 M.points) (patches_writes N.n (edge_of N) (patches ts N)) hs in
    let corner : (x : ℕ) → x < P → get_or F x blank ≡ corner_point blank M x
    = λ x l. ap (λ y. get_or F y blank) (let z : x ≡ 0 + x = omega arith in z) ∙ corner_holds share blank M F 0 M.points hp x l in
    record {
      long = run_long share blank M ws f;
      corner = corner;
      spots =
          patches_placed share blank M F N.n (edge_of N) P D A corner [] ts N.contents A.below A.three I.right (left P D ts A)
          (λ e c. absurd (let z : ⊥ = omega arith in z)) hf;
      all = covered P D ts A N I;
      untouched = λ x l. run_other share blank M ws f x (none x l);
    }
  where
    low_go : (x l t o : ℕ) → (t ≤ x → o ≡ 0) → t ≤ 3360 → 3360 ≤ l → 1 ≤ o → x < l
    low_go x l t o h a b c = go (dec_le t x)
      where
        go : Dec (t ≤ x) → x < l
        go (yes d) = absurd (let e = h d in let z : ⊥ = omega arith in z)
        go (no d) = omega arith
