-- Every vertex is the vertex of a spot of a triangle.
use Rattle.std.proofs.Common.{◌≡◌, ℕ, suc, ◌+◌, ◌<◌, ◌≤◌, Bool, true, false, T, eqb, ◌⊎◌, List, [], ◌∷◌, ◌++◌, map, length, get_or, sym, refl, ap, subst, inl, inr, arith}
use native.Mathlib.Decide.{dec_le}
use lib.Dec.{eqb_refl}
use Rattle.pattern.specs.Place.{Patch, reading, patch_vertex}
use Rattle.pattern.specs.Ring.{up, ring_list, contents_list}
use Rattle.pattern.specs.Sides.{occ, either, among}
use Rattle.pattern.specs.Spot.{Spot, eq_spot, is_spot, all_spots}
use Rattle.pattern.specs.Step.{NumberedContents, view, vertices, range, OfCount}
use Rattle.pattern.proofs.Count.{both_in}
use Rattle.pattern.proofs.Fresh.{view_list}
use Rattle.pattern.proofs.Grow.{sized}
use Rattle.shape.specs.Questions.{Below, Accepted}
use Rattle.shape.specs.Lists.{In, Each}
use Rattle.shape.specs.Sides.{Use, walk, uses, corners}
use Rattle.shape.specs.declared.triangle.Triangle.{Triangle}
use Rattle.mesh.specs.Numbering.{Numbering, edge_of, flat, inners}
use Rattle.mesh.specs.Faces.{by_side, forward, patches_from}
use Rattle.mesh.proofs.Beside.{find}
use Rattle.mesh.proofs.Invariant.{Inv}
use Rattle.mesh.proofs.Placed.{run_occ}
use Rattle.pattern.proofs.Occurrences.{hits_yes, hits_no, Same?, is, isnt, same?, occ-cons, occ-++, occ_alike, range_in, range_above}
use Rattle.points.specs.Places.{AtSpot}
use Rattle.points.proofs.Contents.{all_names}

eq_spot_refl : (p : Spot) → T (eq_spot p p)
eq_spot_refl p =
    both_in (eqb p.2 p.2) _ (eqb_refl p.2) (both_in (eqb p.1 p.1) (eqb p.0 p.0) (eqb_refl p.1) (eqb_refl p.0))

either_left : (a b : Bool) → T a → T (either a b)
either_left true b t = tt
either_left false b t = absurd t

either_right : (a b : Bool) → T b → T (either a b)
either_right true b t = tt
either_right false b t = t

record Spotted (f : Spot → ℕ) (l : List Spot) (x : ℕ) : Type 0 where
  pub p : Spot
  pub its : T (among eq_spot p l)
  pub is : f p ≡ x

spotted : (f : Spot → ℕ) (l : List Spot) (x : ℕ) → 1 ≤ occ x (map f l) → Spotted f l x
spotted f [] x h = absurd (let z : ⊥ = omega arith in z)
spotted f (s ∷ l) x h = go (same? x (f s)) (spotted f l x)
  where
    go : Same? x (f s) → (1 ≤ occ x (map f l) → Spotted f l x) → Spotted f (s ∷ l) x
    go (is d y) r = record { p = s; its = either_left (eq_spot s s) (among eq_spot s l) (eq_spot_refl s); is = sym d }
    go (isnt d y) r =
        let q = r (omega (arith, occ-cons x (f s) (map f l), hits_no x (f s) d)) in
        record { p = q.p; its = either_right (eq_spot q.p s) (among eq_spot q.p l) q.its; is = q.is }

-- on some edge
record OnEdge (ls : List (List ℕ)) (x : ℕ) : Type 0 where
  pub e : ℕ
  pub e< : e < length ls
  pub on : 1 ≤ occ x (get_or ls e [])

on_edge : (ls : List (List ℕ)) (x : ℕ) → 1 ≤ occ x (flat ls) → OnEdge ls x
on_edge [] x h = absurd (let z : ⊥ = omega arith in z)
on_edge (l ∷ ls) x h = go (dec_le 1 (occ x l)) (on_edge ls x)
  where
    go : Dec (1 ≤ occ x l) → (1 ≤ occ x (flat ls) → OnEdge ls x) → OnEdge (l ∷ ls) x
    go (yes c) r = record { e = 0; e< = omega arith; on = c }
    go (no c) r =
        let q = r (omega (arith, occ-++ x l (flat ls))) in
        record { e = suc q.e; e< = (let z = q.e< in omega arith); on = q.on }

module _ (P D : ℕ) (ts : List Triangle) (A : Accepted P D ts) (N : Numbering) (I : Inv P D (length ts) N) where
  abbrev patch : List ℕ → Triangle → NumberedContents → Patch
  patch es t g = record { tri = by_side t; forth = forward es t; inner = g }

  -- where x can be
  abbrev Where : ℕ → List Triangle → List NumberedContents → Type 0
  Where x us gs = In x (corners us) ⊎ (((v : Use) × In v (uses us) × (1 ≤ occ x (edge_of N v.edge))) ⊎ (1 ≤ occ x (inners gs)))

  record Within (x : ℕ) (fs : List Patch) : Type 0 where
    pub t : Patch
    pub there : In t fs
    pub p : Spot
    pub its : T (is_spot N.n p)
    pub is : patch_vertex N.n (edge_of N) t p ≡ x

  within_next : (x : ℕ) (f : Patch) (fs : List Patch) → Within x fs → Within x (f ∷ fs)
  within_next x f fs w = record { t = w.t; there = inr w.there; p = w.p; its = w.its; is = w.is }

  module _ (es : List ℕ) (t : Triangle) (g : NumberedContents) (r : OfCount N.n g) (b : Below P D t) (x : ℕ) where
    abbrev rd : ℕ → ℕ → ℕ
    rd k i = reading N.n (edge_of N) (patch es t g) k i

    abbrev run : ℕ → List ℕ
    run k = up 0 N.n (λ i. rd k i ∷ [])

    here : (fs : List Patch) → 1 ≤ occ x (t.a ∷ t.b ∷ t.c ∷ []) + (occ x (edge_of N t.ab) + (occ x (edge_of N t.bc) + (occ x (edge_of N t.ca) + occ x (vertices g)))) → Within x (patch es t g ∷ fs)
    here fs h =
        let R : List ℕ = ring_list N.n t.a t.b t.c (rd 0) (rd 1) (rd 2) in
        let names = all_names N.n t.a t.b t.c (rd 0) (rd 1) (rd 2) (view g) (sized N.n g r) in
        let q0 = run_occ P D ts A N I es t g 0 b.ab<E x in
        let q1 = run_occ P D ts A N I es t g 1 b.bc<E x in
        let q2 = run_occ P D ts A N I es t g 2 b.ca<E x in
        let o1 = occ-++ x (t.a ∷ t.b ∷ t.c ∷ []) (run 0 ++ (run 1 ++ run 2)) in
        let o2 = occ-++ x (run 0) (run 1 ++ run 2) in
        let o3 = occ-++ x (run 1) (run 2) in
        let o4 = occ-++ x R (contents_list (view g)) in
        let o5 : occ x (contents_list (view g)) ≡ occ x (vertices g) = ap (occ x) (view_list N.n g r) in
        let many : 1 ≤ occ x (R ++ contents_list (view g)) = omega arith in
        let s = spotted (patch_vertex N.n (edge_of N) (patch es t g)) (all_spots N.n) x (subst (λ (l : List ℕ). 1 ≤ occ x l) (sym names) many) in
        record { t = patch es t g; there = inl refl; p = s.p; its = s.its; is = s.is }

  three_occ : (x a b c : ℕ) → (x ≡ a) ⊎ ((x ≡ b) ⊎ (x ≡ c)) → 1 ≤ occ x (a ∷ b ∷ c ∷ [])
  three_occ x a b c (inl e) = omega (arith, occ-cons x a (b ∷ c ∷ []), hits_yes x a e)
  three_occ x a b c (inr (inl e)) = omega (arith, occ-cons x a (b ∷ c ∷ []), occ-cons x b (c ∷ []), hits_yes x b e)
  three_occ x a b c (inr (inr e)) = omega (arith, occ-cons x a (b ∷ c ∷ []), occ-cons x b (c ∷ []), occ-cons x c [], hits_yes x c e)

  on_use : (x e : ℕ) (v u : Use) → v ≡ u → 1 ≤ occ x (edge_of N v.edge) → 1 ≤ occ x (edge_of N u.edge)
  on_use x e v u q h = subst (λ (w : Use). 1 ≤ occ x (edge_of N w.edge)) q h

  within :
      (x : ℕ) (es : List ℕ) (us : List Triangle) (gs : List NumberedContents) → length gs ≡ length us → Each (Below P D) us → Each (OfCount N.n) gs → Where x us gs
      → Within x (patches_from es us gs)
  within x es [] [] z b r (inl h) = absurd h
  within x es [] [] z b r (inr (inl h)) = absurd h.1
  within x es [] [] z b r (inr (inr h)) = absurd (let y : ⊥ = omega arith in y)
  within x es [] (g ∷ gs) z b r w = absurd (let y : ⊥ = omega arith in y)
  within x es (t ∷ us) [] z b r w = absurd (let y : ⊥ = omega arith in y)
  within x es (t ∷ us) (g ∷ gs) z b r w = go w (within x (t.ca ∷ t.bc ∷ t.ab ∷ es) us gs (omega arith) b.1 r.1)
    where
      put : 1 ≤ occ x (t.a ∷ t.b ∷ t.c ∷ []) + (occ x (edge_of N t.ab) + (occ x (edge_of N t.bc) + (occ x (edge_of N t.ca) + occ x (vertices g)))) → Within x (patches_from es (t ∷ us) (g ∷ gs))
      put h = here es t g r.0 b.0 x (patches_from (t.ca ∷ t.bc ∷ t.ab ∷ es) us gs) h

      on : Within x (patches_from (t.ca ∷ t.bc ∷ t.ab ∷ es) us gs) → Within x (patches_from es (t ∷ us) (g ∷ gs))
      on v = within_next x (patch es t g) (patches_from (t.ca ∷ t.bc ∷ t.ab ∷ es) us gs) v

      edge : (v : Use) → In v (uses (t ∷ us)) → 1 ≤ occ x (edge_of N v.edge) → (Where x us gs → Within x (patches_from (t.ca ∷ t.bc ∷ t.ab ∷ es) us gs)) → Within x (patches_from es (t ∷ us) (g ∷ gs))
      edge v (inl q) h k = let y = on_use x 0 v (walk t.ab t.a t.b) q h in put (omega arith)
      edge v (inr (inl q)) h k = let y = on_use x 0 v (walk t.bc t.b t.c) q h in put (omega arith)
      edge v (inr (inr (inl q))) h k = let y = on_use x 0 v (walk t.ca t.c t.a) q h in put (omega arith)
      edge v (inr (inr (inr i))) h k = on (k (inr (inl (v, i, h))))

      inner : Dec (1 ≤ occ x (vertices g)) → 1 ≤ occ x (inners (g ∷ gs)) → (Where x us gs → Within x (patches_from (t.ca ∷ t.bc ∷ t.ab ∷ es) us gs)) → Within x (patches_from es (t ∷ us) (g ∷ gs))
      inner (yes c) h k = put (omega arith)
      inner (no c) h k = on (k (inr (inr (omega (arith, occ-++ x (vertices g) (inners gs))))))

      go : Where x (t ∷ us) (g ∷ gs) → (Where x us gs → Within x (patches_from (t.ca ∷ t.bc ∷ t.ab ∷ es) us gs)) → Within x (patches_from es (t ∷ us) (g ∷ gs))
      go (inl (inl e)) k = let y = three_occ x t.a t.b t.c (inl e) in put (omega arith)
      go (inl (inr (inl e))) k = let y = three_occ x t.a t.b t.c (inr (inl e)) in put (omega arith)
      go (inl (inr (inr (inl e)))) k = let y = three_occ x t.a t.b t.c (inr (inr e)) in put (omega arith)
      go (inl (inr (inr (inr i)))) k = on (k (inl i))
      go (inr (inl q)) k = edge q.0 q.1 q.2 k
      go (inr (inr h)) k = inner (dec_le 1 (occ x (vertices g))) h k

  somewhere : (x : ℕ) → x < N.total → Where x ts N.contents
  somewhere x l = go (dec_le P x) (dec_le 1 (occ x (flat N.edges)))
    where
      all : 1 ≤ occ x (range 0 P) + (occ x (flat N.edges) + occ x (inners N.contents))
      all =
          omega (
            arith,
            occ_alike (range 0 P ++ (flat N.edges ++ inners N.contents)) (range 0 N.total) I.all x,
            range_in x 0 N.total (omega arith) (omega arith),
            occ-++ x (range 0 P) (flat N.edges ++ inners N.contents),
            occ-++ x (flat N.edges) (inners N.contents),
          )

      go : Dec (P ≤ x) → Dec (1 ≤ occ x (flat N.edges)) → Where x ts N.contents
      go (no c) d = inl (A.used.points x (omega arith))
      go (yes c) (yes d) =
          let q = on_edge N.edges x d in
          let lt : q.e < D = (let y = q.e< in omega (arith, I.edge_count)) in
          let v = find q.e (uses ts) (A.used.edges q.e lt) in
          inr (inl (v.v, v.there, subst (λ (k : ℕ). 1 ≤ occ x (edge_of N k)) v.its q.on))
      go (yes c) (no d) = inr (inr (omega (arith, all, range_above x 0 P (omega arith))))

  pub covered : (x : ℕ) → x < N.total → AtSpot ts N x
  covered x l =
      let w = within x [] ts N.contents I.contents_count A.below I.right (somewhere x l) in
      record { t = w.t; there = w.there; p = w.p; its = w.its; is = w.is }
