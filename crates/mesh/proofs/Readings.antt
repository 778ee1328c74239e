-- Walking all uses in order: which are the first of their edge, and that a triangle reads forward exactly those.
use Rattle.std.proofs.Common.{◌≡◌, ℕ, zero, suc, ◌≤◌, not, eqb, List, [], ◌∷◌, sym, refl, ap, ◌∙◌, inl, inr, arith}
use Rattle.pattern.specs.Sides.{occ, among}
use Rattle.pattern.specs.Step.{NumberedContents}
use Rattle.shape.specs.declared.triangle.Triangle.{Triangle}
use Rattle.shape.specs.Lists.{In, Each}
use Rattle.shape.specs.Questions.{ThreeCorners, Accepted}
use Rattle.shape.specs.Sides.{Use, walk, uses, way_count, SameEnds}
use Rattle.mesh.specs.Faces.{first_use, patches_from, Reads, ReadingsStand}
use Rattle.mesh.proofs.Beside.{way_count-cons, ways_yes, in_use_count, in_way_count}
use Rattle.mesh.proofs.Firsts.{Seen?, old, new, seen?, first_use_hit, first_use_miss, first_use_in}
use Rattle.mesh.proofs.Placed.{patch}
use Rattle.pattern.proofs.Occurrences.{hits_yes, hits_no, eqb_yes, eqb_no, Same?, is, isnt, same?, occ-cons}

module _ (all : List Use) (one_pair : (u v : Use) → In u all → In v all → u.edge ≡ v.edge → SameEnds u v) where
  -- what holds of the uses that are left, where the edges of the others were seen
  pub record Left (seen : List ℕ) (us : List Use) : Type 0 where
    pub in_all : (u : Use) → In u us → In u all
    pub same : (e : ℕ) → occ e seen ≡ 0 → first_use e all ≡ first_use e us
    pub once : (e p q : ℕ) → way_count e p q us ≤ 1
    pub gone : (e : ℕ) → 1 ≤ occ e seen → way_count e (first_use e all).start (first_use e all).stop us ≡ 0

  module _ (seen : List ℕ) (u : Use) (us : List Use) (L : Left seen (u ∷ us)) where
    pub first_use_lem : occ u.edge seen ≡ 0 → first_use u.edge all ≡ u
    first_use_lem c = L.same u.edge c ∙ first_use_hit u.edge u us refl

    pub in_u : In u all
    in_u = L.in_all u (inl refl)

    pub later_use : 1 ≤ occ u.edge seen → (u.start ≡ (first_use u.edge all).stop) × (u.stop ≡ (first_use u.edge all).start)
    later_use c = go (one_pair u (first_use u.edge all) in_u o.0 (sym o.1))
      where
        o : In (first_use u.edge all) all × ((first_use u.edge all).edge ≡ u.edge)
        o = first_use_in u.edge all (in_use_count u all in_u)

        go : SameEnds u (first_use u.edge all) → (u.start ≡ (first_use u.edge all).stop) × (u.stop ≡ (first_use u.edge all).start)
        go (inl x) =
            absurd (let a = L.gone u.edge c in
            let b = in_way_count u (u ∷ us) (inl refl) in
            let d : way_count u.edge u.start u.stop (u ∷ us) ≡ way_count u.edge (first_use u.edge all).start (first_use u.edge all).stop (u ∷ us)
            = λ i. way_count u.edge (x.0 i) (x.1 i) (u ∷ us) in
            let z : ⊥ = omega arith in z)
        go (inr x) = x

    next_gone : (e : ℕ) → 1 ≤ occ e (u.edge ∷ seen) → way_count e (first_use e all).start (first_use e all).stop us ≡ 0
    next_gone e h = go (seen? e seen) (same? e u.edge)
      where
        go : Seen? e seen → Same? e u.edge → way_count e (first_use e all).start (first_use e all).stop us ≡ 0
        go (old c b) s = omega (arith, L.gone e c, way_count-cons e (first_use e all).start (first_use e all).stop u us)
        go (new c b) (is x y) =
            let f : first_use e all ≡ u = L.same e c ∙ first_use_hit e u us x in
            ap (λ v. way_count e v.start v.stop us) f
            ∙ (let z : way_count e u.start u.stop us ≡ 0
            = omega (arith, L.once e u.start u.stop, way_count-cons e u.start u.stop u us, ways_yes e u.start u.stop u x refl refl) in z)
        go (new c b) (isnt x y) = absurd (let z : ⊥ = omega (arith, occ-cons e u.edge seen, hits_no e u.edge x) in z)

    pub next : Left (u.edge ∷ seen) us
    next =
        record {
          in_all = λ v i. L.in_all v (inr i);
          same = λ e h. by_same e h (same? e u.edge);
          once = λ e p q. omega (arith, L.once e p q, way_count-cons e p q u us);
          gone = next_gone;
        }
      where
        by_same : (e : ℕ) → occ e (u.edge ∷ seen) ≡ 0 → Same? e u.edge → first_use e all ≡ first_use e us
        by_same e h (is x y) = absurd (let z : ⊥ = omega (arith, occ-cons e u.edge seen, hits_yes e u.edge x) in z)
        by_same e h (isnt x y) = L.same e (omega (arith, occ-cons e u.edge seen)) ∙ first_use_miss e u us x

    -- a use is the first of its edge exactly where it starts where the first use starts
    pub reads : (u.start ≡ u.stop → ⊥) → not (among eqb u.edge seen) ≡ eqb (first_use u.edge all).start u.start
    reads apart = go (seen? u.edge seen)
      where
        go : Seen? u.edge seen → not (among eqb u.edge seen) ≡ eqb (first_use u.edge all).start u.start
        go (new c b) = ap not b ∙ sym (eqb_yes (first_use u.edge all).start u.start (ap (λ v. v.start) (first_use_lem c)))
        go (old c b) =
            ap not b
            ∙ sym (eqb_no (first_use u.edge all).start u.start (λ d. apart (sym d ∙ sym (later_use c).1)))

module _ (ts : List Triangle) where
  by_side :
      (seen : List ℕ) (t : Triangle) (g : NumberedContents)
      → not (among eqb t.ab seen) ≡ eqb (first_use t.ab (uses ts)).start t.a
      → not (among eqb t.bc (t.ab ∷ seen)) ≡ eqb (first_use t.bc (uses ts)).start t.b
      → not (among eqb t.ca (t.bc ∷ t.ab ∷ seen)) ≡ eqb (first_use t.ca (uses ts)).start t.c → Reads ts (patch seen t g)
  by_side seen t g x y z zero l = x
  by_side seen t g x y z (suc zero) l = y
  by_side seen t g x y z (suc (suc zero)) l = z
  by_side seen t g x y z (suc (suc (suc k))) l = absurd (let w : ⊥ = omega arith in w)

module _ (P E : ℕ) (ts : List Triangle) (A : Accepted P E ts) where
  pub left : Left (uses ts) A.matching.one_pair [] (uses ts)
  left =
      record {
        in_all = λ u i. i;
        same = λ e h. refl;
        once = A.each_way;
        gone = λ e h. absurd (let z : ⊥ = omega arith in z);
      }

  pub reads_from :
      (seen : List ℕ) (us : List Triangle) (gs : List NumberedContents) → Each ThreeCorners us
      → Left (uses ts) A.matching.one_pair seen (uses us) → Each (Reads ts) (patches_from seen us gs)
  reads_from seen [] gs d L = tt
  reads_from seen (t ∷ us) [] d L = tt
  reads_from seen (t ∷ us) (g ∷ gs) d L =
      let all : List Use = uses ts in
      let u0 : Use = walk t.ab t.a t.b in
      let u1 : Use = walk t.bc t.b t.c in
      let u2 : Use = walk t.ca t.c t.a in
      let L1 = next all A.matching.one_pair seen u0 (u1 ∷ u2 ∷ uses us) L in
      let L2 = next all A.matching.one_pair (t.ab ∷ seen) u1 (u2 ∷ uses us) L1 in
      let L3 = next all A.matching.one_pair (t.bc ∷ t.ab ∷ seen) u2 (uses us) L2 in (
        by_side ts seen t g
            (reads all A.matching.one_pair seen u0 (u1 ∷ u2 ∷ uses us) L d.0.ab)
            (reads all A.matching.one_pair (t.ab ∷ seen) u1 (u2 ∷ uses us) L1 d.0.bc)
            (reads all A.matching.one_pair (t.bc ∷ t.ab ∷ seen) u2 (uses us) L2 d.0.ca),
        reads_from (t.ca ∷ t.bc ∷ t.ab ∷ seen) us gs d.1 L3,
      )

pub readings_stand : ReadingsStand
readings_stand P E ts A N = reads_from P E ts A [] ts N.contents A.three (left P E ts A)
