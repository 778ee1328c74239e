-- Each side of a face occurs once, its reverse unless it is on the boundary; the drawing shows each side once.
use Rattle.std.proofs.Common.{◌≡◌, ℕ, ◌+◌, ◌≤◌, eqb, List, [], ◌∷◌, ◌++◌, length, sym, refl, ap, ◌∙◌, ap₂, append_assoc, arith}
use native.Mathlib.Decide.{dec_le}
use Rattle.pattern.proofs.Meeting.{total, MeshLaw}
use Rattle.pattern.proofs.Neighbours.{AllPlaced}
use Rattle.pattern.specs.Place.{Patch, patch_strips}
use Rattle.pattern.specs.Sides.{occ, count, joins, back, path_sides, shown_by}
use Rattle.pattern.specs.Spot.{Spot, spot_sides, border_sides, shown_sides, closing_sides}
use Rattle.pattern.proofs.Count.{weigh, hit, count_weigh, count-++, count_back}
use Rattle.pattern.proofs.Mesh.{mesh_sound}
use Rattle.pattern.proofs.Placing.{vertices_of, patch_shown, patch_closing_lem, all_sides, numbered}
use Rattle.shape.specs.Questions.{Accepted}
use Rattle.shape.specs.Sides.{Use, uses, use_count}
use Rattle.shape.specs.declared.triangle.Triangle.{Triangle}
use Rattle.mesh.specs.Numbering.{Numbering, Reached, edge_of}
use Rattle.mesh.specs.Faces.{patches, sides, edge_path, OnBoundary, SideOnce, SidesOnce, first_use}
use Rattle.mesh.specs.Strips.{major_from, patches_strips, shown, patches_closing, closing, ShownOnce, StripsOnce}
use Rattle.mesh.proofs.Beside.{used_twice}
use Rattle.mesh.proofs.Firsts.{firsts, laters, alones, alones_yes, alones_no, firsts_weigh, first_use_in, first_use_alone}
use Rattle.mesh.proofs.Invariant.{Inv, reached_inv}
use Rattle.mesh.proofs.Boundary.{edges_below, boundary_once}
use Rattle.mesh.proofs.Placed.{edge_long, all_placed}
use Rattle.mesh.proofs.Readings.{left}
use Rattle.mesh.proofs.Borders.{runs_weigh, major_weigh, borders_are}
use Rattle.pattern.proofs.Occurrences.{hits_yes, hits_no, Same?, is, isnt, same?, occ-cons}

-- ---- weights
weigh_cong : {Y : Type 0} (g h : Y → ℕ) → ((e : Y) → g e ≡ h e) → (l : List Y) → weigh g l ≡ weigh h l
weigh_cong g h f [] = refl
weigh_cong g h f (x ∷ l) = ap₂ (λ a b. a + b) (f x) (weigh_cong g h f l)

weigh_sum : {Y : Type 0} (g h : Y → ℕ) (l : List Y) → weigh (λ e. g e + h e) l ≡ weigh g l + weigh h l
weigh_sum g h [] = refl
weigh_sum g h (x ∷ l) = omega (arith, weigh_sum g h l)

record Some (g : ℕ → ℕ) (l : List ℕ) : Type 0 where
  pub e : ℕ
  pub there : 1 ≤ occ e l
  pub some : 1 ≤ g e

weigh_some : (g : ℕ → ℕ) (l : List ℕ) → 1 ≤ weigh g l → Some g l
weigh_some g [] h = absurd (let z : ⊥ = omega arith in z)
weigh_some g (x ∷ l) h = go (dec_le 1 (g x)) (weigh_some g l)
  where
    go : Dec (1 ≤ g x) → (1 ≤ weigh g l → Some g l) → Some g (x ∷ l)
    go (yes c) r = record { e = x; there = omega (arith, occ-cons x x l, hits_yes x x refl); some = c }
    go (no c) r =
        let o = r (omega arith) in
        record { e = o.e; there = omega (arith, occ-cons o.e x l, o.there); some = o.some }

weigh_has : (g : ℕ → ℕ) (e : ℕ) (l : List ℕ) → 1 ≤ occ e l → g e ≤ weigh g l
weigh_has g e [] h = absurd (let z : ⊥ = omega arith in z)
weigh_has g e (x ∷ l) h = go (same? e x) (weigh_has g e l)
  where
    go : Same? e x → (1 ≤ occ e l → g e ≤ weigh g l) → g e ≤ weigh g (x ∷ l)
    go (is d y) r = let z : g e ≡ g x = ap g d in omega arith
    go (isnt d y) r = omega (arith, r (omega (arith, occ-cons e x l, hits_no e x d)))

-- ---- the lists of the whole mesh, triangle by triangle
shown_by-++ : (l m : List (List ℕ)) → shown_by (l ++ m) ≡ shown_by l ++ shown_by m
shown_by-++ [] m = refl
shown_by-++ (x ∷ l) m = ap (λ k. path_sides x ++ k) (shown_by-++ l m) ∙ sym (append_assoc (path_sides x) (shown_by l) (shown_by m))

strips_is : (n P : ℕ) (E : ℕ → List ℕ) (fs : List Patch) → AllPlaced n P E fs → shown_by (patches_strips n E fs) ≡ total (shown_sides n) (vertices_of n E fs)
strips_is n P E [] a = refl
strips_is n P E (t ∷ fs) a =
    shown_by-++ (patch_strips n E t) ([] ∷ patches_strips n E fs) ∙ ap₂ (λ x y. x ++ y) (patch_shown n E t a.0.0) (strips_is n P E fs a.2)

closing_is : (n P : ℕ) (E : ℕ → List ℕ) (fs : List Patch) → AllPlaced n P E fs → patches_closing n E fs ≡ total (closing_sides n) (vertices_of n E fs)
closing_is n P E [] a = refl
closing_is n P E (t ∷ fs) a = ap₂ (λ x y. x ++ y) (patch_closing_lem n E t a.0.0) (closing_is n P E fs a.2)

module _ (P E : ℕ) (ts : List Triangle) (A : Accepted P E ts) (N : Numbering) (R : Reached P E ts N) where
  I : Inv P E (length ts) N
  I = reached_inv P E ts N R

  placed : AllPlaced N.n P (edge_of N) (patches ts N)
  placed = all_placed P E ts A N I

  abbrev fs : List (Spot → ℕ)
  fs = vertices_of N.n (edge_of N) (patches ts N)

  law : (p q : ℕ) → MeshLaw N.n fs p q
  law p q = mesh_sound N.n I.small fs (numbered N.n I.small P (edge_of N) (patches ts N) placed) p q

  abbrev us : List Use
  us = uses ts

  -- how often p to q is on the border of edge e, forward
  abbrev on : ℕ → ℕ → ℕ → ℕ
  on p q e = count eqb p q (path_sides (edge_path N (first_use e us)))

  module _ (p q : ℕ) where
    forth : (e : ℕ) → weigh (hit eqb p q) (path_sides (edge_path N (first_use e us))) ≡ on p q e
    forth e = sym (count_weigh eqb p q (path_sides (edge_path N (first_use e us))))

    back_forth : (e : ℕ) → weigh (hit eqb p q) (back (path_sides (edge_path N (first_use e us)))) ≡ on q p e
    back_forth e = sym (count_weigh eqb p q (back (path_sides (edge_path N (first_use e us))))) ∙ count_back eqb p q (path_sides (edge_path N (first_use e us)))

    borders_count : count eqb p q (total (border_sides N.n) fs) ≡ weigh (on p q) (firsts [] us) + weigh (on q p) (laters [] us)
    borders_count =
        count_weigh eqb p q (total (border_sides N.n) fs)
        ∙ borders_are P E N (edge_long P E ts A N I) (hit eqb p q) [] ts N.contents A.below I.contents_count
        ∙ runs_weigh N us A.matching.one_pair (hit eqb p q) [] us (left P E ts A)
        ∙ ap₂ (λ a b. a + b) (weigh_cong (λ e. weigh (hit eqb p q) (path_sides (edge_path N (first_use e us)))) (on p q) forth (firsts [] us))
        (weigh_cong (λ e. weigh (hit eqb p q) (back (path_sides (edge_path N (first_use e us))))) (on q p) back_forth (laters [] us))

    major_count : count eqb p q (shown_by (major_from [] N us)) ≡ weigh (on p q) (firsts [] us)
    major_count =
        count_weigh eqb p q (shown_by (major_from [] N us))
        ∙ major_weigh N us A.matching.one_pair (hit eqb p q) [] us (left P E ts A)
        ∙ weigh_cong (λ e. weigh (hit eqb p q) (path_sides (edge_path N (first_use e us)))) (on p q) forth (firsts [] us)

    firsts_count : weigh (on p q) (firsts [] us) ≡ weigh (on p q) (alones us us) + weigh (on p q) (laters [] us)
    firsts_count = firsts_weigh us (used_twice P E ts A) E (edges_below P E ts A N I) (on p q)

    sides_count : count eqb p q (sides ts N) ≡ count eqb p q (total (spot_sides N.n) fs)
    sides_count = ap (count eqb p q) (all_sides N.n P (edge_of N) (patches ts N) placed)

    closing_count : count eqb p q (closing ts N) ≡ count eqb p q (total (closing_sides N.n) fs)
    closing_count = ap (count eqb p q) (closing_is N.n P (edge_of N) (patches ts N) placed)

    shown_count : count eqb p q (shown ts N) ≡ count eqb p q (total (shown_sides N.n) fs) + count eqb p q (shown_by (major_from [] N us))
    shown_count =
        ap (count eqb p q)
        (shown_by-++ (patches_strips N.n (edge_of N) (patches ts N)) (major_from [] N us)
        ∙ ap (λ l. l ++ shown_by (major_from [] N us)) (strips_is N.n P (edge_of N) (patches ts N) placed))
        ∙ count-++ eqb p q (total (shown_sides N.n) fs) (shown_by (major_from [] N us))

    -- how often the boundary shows the side between p and q
    abbrev boundary : ℕ
    boundary = weigh (on p q) (alones us us) + weigh (on q p) (alones us us)

    boundary_at_most : boundary ≤ 1
    boundary_at_most = omega (arith, boundary_once P E ts A N I p q, weigh_sum (on p q) (on q p) (alones us us))

    boundary_in : OnBoundary ts N p q → 1 ≤ boundary
    boundary_in o =
        let u = o.u in
        let e : ℕ = u.edge in
        let same : first_use e us ≡ u = first_use_alone u us o.used o.alone in
        let a : occ e (alones us us) ≡ use_count e us = alones_yes e us us o.alone in
        let b : 1 ≤ occ e (alones us us) = omega (arith, o.alone) in
        let c : joins eqb p q (path_sides (edge_path N (first_use e us))) ≡ joins eqb p q (path_sides (edge_path N u)) = ap (λ v. joins eqb p q (path_sides (edge_path N v))) same in
        omega (arith, o.successive, weigh_has (on p q) e (alones us us) b, weigh_has (on q p) e (alones us us) b)

    boundary_out : 1 ≤ boundary → OnBoundary ts N p q
    boundary_out h =
        let o = weigh_some (λ e. on p q e + on q p e) (alones us us) (omega (arith, weigh_sum (on p q) (on q p) (alones us us))) in
        let e : ℕ = o.e in
        let one : use_count e us ≡ 1 = go e o.there (same? (use_count e us) 1) in
        let l = first_use_in e us (omega arith) in
        record { u = first_use e us; used = l.0; alone = ap (λ d. use_count d us) l.1 ∙ one; successive = o.some }
      where
        go : (e : ℕ) → 1 ≤ occ e (alones us us) → Same? (use_count e us) 1 → use_count e us ≡ 1
        go e c (is x y) = x
        go e c (isnt x y) = absurd (let z : ⊥ = omega (arith, alones_no e us us x) in z)

  module _ (p q : ℕ) where
    -- p to q as often as q to p, but for the boundary
    balance :
        count eqb p q (sides ts N) + weigh (on q p) (alones us us) ≡ count eqb q p (sides ts N) + weigh (on p q) (alones us us)
    balance =
        omega (
          arith,
          (law p q).paired,
          sides_count p q,
          sides_count q p,
          borders_count p q,
          borders_count q p,
          firsts_count p q,
          firsts_count q p,
        )

    at_most : count eqb p q (sides ts N) ≤ 1
    at_most = omega (arith, (law p q).once, sides_count p q)

    -- twice what the drawing shows
    double :
        joins eqb p q (shown ts N) + joins eqb p q (shown ts N)
        ≡ joins eqb p q (sides ts N) + boundary p q + (joins eqb p q (closing ts N) + joins eqb p q (closing ts N))
    double =
        omega (
          arith,
          (law p q).shown,
          sides_count p q,
          sides_count q p,
          closing_count p q,
          closing_count q p,
          shown_count p q,
          shown_count q p,
          major_count p q,
          major_count q p,
          borders_count p q,
          borders_count q p,
          firsts_count p q,
          firsts_count q p,
        )

    -- a closing side is a side in both directions
    closing_sides_lem : joins eqb p q (closing ts N) ≤ count eqb p q (sides ts N)
    closing_sides_lem = omega (arith, (law p q).parts, sides_count p q, closing_count p q, closing_count q p)

  side_once : (p q : ℕ) → 1 ≤ count eqb p q (sides ts N) → SideOnce ts N (sides ts N) p q
  side_once p q h =
      let a = at_most p q in
      let b = at_most q p in
      let c = balance p q in
      let d = boundary_at_most p q in
      record {
        once = omega arith;
        inner = λ f. inner f (dec_le 1 (boundary p q));
        outer = λ o. let x = boundary_in p q o in omega arith;
      }
    where
      inner : (OnBoundary ts N p q → ⊥) → Dec (1 ≤ boundary p q) → count eqb q p (sides ts N) ≡ 1
      inner f (yes x) = absurd (f (boundary_out p q x))
      inner f (no x) = omega (arith, h, at_most p q, at_most q p, balance p q)

  shown_once : (p q : ℕ) → ShownOnce ts N (shown ts N) p q
  shown_once p q =
      let a = at_most p q in
      let b = at_most q p in
      let c = balance p q in
      let d = boundary_at_most p q in
      let e = double p q in
      let f = closing_sides_lem p q in
      let g = closing_sides_lem q p in
      record {
        side = λ x y. omega arith;
        closes = λ x. omega arith;
        no_other = λ x. omega arith;
        closing_side = λ x. omega arith;
      }

pub sides_once : SidesOnce
sides_once P E ts A N R p q h = side_once P E ts A N R p q h

pub strips_once : StripsOnce
strips_once P E ts A N R p q = shown_once P E ts A N R p q
