-- The boundary shows no side twice.
use Rattle.std.proofs.Common.{◌≡◌, ℕ, ◌+◌, ◌<◌, ◌≤◌, eqb, ◌⊎◌, List, [], ◌∷◌, ◌++◌, length, sym, ap, ◌∙◌, subst, inl, inr, arith}
use native.Mathlib.Decide.{dec_le}
use Rattle.pattern.specs.Sides.{occ, count, joins, path_sides}
use Rattle.pattern.proofs.Count.{weigh}
use Rattle.shape.specs.Questions.{Below, ThreeCorners, Accepted}
use Rattle.shape.specs.Lists.{In, Each}
use Rattle.shape.specs.Sides.{Use, uses, SameEnds}
use Rattle.shape.specs.declared.triangle.Triangle.{Triangle}
use Rattle.mesh.specs.Numbering.{Numbering, edge_of}
use Rattle.mesh.specs.Faces.{edge_path, first_use}
use Rattle.mesh.proofs.Beside.{used_twice}
use Rattle.mesh.proofs.Firsts.{first_use_in, alones, alones_below, alones_once}
use Rattle.mesh.proofs.Invariant.{Inv}
use Rattle.mesh.proofs.Paths.{path_once, path_passes}
use Rattle.mesh.proofs.Placed.{all_once, one_edge, two_edges, high}
use Rattle.mesh.proofs.Sum.{sum_once, at_most_all}
use Rattle.pattern.proofs.Occurrences.{hits, hits_yes, hits_no, Same?, is, isnt, same?, occ-cons, occ-++}

-- ---- a side of a triangle of the base joins two different points
pub record Ends (P E : ℕ) (u : Use) : Type 0 where
  pub start<P : u.start < P
  pub stop<P : u.stop < P
  pub edge<E : u.edge < E
  pub apart : u.start ≡ u.stop → ⊥

pub uses_ends : (P E : ℕ) (ts : List Triangle) → Each (Below P E) ts → Each ThreeCorners ts → Each (Ends P E) (uses ts)
uses_ends P E [] b c = tt
uses_ends P E (t ∷ ts) b c = (
  record { start<P = b.0.a<P; stop<P = b.0.b<P; edge<E = b.0.ab<E; apart = c.0.ab },
  (
    record { start<P = b.0.b<P; stop<P = b.0.c<P; edge<E = b.0.bc<E; apart = c.0.bc },
    (
      record { start<P = b.0.c<P; stop<P = b.0.a<P; edge<E = b.0.ca<E; apart = c.0.ca },
      uses_ends P E ts b.1 c.1,
    ),
  ),
)

each_in : {X : Type 0} (R : X → Type 0) (l : List X) → Each R l → (x : X) → In x l → R x
each_in R [] h x i = absurd i
each_in R (y ∷ l) h x (inl e) = subst R (sym e) h.0
each_in R (y ∷ l) h x (inr i) = each_in R l h.1 x i

below_of : (P E : ℕ) (us : List Use) → Each (Ends P E) us → Each (λ u. u.edge < E) us
below_of P E [] h = tt
below_of P E (u ∷ us) h = (h.0.edge<E, below_of P E us h.1)

module _ (P E : ℕ) (ts : List Triangle) (A : Accepted P E ts) (N : Numbering) (I : Inv P E (length ts) N) where
  ends : Each (Ends P E) (uses ts)
  ends = uses_ends P E ts A.below A.three

  pub edges_below : Each (λ u. u.edge < E) (uses ts)
  edges_below = below_of P E (uses ts) ends

  -- the first use of each edge
  abbrev the : ℕ → Use
  the e = first_use e (uses ts)

  the_in : (e : ℕ) → e < E → In (the e) (uses ts) × ((the e).edge ≡ e)
  the_in e l = first_use_in e (uses ts) (A.used.edges e l)

  the_ends : (e : ℕ) → e < E → Ends P E (the e)
  the_ends e l = each_in (Ends P E) (uses ts) ends (the e) (the_in e l).0

  abbrev at_ends : ℕ → ℕ → ℕ
  at_ends x e = hits x (the e).start + hits x (the e).stop

  border_occ : (x e : ℕ) → e < E → occ x (edge_path N (the e)) ≡ at_ends x e + occ x (edge_of N e)
  border_occ x e l =
      let d : occ x (edge_of N (the e).edge) ≡ occ x (edge_of N e) = ap (λ v. occ x (edge_of N v)) (the_in e l).1 in
      omega (
        arith,
        occ-cons x (the e).start (edge_of N (the e).edge ++ ((the e).stop ∷ [])),
        occ-++ x (edge_of N (the e).edge) ((the e).stop ∷ []),
        occ-cons x (the e).stop [],
      )

  at_ends_once : (x e : ℕ) → e < E → at_ends x e ≤ 1
  at_ends_once x e l = go (same? x (the e).start) (same? x (the e).stop)
    where
      go : Same? x (the e).start → Same? x (the e).stop → at_ends x e ≤ 1
      go (is a b) (is c d) = absurd ((the_ends e l).apart (sym a ∙ c))
      go (is a b) (isnt c d) = omega (arith, hits_yes x (the e).start a, hits_no x (the e).stop c)
      go (isnt a b) (is c d) = omega (arith, hits_no x (the e).start a, hits_yes x (the e).stop c)
      go (isnt a b) (isnt c d) = omega (arith, hits_no x (the e).start a, hits_no x (the e).stop c)

  -- what is at an end is a point
  at_ends_low : (x e : ℕ) → e < E → 1 ≤ at_ends x e → x < P
  at_ends_low x e l h = go (same? x (the e).start) (same? x (the e).stop)
    where
      a<P : (the e).start < P
      a<P = (the_ends e l).start<P

      b<P : (the e).stop < P
      b<P = (the_ends e l).stop<P

      go : Same? x (the e).start → Same? x (the e).stop → x < P
      go (is a b) s = omega (arith, a<P)
      go (isnt a b) (is c d) = omega (arith, b<P)
      go (isnt a b) (isnt c d) = absurd (let z : ⊥ = omega (arith, hits_no x (the e).start a, hits_no x (the e).stop c) in z)

  not_both : (x e d : ℕ) → e < E → d < E → 1 ≤ at_ends x e → 1 ≤ occ x (edge_of N d) → ⊥
  not_both x e d l m h k = let a = at_ends_low x e l h in let b = high P E ts A N I x (omega (arith, one_edge P E ts A N I x d m)) in omega arith

  border_once : (e : ℕ) → e < E → (x : ℕ) → occ x (edge_path N (the e)) ≤ 1
  border_once e l x = go (dec_le 1 (at_ends x e)) (dec_le 1 (occ x (edge_of N e)))
    where
      r : occ x (edge_path N (the e)) ≡ at_ends x e + occ x (edge_of N e)
      r = border_occ x e l

      go : Dec (1 ≤ at_ends x e) → Dec (1 ≤ occ x (edge_of N e)) → occ x (edge_path N (the e)) ≤ 1
      go (yes a) (yes b) = absurd (not_both x e e l l a b)
      go (yes a) (no b) = omega (arith, r, at_ends_once x e l)
      go (no a) s = omega (arith, r, one_edge P E ts A N I x e l, all_once P E ts A N I x)

  -- what two edges' borders have in common is an end of both
  at_both : (x e d : ℕ) → e < E → d < E → (e ≡ d → ⊥) → 1 ≤ occ x (edge_path N (the e)) → 1 ≤ occ x (edge_path N (the d)) → (1 ≤ at_ends x e) × (1 ≤ at_ends x d)
  at_both x e d l m ne h k = go (dec_le 1 (at_ends x e)) (dec_le 1 (at_ends x d))
    where
      r : occ x (edge_path N (the e)) ≡ at_ends x e + occ x (edge_of N e)
      r = border_occ x e l

      s : occ x (edge_path N (the d)) ≡ at_ends x d + occ x (edge_of N d)
      s = border_occ x d m

      go : Dec (1 ≤ at_ends x e) → Dec (1 ≤ at_ends x d) → (1 ≤ at_ends x e) × (1 ≤ at_ends x d)
      go (yes a) (yes b) = (a, b)
      go (yes a) (no b) = absurd (not_both x e d l m a (omega (arith, s)))
      go (no a) (yes b) = absurd (not_both x d e m l b (omega (arith, r)))
      go (no a) (no b) = absurd (let z : ⊥ = omega (arith, r, s, two_edges P E ts A N I x e d l m ne, all_once P E ts A N I x) in z)

  -- two different points at the ends of two edges
  ends_of : (p q e : ℕ) → (p ≡ q → ⊥) → 1 ≤ at_ends p e → 1 ≤ at_ends q e → ((p ≡ (the e).start) × (q ≡ (the e).stop)) ⊎ ((p ≡ (the e).stop) × (q ≡ (the e).start))
  ends_of p q e ne h k = go (same? p (the e).start) (same? p (the e).stop) (same? q (the e).start) (same? q (the e).stop)
    where
      go :
          Same? p (the e).start → Same? p (the e).stop → Same? q (the e).start → Same? q (the e).stop
          → ((p ≡ (the e).start) × (q ≡ (the e).stop)) ⊎ ((p ≡ (the e).stop) × (q ≡ (the e).start))
      go (is a b) s (is x y) t = absurd (ne (a ∙ sym x))
      go (is a b) s (isnt x y) (is u v) = inl (a, u)
      go (is a b) s (isnt x y) (isnt u v) = absurd (let z : ⊥ = omega (arith, hits_no q (the e).start x, hits_no q (the e).stop u) in z)
      go (isnt u v) (is a b) (is x y) t = inr (a, x)
      go (isnt u v) (is a b) (isnt x y) (is c d) = absurd (ne (a ∙ sym c))
      go (isnt u v) (is a b) (isnt x y) (isnt c d) = absurd (let z : ⊥ = omega (arith, hits_no q (the e).start x, hits_no q (the e).stop c) in z)
      go (isnt u v) (isnt a b) s t = absurd (let z : ⊥ = omega (arith, hits_no p (the e).start u, hits_no p (the e).stop a) in z)

  same_ends : (p q : ℕ) (u v : Use) → ((p ≡ u.start) × (q ≡ u.stop)) ⊎ ((p ≡ u.stop) × (q ≡ u.start))
      → ((p ≡ v.start) × (q ≡ v.stop)) ⊎ ((p ≡ v.stop) × (q ≡ v.start)) → SameEnds u v
  same_ends p q u v (inl x) (inl y) = inl (sym x.0 ∙ y.0, sym x.1 ∙ y.1)
  same_ends p q u v (inl x) (inr y) = inr (sym x.0 ∙ y.0, sym x.1 ∙ y.1)
  same_ends p q u v (inr x) (inl y) = inr (sym x.1 ∙ y.1, sym x.0 ∙ y.0)
  same_ends p q u v (inr x) (inr y) = inl (sym x.1 ∙ y.1, sym x.0 ∙ y.0)

  module _ (p q : ℕ) where
    abbrev on : ℕ → ℕ
    on e = joins eqb p q (path_sides (edge_path N (the e)))

    on_once : (e : ℕ) → e < E → on e ≤ 1
    on_once e l = path_once p q (edge_path N (the e)) (border_once e l)

    different : (e : ℕ) → e < E → 1 ≤ on e → p ≡ q → ⊥
    different e l h d =
        let a = on_once e l in
        let b : count eqb p q (path_sides (edge_path N (the e))) ≡ count eqb q p (path_sides (edge_path N (the e)))
        = λ i. count eqb (d i) (sym d i) (path_sides (edge_path N (the e))) in
        omega arith

    passes_p : (e : ℕ) → 1 ≤ on e → 1 ≤ occ p (edge_path N (the e))
    passes_p e h = path_passes p q (edge_path N (the e)) h

    passes_q : (e : ℕ) → 1 ≤ on e → 1 ≤ occ q (edge_path N (the e))
    passes_q e h = path_passes q p (edge_path N (the e)) (omega arith)

    on_one_edge : (e d : ℕ) → e < E → d < E → 1 ≤ on e → 1 ≤ on d → e ≡ d
    on_one_edge e d l m h k = go (same? e d)
      where
        go : Same? e d → e ≡ d
        go (is x y) = x
        go (isnt x y) =
            let a = at_both p e d l m x (passes_p e h) (passes_p d k) in
            let b = at_both q e d l m x (passes_q e h) (passes_q d k) in
            let ne = different e l h in
            let s = same_ends p q (the e) (the d) (ends_of p q e ne a.0 b.0) (ends_of p q d ne a.1 b.1) in
            sym (the_in e l).1 ∙ A.matching.one_edge (the e) (the d) (the_in e l).0 (the_in d m).0 s ∙ (the_in d m).1

    pub boundary_once : weigh (λ e. joins eqb p q (path_sides (edge_path N (first_use e (uses ts))))) (alones (uses ts) (uses ts)) ≤ 1
    boundary_once =
        omega (
          arith,
          at_most_all E on (alones (uses ts) (uses ts)) (alones_below E (uses ts) (uses ts) edges_below) (alones_once (uses ts) (used_twice P E ts A)),
          sum_once E on on_once on_one_edge,
        )
