-- Sums over the numbers below a bound, and weights of lists as such sums.
use Rattle.std.proofs.Common.{◌≡◌, ℕ, zero, suc, ◌+◌, ◌<◌, ◌≤◌, Bool, true, false, eqb, List, [], ◌∷◌, length, get_or, sym, refl, ap, ◌∙◌, add-zero, arith}
use native.Mathlib.Decide.{dec_le}
use Rattle.pattern.specs.Sides.{occ}
use Rattle.shape.specs.Sides.{tick}
use Rattle.pattern.proofs.Count.{weigh}
use Rattle.shape.specs.Lists.{Each}
use Rattle.mesh.specs.Numbering.{flat}
use Rattle.pattern.proofs.Occurrences.{Same?, hits, hits_no, hits_yes, is, isnt, occ-++, same?}

-- ---- sums over the numbers below m
abbrev pub times : ℕ → ℕ → ℕ
times zero x = 0
times (suc k) x = x + times k x

abbrev pub sum_to : ℕ → (ℕ → ℕ) → ℕ
sum_to zero g = 0
sum_to (suc m) g = g m + sum_to m g

sum_add : (m : ℕ) (g h : ℕ → ℕ) → sum_to m (λ e. g e + h e) ≡ sum_to m g + sum_to m h
sum_add zero g h = refl
sum_add (suc m) g h = omega (arith, sum_add m g h)

pub sum_le : (m : ℕ) (g h : ℕ → ℕ) → ((e : ℕ) → e < m → g e ≤ h e) → sum_to m g ≤ sum_to m h
sum_le zero g h f = omega arith
sum_le (suc m) g h f =
    let lt : m < suc m = omega arith in
    omega (arith, f m lt, sum_le m g h (λ e l. f e (let z : e < suc m = omega arith in z)))

pub sum_eq : (m : ℕ) (g h : ℕ → ℕ) → ((e : ℕ) → e < m → g e ≡ h e) → sum_to m g ≡ sum_to m h
sum_eq zero g h f = refl
sum_eq (suc m) g h f =
    let lt : m < suc m = omega arith in
    omega (arith, f m lt, sum_eq m g h (λ e l. f e (let z : e < suc m = omega arith in z)))

pub sum_zero : (m : ℕ) (g : ℕ → ℕ) → ((e : ℕ) → e < m → g e ≡ 0) → sum_to m g ≡ 0
sum_zero zero g f = refl
sum_zero (suc m) g f =
    let lt : m < suc m = omega arith in
    omega (arith, f m lt, sum_zero m g (λ e l. f e (let z : e < suc m = omega arith in z)))

-- at most one of them is not 0, and that at most 1
pub sum_once :
    (m : ℕ) (g : ℕ → ℕ) → ((e : ℕ) → e < m → g e ≤ 1) → ((e d : ℕ) → e < m → d < m → 1 ≤ g e → 1 ≤ g d → e ≡ d) → sum_to m g ≤ 1
sum_once zero g f u = omega arith
sum_once (suc m) g f u = go (dec_le 1 (g m)) (sum_once m g (λ e l. f e (up e l)) (λ e d l k a b. u e d (up e l) (up d k) a b))
  where
    lt : m < suc m
    lt = omega arith

    up : (e : ℕ) → e < m → e < suc m
    up e l = omega arith

    go : Dec (1 ≤ g m) → sum_to m g ≤ 1 → sum_to (suc m) g ≤ 1
    go (yes p) r =
        let z : sum_to m g ≡ 0 = sum_zero m g (λ e l. none e l (dec_le 1 (g e))) in
        omega (arith, f m lt)
      where
        none : (e : ℕ) → e < m → Dec (1 ≤ g e) → g e ≡ 0
        none e l (yes q) = absurd (let d : e ≡ m = u e m (up e l) lt q p in let z : ⊥ = omega arith in z)
        none e l (no q) = omega arith
    go (no p) r = omega arith

sum_shift : (m : ℕ) (g : ℕ → ℕ) → sum_to (suc m) g ≡ g 0 + sum_to m (λ e. g (suc e))
sum_shift zero g = refl
sum_shift (suc m) g = omega (arith, sum_shift m g)

times_tick : (b : Bool) (k x : ℕ) → times (tick b k) x ≡ times (tick b 0) x + times k x
times_tick true k x = omega arith
times_tick false k x = omega arith

times_hit : (e u x : ℕ) → e ≡ u → times (hits e u) x ≡ x
times_hit e u x d = ap (λ k. times k x) (hits_yes e u d) ∙ add-zero x

times_miss : (e u x : ℕ) → (e ≡ u → ⊥) → times (hits e u) x ≡ 0
times_miss e u x d = ap (λ k. times k x) (hits_no e u d)

sum_one : (m u : ℕ) (g : ℕ → ℕ) → u < m → sum_to m (λ e. times (hits e u) (g e)) ≡ g u
sum_one zero u g l = absurd (let z : ⊥ = omega arith in z)
sum_one (suc m) u g l = go (same? m u) (sum_one m u g)
  where
    go : Same? m u → (u < m → sum_to m (λ e. times (hits e u) (g e)) ≡ g u) → sum_to (suc m) (λ e. times (hits e u) (g e)) ≡ g u
    go (is e d) r =
        let z : sum_to m (λ e. times (hits e u) (g e)) ≡ 0
        = sum_zero m (λ e. times (hits e u) (g e)) (λ k lt. times_miss k u (g k) (λ b. let y : ⊥ = omega arith in y)) in
        let y : times (hits m u) (g m) ≡ g m = times_hit m u (g m) e in
        let x : g m ≡ g u = ap g e in
        omega arith
    go (isnt f d) r =
        let lt : u < m = omega arith in
        let z = r lt in
        let y : times (hits m u) (g m) ≡ 0 = times_miss m u (g m) f in
        omega arith

-- a list of numbers below m, weighed number by number
pub exchange : (m : ℕ) (g : ℕ → ℕ) (l : List ℕ) → Each (λ x. x < m) l → weigh g l ≡ sum_to m (λ e. times (occ e l) (g e))
exchange m g [] b = sym (sum_zero m (λ e. times 0 (g e)) (λ e lt. refl))
exchange m g (u ∷ l) b =
    let r = exchange m g l b.1 in
    let s = sum_one m u g b.0 in
    let a = sum_add m (λ e. times (hits e u) (g e)) (λ e. times (occ e l) (g e)) in
    let d = sum_eq m (λ e. times (occ e (u ∷ l)) (g e)) (λ e. times (hits e u) (g e) + times (occ e l) (g e)) (λ e lt. times_tick (eqb e u) (occ e l) (g e)) in
    omega arith

-- as often each, so the same weight
pub same_weight :
    (m : ℕ) (g : ℕ → ℕ) (l k : List ℕ) → Each (λ x. x < m) l → Each (λ x. x < m) k → ((x : ℕ) → occ x l ≡ occ x k) → weigh g l ≡ weigh g k
same_weight m g l k a b e =
    exchange m g l a ∙ sum_eq m (λ e. times (occ e l) (g e)) (λ e. times (occ e k) (g e)) (λ x lt. ap (λ n. times n (g x)) (e x))
    ∙ sym (exchange m g k b)

times_le : (k x : ℕ) → k ≤ 1 → times k x ≤ x
times_le zero x h = omega arith
times_le (suc zero) x h = omega arith
times_le (suc (suc k)) x h = absurd (let z : ⊥ = omega arith in z)

-- none twice, so at most the sum of all
pub at_most_all : (m : ℕ) (g : ℕ → ℕ) (l : List ℕ) → Each (λ x. x < m) l → ((x : ℕ) → occ x l ≤ 1) → weigh g l ≤ sum_to m g
at_most_all m g l b once =
    omega (arith, exchange m g l b, sum_le m (λ e. times (occ e l) (g e)) g (λ e lt. times_le (occ e l) (g e) (once e)))

-- ---- the numbers of several lists
pub flat-sum : (x : ℕ) (ls : List (List ℕ)) → sum_to (length ls) (λ e. occ x (get_or ls e [])) ≡ occ x (flat ls)
flat-sum x [] = refl
flat-sum x (l ∷ ls) =
    omega (arith, sum_shift (length ls) (λ e. occ x (get_or (l ∷ ls) e [])), flat-sum x ls, occ-++ x l (flat ls))
