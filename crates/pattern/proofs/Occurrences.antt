-- How often a number occurs in a list, and in a range; whether it does at all.
use mathlib.Core.Path.{◌≡◌, refl, sym, ◌∙◌, ap, ap₂, subst}
use mathlib.Core.List.{List, [], ◌∷◌, ◌++◌}
use mathlib.Core.Bool.{Bool, true, false}
use Prim.Native.Nat.{ℕ, zero, suc, ◌+◌, ◌≤◌, ◌<◌}
use native.Mathlib.Nat.{suc-add, zero-add, add-suc, add-zero}
use native.Mathlib.Omega.{arith}
use lib.Dec.{T, eqb, eqb→eq, eqb_refl}
use lib.ListN.{length, get_or}
use Rattle.shape.specs.Sides.{tick}
use Rattle.shape.specs.Lists.{Each}
use Rattle.pattern.specs.Sides.{occ, either, among}
use Rattle.pattern.specs.Step.{range}
use Rattle.pattern.proofs.Count.{weigh, Alike, weigh-++, tick_add}

-- ---- equality of numbers as a test
pub eqb_yes : (x y : ℕ) → x ≡ y → eqb x y ≡ true
eqb_yes x y e = go (eqb x y) (subst (λ (z : ℕ). T (eqb x z)) e (eqb_refl x))
  where
    go : (b : Bool) → T b → b ≡ true
    go true t = refl
    go false t = absurd t

pub eqb_no : (x y : ℕ) → (x ≡ y → ⊥) → eqb x y ≡ false
eqb_no x y f = go (eqb x y) (λ t. f (eqb→eq x y t))
  where
    go : (b : Bool) → (T b → ⊥) → b ≡ false
    go true g = absurd (g tt)
    go false g = refl

pub data Same? (x y : ℕ) : Type 0 where
  is : x ≡ y → eqb x y ≡ true → Same? x y
  isnt : (x ≡ y → ⊥) → eqb x y ≡ false → Same? x y

pub same? : (x y : ℕ) → Same? x y
same? x y = go (eqb x y) refl
  where
    go : (b : Bool) → eqb x y ≡ b → Same? x y
    go true e = is (eqb→eq x y (subst (λ (b : Bool). T b) (sym e) tt)) e
    go false e = isnt (λ d. let z : T false = subst (λ (b : Bool). T b) (sym (eqb_yes x y d) ∙ e) tt in z) e

-- ---- occurrences
abbrev pub hits : ℕ → ℕ → ℕ
hits x y = tick (eqb x y) 0

pub hits_yes : (x y : ℕ) → x ≡ y → hits x y ≡ 1
hits_yes x y e = ap (λ b. tick b 0) (eqb_yes x y e)

pub hits_no : (x y : ℕ) → (x ≡ y → ⊥) → hits x y ≡ 0
hits_no x y f = ap (λ b. tick b 0) (eqb_no x y f)

pub occ-cons : (x y : ℕ) (l : List ℕ) → occ x (y ∷ l) ≡ hits x y + occ x l
occ-cons x y l = tick_add (eqb x y) (occ x l)

pub occ_weigh : (x : ℕ) (l : List ℕ) → occ x l ≡ weigh (hits x) l
occ_weigh x [] = refl
occ_weigh x (y ∷ l) = occ-cons x y l ∙ ap (λ n. hits x y + n) (occ_weigh x l)

pub occ-++ : (x : ℕ) (l m : List ℕ) → occ x (l ++ m) ≡ occ x l + occ x m
occ-++ x l m = omega (arith, occ_weigh x (l ++ m), occ_weigh x l, occ_weigh x m, weigh-++ (hits x) l m)

pub occ_alike : (l m : List ℕ) → Alike l m → (x : ℕ) → occ x l ≡ occ x m
occ_alike l m e x = omega (arith, occ_weigh x l, occ_weigh x m, e (hits x))

pub occ_get_d : (l : List ℕ) (i : ℕ) → i < length l → 1 ≤ occ (get_or l i 0) l
occ_get_d [] i h = absurd (let z : ⊥ = omega arith in z)
occ_get_d (y ∷ l) zero h = omega (arith, occ-cons y y l, hits_yes y y refl)
occ_get_d (y ∷ l) (suc i) h =
    let le : i < length l = omega arith in
    omega (arith, occ_get_d l i le, occ-cons (get_or l i 0) y l)

pub get_d_apart : (l : List ℕ) → ((x : ℕ) → occ x l ≤ 1) → (i j : ℕ) → i < length l → j < length l → get_or l i 0 ≡ get_or l j 0 → i ≡ j
get_d_apart [] once i j h k e = absurd (let z : ⊥ = omega arith in z)
get_d_apart (y ∷ l) once zero zero h k e = refl
get_d_apart (y ∷ l) once zero (suc j) h k e =
    let le : j < length l = omega arith in
    absurd (let z : ⊥ = omega (arith, occ_get_d l j le, once (get_or l j 0), occ-cons (get_or l j 0) y l, hits_yes (get_or l j 0) y (sym e)) in z)
get_d_apart (y ∷ l) once (suc i) zero h k e =
    let le : i < length l = omega arith in
    absurd (let z : ⊥ = omega (arith, occ_get_d l i le, once (get_or l i 0), occ-cons (get_or l i 0) y l, hits_yes (get_or l i 0) y e) in z)
get_d_apart (y ∷ l) once (suc i) (suc j) h k e =
    let a : i < length l = omega arith in
    let b : j < length l = omega arith in
    ap suc (get_d_apart l (λ x. omega (arith, once x, occ-cons x y l)) i j a b e)

-- ---- ranges
pub range-++ : (h k j : ℕ) → range h (k + j) ≡ range h k ++ range (h + k) j
range-++ h zero j = ap₂ (λ a b. range a b) (sym (add-zero h)) (zero-add j)
range-++ h (suc k) j =
    ap (range h) (suc-add k j) ∙ ap (λ l. h ∷ l) (range-++ (suc h) k j ∙ ap (λ a. range (suc h) k ++ range a j) (suc-add h k ∙ sym (add-suc h k)))

pub range_out : (x h k : ℕ) → x < h → occ x (range h k) ≡ 0
range_out x h zero l = refl
range_out x h (suc k) l =
    let a : x < suc h = omega arith in
    let ne : x ≡ h → ⊥ = λ e. omega arith in
    omega (arith, range_out x (suc h) k a, occ-cons x h (range (suc h) k), hits_no x h ne)

pub range_once : (x h k : ℕ) → occ x (range h k) ≤ 1
range_once x h zero = omega arith
range_once x h (suc k) = go (same? x h) (range_once x (suc h) k)
  where
    go : Same? x h → occ x (range (suc h) k) ≤ 1 → occ x (range h (suc k)) ≤ 1
    go (is e d) r =
        let a : x < suc h = omega arith in
        omega (arith, range_out x (suc h) k a, occ-cons x h (range (suc h) k), hits_yes x h e)
    go (isnt f d) r = omega (arith, occ-cons x h (range (suc h) k), hits_no x h f)

pub range_in : (x h k : ℕ) → h ≤ x → x < h + k → 1 ≤ occ x (range h k)
range_in x h zero l m = absurd (let z : ⊥ = omega arith in z)
range_in x h (suc k) l m = go (same? x h) (range_in x (suc h) k)
  where
    go : Same? x h → (suc h ≤ x → x < suc h + k → 1 ≤ occ x (range (suc h) k)) → 1 ≤ occ x (range h (suc k))
    go (is e d) r = omega (arith, occ-cons x h (range (suc h) k), hits_yes x h e)
    go (isnt f d) r =
        let a : suc h ≤ x = omega arith in
        let b : x < suc h + k = omega arith in
        omega (arith, r a b, occ-cons x h (range (suc h) k))

pub range_above : (x h k : ℕ) → h + k ≤ x → occ x (range h k) ≡ 0
range_above x h zero l = refl
range_above x h (suc k) l =
    let a : suc h + k ≤ x = omega arith in
    let ne : x ≡ h → ⊥ = λ e. omega arith in
    omega (arith, range_above x (suc h) k a, occ-cons x h (range (suc h) k), hits_no x h ne)

-- ---- lists in which nothing occurs twice, and membership as a test
pub distinct_two : (a b : ℕ) → (a ≡ b → ⊥) → (x : ℕ) → occ x (a ∷ b ∷ []) ≤ 1
distinct_two a b ne x = go (same? x a)
  where
    e : occ x (a ∷ b ∷ []) ≡ hits x a + (hits x b + 0)
    e = occ-cons x a (b ∷ []) ∙ ap (λ n. hits x a + n) (occ-cons x b [])

    below : (b : Bool) → tick b 0 ≤ 1
    below true = omega arith
    below false = omega arith

    go : Same? x a → occ x (a ∷ b ∷ []) ≤ 1
    go (is d y) = omega (arith, e, hits_yes x a d, hits_no x b (λ z. ne (sym d ∙ z)))
    go (isnt d y) = omega (arith, e, hits_no x a d, below (eqb x b))

pub distinct_three : (a b c : ℕ) → (a ≡ b → ⊥) → (b ≡ c → ⊥) → (c ≡ a → ⊥) → (x : ℕ) → occ x (a ∷ b ∷ c ∷ []) ≤ 1
distinct_three a b c p q r x = go (same? x a)
  where
    e : occ x (a ∷ b ∷ c ∷ []) ≡ hits x a + occ x (b ∷ c ∷ [])
    e = occ-cons x a (b ∷ c ∷ [])

    f : occ x (b ∷ c ∷ []) ≡ hits x b + (hits x c + 0)
    f = occ-cons x b (c ∷ []) ∙ ap (λ n. hits x b + n) (occ-cons x c [])

    go : Same? x a → occ x (a ∷ b ∷ c ∷ []) ≤ 1
    go (is d y) = omega (arith, e, f, hits_yes x a d, hits_no x b (λ z. p (sym d ∙ z)), hits_no x c (λ z. r (sym z ∙ d)))
    go (isnt d y) = omega (arith, e, hits_no x a d, distinct_two b c q x)

pub in_below : (m x : ℕ) (l : List ℕ) → Each (λ y. y < m) l → 1 ≤ occ x l → x < m
in_below m x [] b h = absurd (let z : ⊥ = omega arith in z)
in_below m x (y ∷ l) b h = go (same? x y) (in_below m x l b.1)
  where
    lt : y < m
    lt = b.0

    go : Same? x y → (1 ≤ occ x l → x < m) → x < m
    go (is e d) r = omega (arith, lt)
    go (isnt e d) r = r (omega (arith, occ-cons x y l, hits_no x y e))

pub among_no : (e : ℕ) (l : List ℕ) → occ e l ≡ 0 → among eqb e l ≡ false
among_no e [] h = refl
among_no e (y ∷ l) h = go (same? e y) (among_no e l)
  where
    go : Same? e y → (occ e l ≡ 0 → among eqb e l ≡ false) → among eqb e (y ∷ l) ≡ false
    go (is d x) r = absurd (let z : ⊥ = omega (arith, occ-cons e y l, hits_yes e y d) in z)
    go (isnt d x) r = ap₂ either x (r (omega (arith, occ-cons e y l)))

either_true : (b : Bool) → either b true ≡ true
either_true true = refl
either_true false = refl

pub among_yes : (e : ℕ) (l : List ℕ) → 1 ≤ occ e l → among eqb e l ≡ true
among_yes e [] h = absurd (let z : ⊥ = omega arith in z)
among_yes e (y ∷ l) h = go (same? e y) (among_yes e l)
  where
    go : Same? e y → (1 ≤ occ e l → among eqb e l ≡ true) → among eqb e (y ∷ l) ≡ true
    go (is d x) r = ap (λ b. either b (among eqb e l)) x
    go (isnt d x) r = ap (either (eqb e y)) (r (omega (arith, occ-cons e y l, hits_no e y d))) ∙ either_true (eqb e y)
