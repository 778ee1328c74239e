-- The sides of a path that passes nothing twice.
use Rattle.std.proofs.Common.{◌≡◌, ℕ, ◌+◌, ◌≤◌, Bool, true, false, eqb, List, [], ◌∷◌, arith}
use native.Mathlib.Decide.{dec_le}
use Rattle.pattern.specs.Sides.{occ, Side, count, joins, path_from, path_sides}
use Rattle.shape.specs.Sides.{both, tick}
use Rattle.pattern.proofs.Count.{tick_add}
use Rattle.pattern.proofs.Occurrences.{hits, occ-cons}

both_le_left : (a b : Bool) → tick (both a b) 0 ≤ tick a 0
both_le_left true true = omega arith
both_le_left true false = omega arith
both_le_left false b = omega arith

both_le_right : (a b : Bool) → tick (both a b) 0 ≤ tick b 0
both_le_right true b = omega arith
both_le_right false true = omega arith
both_le_right false false = omega arith

tick_one : (b : Bool) → tick b 0 ≤ 1
tick_one true = omega arith
tick_one false = omega arith

count-cons : (p q x y : ℕ) (l : List (Side ℕ)) → count eqb p q ((x, y) ∷ l) ≡ tick (both (eqb p x) (eqb q y)) 0 + count eqb p q l
count-cons p q x y l = tick_add (both (eqb p x) (eqb q y)) (count eqb p q l)

-- where a side starts and ends, the path passes
count_start : (p q x : ℕ) (l : List ℕ) → count eqb p q (path_from x l) ≤ occ p (x ∷ l)
count_start p q x [] = omega arith
count_start p q x (y ∷ l) =
    omega (arith, count-cons p q x y (path_from y l), both_le_left (eqb p x) (eqb q y), occ-cons p x (y ∷ l), count_start p q y l)

count_end : (p q x : ℕ) (l : List ℕ) → count eqb p q (path_from x l) ≤ occ q l
count_end p q x [] = omega arith
count_end p q x (y ∷ l) =
    omega (arith, count-cons p q x y (path_from y l), both_le_right (eqb p x) (eqb q y), occ-cons q y l, count_end p q y l)

step_once :
    (a b c d i j m s t : ℕ) → a ≤ i → a ≤ 1 → b ≤ j → b ≤ m → b ≤ 1 → i + (m + s) ≤ 1 → j + t ≤ 1 → c ≤ m + s → d ≤ s → d ≤ t → c ≤ t → c + d ≤ 1 → a + c + (b + d) ≤ 1
step_once a b c d i j m s t h₁ h₂ h₃ h₄ h₅ h₆ h₇ h₈ h₉ h₁₀ h₁₁ h₁₂ = go (dec_le 1 a) (dec_le 1 b)
  where
    go : Dec (1 ≤ a) → Dec (1 ≤ b) → a + c + (b + d) ≤ 1
    go (yes x) y = omega arith
    go (no x) (yes y) = omega arith
    go (no x) (no y) = omega arith

from_once : (p q x : ℕ) (l : List ℕ) → ((z : ℕ) → occ z (x ∷ l) ≤ 1) → joins eqb p q (path_from x l) ≤ 1
from_once p q x [] h = omega arith
from_once p q x (y ∷ l) h =
    let r = from_once p q y l (λ z. omega (arith, h z, occ-cons z x (y ∷ l))) in
    let k =
    step_once (tick (both (eqb p x) (eqb q y)) 0) (tick (both (eqb q x) (eqb p y)) 0) (count eqb p q (path_from y l)) (count eqb q p (path_from y l))
    (hits p x) (hits q x) (hits p y) (occ p l) (occ q (y ∷ l))
    (both_le_left (eqb p x) (eqb q y)) (tick_one (both (eqb p x) (eqb q y))) (both_le_left (eqb q x) (eqb p y)) (both_le_right (eqb q x) (eqb p y)) (tick_one (both (eqb q x) (eqb p y)))
    (omega (arith, h p, occ-cons p x (y ∷ l), occ-cons p y l)) (omega (arith, h q, occ-cons q x (y ∷ l)))
    (omega (arith, count_start p q y l, occ-cons p y l)) (count_end q p y l) (count_start q p y l) (omega (arith, count_end p q y l, occ-cons q y l)) r
    in
    omega (arith, count-cons p q x y (path_from y l), count-cons q p x y (path_from y l))

pub path_once : (p q : ℕ) (l : List ℕ) → ((z : ℕ) → occ z l ≤ 1) → joins eqb p q (path_sides l) ≤ 1
path_once p q [] h = omega arith
path_once p q (x ∷ l) h = from_once p q x l h

pub path_passes : (p q : ℕ) (l : List ℕ) → 1 ≤ joins eqb p q (path_sides l) → 1 ≤ occ p l
path_passes p q [] h = absurd (let z : ⊥ = omega arith in z)
path_passes p q (x ∷ l) h = omega (arith, count_start p q x l, count_end q p x l, occ-cons p x l)
