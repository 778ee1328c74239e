-- Two lists of sides that sort to one list weigh the same under every weight; a count is such a weight.
use mathlib.Core.Path.{◌≡◌, refl, sym, ◌∙◌, ap, ap₂, subst}
use mathlib.Core.List.{List, [], ◌∷◌, ◌++◌}
use mathlib.Core.Bool.{Bool, true, false}
use Prim.Native.Nat.{ℕ, zero, suc, ◌+◌, ◌*◌, ◌/◌, ◌%◌, ◌^◌, ◌≤◌, ◌<◌}
use native.Mathlib.Nat.{not-suc-le-zero}
use native.Mathlib.Omega.{arith}
use lib.Dec.{eqb, leb, T, leb→le, eqb→eq}
use Rattle.pattern.specs.Sides.{Side, same, count}
use Rattle.shape.specs.Sides.{both, tick}
use Rattle.pattern.specs.Spot.{Spot, eq_spot}
use Rattle.pattern.proofs.Count.{weigh, Alike, weigh-++, every, both_left, both_right, hit, count_weigh, count_alike}

abbrev code : Spot → ℕ
code p = p.0 * 48 + p.1 * 16 + p.2

abbrev pub key : Side Spot → ℕ
key s = code s.0 * 256 + code s.1

abbrev high : ℕ → Side Spot → Bool
high k s = eqb (key s / 2 ^ k % 2) 1

abbrev Parts : Type 0
Parts = List (Side Spot) × List (Side Spot)

abbrev put : Bool → Side Spot → Parts → Parts
put true s h = (h.0, s ∷ h.1)
put false s h = (s ∷ h.0, h.1)

abbrev part : ℕ → List (Side Spot) → Parts
part k [] = ([], [])
part k (s ∷ l) = put (high k s) s (part k l)

-- by the lowest k digits of the key
abbrev pub sort : ℕ → List (Side Spot) → List (Side Spot)
sort k [] = []
sort k (x ∷ []) = x ∷ []
sort zero (x ∷ (y ∷ l)) = x ∷ (y ∷ l)
sort (suc k) (x ∷ (y ∷ l)) = let h : Parts = part k (x ∷ (y ∷ l)) in sort k h.0 ++ sort k h.1

put_weigh : (w : Side Spot → ℕ) (b : Bool) (s : Side Spot) (h : Parts) → weigh w (put b s h).0 + weigh w (put b s h).1 ≡ w s + (weigh w h.0 + weigh w h.1)
put_weigh w true s h = omega arith
put_weigh w false s h = omega arith

part_weigh : (w : Side Spot → ℕ) (k : ℕ) (l : List (Side Spot)) → weigh w (part k l).0 + weigh w (part k l).1 ≡ weigh w l
part_weigh w k [] = refl
part_weigh w k (s ∷ l) = put_weigh w (high k s) s (part k l) ∙ ap (λ n. w s + n) (part_weigh w k l)

pub sort_weigh : (w : Side Spot → ℕ) (k : ℕ) (l : List (Side Spot)) → weigh w (sort k l) ≡ weigh w l
sort_weigh w k [] = refl
sort_weigh w k (x ∷ []) = refl
sort_weigh w zero (x ∷ (y ∷ l)) = refl
sort_weigh w (suc k) (x ∷ (y ∷ l)) =
    let h : Parts = part k (x ∷ (y ∷ l)) in
    weigh-++ w (sort k h.0) (sort k h.1)
    ∙ ap₂ (λ m n. m + n) (sort_weigh w k h.0) (sort_weigh w k h.1)
    ∙ part_weigh w k (x ∷ (y ∷ l))

-- the two lists agree place by place
abbrev pub agree : List (Side Spot) → List (Side Spot) → Bool
agree [] [] = true
agree [] (t ∷ m) = false
agree (s ∷ l) [] = false
agree (s ∷ l) (t ∷ m) = both (same eq_spot s.0 s.1 t) (agree l m)

pub eq_spot→eq : (p q : Spot) → T (eq_spot p q) → p ≡ q
eq_spot→eq p q t =
    let a : T (eqb p.2 q.2) = both_left (eqb p.2 q.2) (both (eqb p.1 q.1) (eqb p.0 q.0)) t in
    let u : T (both (eqb p.1 q.1) (eqb p.0 q.0)) = both_right (eqb p.2 q.2) (both (eqb p.1 q.1) (eqb p.0 q.0)) t in
    let d : p.0 ≡ q.0 = eqb→eq p.0 q.0 (both_right (eqb p.1 q.1) (eqb p.0 q.0) u) in
    let s : p.1 ≡ q.1 = eqb→eq p.1 q.1 (both_left (eqb p.1 q.1) (eqb p.0 q.0) u) in
    let i : p.2 ≡ q.2 = eqb→eq p.2 q.2 a in
    λ k. (d k, s k, i k)

pub same→eq : (p q : Spot) (s : Side Spot) → T (same eq_spot p q s) → (p, q) ≡ s
same→eq p q s t =
    ap₂ (λ x y. (x, y)) (eq_spot→eq p s.0 (both_left (eq_spot p s.0) (eq_spot q s.1) t))
    (eq_spot→eq q s.1 (both_right (eq_spot p s.0) (eq_spot q s.1) t))

pub agree→eq : (l m : List (Side Spot)) → T (agree l m) → l ≡ m
agree→eq [] [] t = refl
agree→eq [] (s ∷ m) t = absurd t
agree→eq (s ∷ l) [] t = absurd t
agree→eq (s ∷ l) (u ∷ m) t =
    ap₂ (λ x y. x ∷ y) (same→eq s.0 s.1 u (both_left (same eq_spot s.0 s.1 u) (agree l m) t))
    (agree→eq l m (both_right (same eq_spot s.0 s.1 u) (agree l m) t))

abbrev pub alike_test : List (Side Spot) → List (Side Spot) → Bool
alike_test l m = agree (sort 16 l) (sort 16 m)

pub alike : (l m : List (Side Spot)) → T (alike_test l m) → Alike l m
alike l m t w = sym (sort_weigh w 16 l) ∙ ap (weigh w) (agree→eq (sort 16 l) (sort 16 m) t) ∙ sort_weigh w 16 m

-- ---- a list in rising order of keys has each side at most once
abbrev pub rising : ℕ → List (Side Spot) → Bool
rising b [] = true
rising b (s ∷ l) = both (leb b (key s)) (rising (suc (key s)) l)

none_step : (b : Bool) (n : ℕ) → (T b → ⊥) → n ≡ 0 → tick b n ≡ 0
none_step true n f e = absurd (f tt)
none_step false n f e = e

once_step : (b : Bool) (n : ℕ) → (T b → n ≡ 0) → n ≤ 1 → tick b n ≤ 1
once_step true n f h = let e : n ≡ 0 = f tt in omega arith
once_step false n f h = h

rising_none : (p q : Spot) (b : ℕ) (l : List (Side Spot)) → T (rising b l) → key (p, q) < b → count eq_spot p q l ≡ 0
rising_none p q b [] t h = refl
rising_none p q b (s ∷ l) t h =
    let le : b ≤ key s = leb→le b (key s) (both_left (leb b (key s)) (rising (suc (key s)) l) t) in
    let lt : key (p, q) < suc (key s) = omega arith in
    none_step (same eq_spot p q s) (count eq_spot p q l) (λ e. let k : key (p, q) ≡ key s = ap key (same→eq p q s e) in omega arith)
    (rising_none p q (suc (key s)) l (both_right (leb b (key s)) (rising (suc (key s)) l) t) lt)

rising_once : (p q : Spot) (b : ℕ) (l : List (Side Spot)) → T (rising b l) → count eq_spot p q l ≤ 1
rising_once p q b [] t = omega arith
rising_once p q b (s ∷ l) t =
    let r : T (rising (suc (key s)) l) = both_right (leb b (key s)) (rising (suc (key s)) l) t in
    once_step (same eq_spot p q s) (count eq_spot p q l)
    (λ e. rising_none p q (suc (key s)) l r (let k : key (p, q) ≡ key s = ap key (same→eq p q s e) in omega arith))
    (rising_once p q (suc (key s)) l r)

abbrev pub once_test : List (Side Spot) → Bool
once_test l = rising 0 (sort 16 l)

pub at_most_once : (l : List (Side Spot)) → T (once_test l) → (p q : Spot) → count eq_spot p q l ≤ 1
at_most_once l t p q =
    let e : count eq_spot p q l ≡ count eq_spot p q (sort 16 l) = count_alike eq_spot l (sort 16 l) (λ w. sym (sort_weigh w 16 l)) p q in
    let h : count eq_spot p q (sort 16 l) ≤ 1 = rising_once p q 0 (sort 16 l) t in
    omega arith

-- ---- the first list is part of the second
abbrev pub in_order : List (Side Spot) → List (Side Spot) → Bool
in_order [] m = true
in_order (s ∷ l) [] = false
in_order (s ∷ l) (t ∷ m) = elim (same eq_spot s.0 s.1 t) [ true ↦ in_order l m | false ↦ in_order (s ∷ l) m ]

at_step : (f : Side Spot → Bool) (p q : Spot) (s : Side Spot) (n : ℕ) (b : Bool) → (T b → (p, q) ≡ s) → T (f s) → (1 ≤ n → T (f (p, q))) → 1 ≤ tick b n → T (f (p, q))
at_step f p q s n true e h r c = subst (λ (u : Side Spot). T (f u)) (sym (e tt)) h
at_step f p q s n false e h r c = r c

-- a test that passes at each listed side passes at each side that occurs
pub at : (f : Side Spot → Bool) (l : List (Side Spot)) → T (every f l) → (p q : Spot) → 1 ≤ count eq_spot p q l → T (f (p, q))
at f [] t p q c = absurd (not-suc-le-zero c)
at f (s ∷ l) t p q c =
    at_step f p q s (count eq_spot p q l) (same eq_spot p q s) (same→eq p q s) (both_left (f s) (every f l) t)
    (at f l (both_right (f s) (every f l) t) p q) c

in_step : (w : Side Spot → ℕ) (s u : Side Spot) (l m : List (Side Spot)) (b : Bool)
    → (T b → s ≡ u) → (T (in_order l m) → weigh w l ≤ weigh w m) → (T (in_order (s ∷ l) m) → weigh w (s ∷ l) ≤ weigh w m)
    → T (elim b [ true ↦ in_order l m | false ↦ in_order (s ∷ l) m ]) → weigh w (s ∷ l) ≤ weigh w (u ∷ m)
in_step w s u l m true e f g t = let h : weigh w l ≤ weigh w m = f t in let k : w s ≡ w u = ap w (e tt) in omega arith
in_step w s u l m false e f g t = let h : weigh w (s ∷ l) ≤ weigh w m = g t in omega arith

in_weigh : (w : Side Spot → ℕ) (l m : List (Side Spot)) → T (in_order l m) → weigh w l ≤ weigh w m
in_weigh w [] m t = omega arith
in_weigh w (s ∷ l) [] t = absurd t
in_weigh w (s ∷ l) (u ∷ m) t =
    in_step w s u l m (same eq_spot s.0 s.1 u) (same→eq s.0 s.1 u) (in_weigh w l m) (in_weigh w (s ∷ l) m) t

abbrev pub part_test : List (Side Spot) → List (Side Spot) → Bool
part_test l m = in_order (sort 16 l) (sort 16 m)

pub part_weighs : (l m : List (Side Spot)) → T (part_test l m) → (w : Side Spot → ℕ) → weigh w l ≤ weigh w m
part_weighs l m t w =
    let a : weigh w (sort 16 l) ≤ weigh w (sort 16 m) = in_weigh w (sort 16 l) (sort 16 m) t in
    omega (arith, sort_weigh w 16 l, sort_weigh w 16 m)

pub count_part : (l m : List (Side Spot)) → T (part_test l m) → (p q : Spot) → count eq_spot p q l ≤ count eq_spot p q m
count_part l m t p q =
    let a : weigh (hit eq_spot p q) (sort 16 l) ≤ weigh (hit eq_spot p q) (sort 16 m) = in_weigh (hit eq_spot p q) (sort 16 l) (sort 16 m) t in
    omega (arith, count_weigh eq_spot p q l, count_weigh eq_spot p q m, sort_weigh (hit eq_spot p q) 16 l, sort_weigh (hit eq_spot p q) 16 m)
