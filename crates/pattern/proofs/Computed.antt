-- The tests of one triangle's faces and strips, computed at each count from 0 to 12.
use mathlib.Core.Path.{◌≡◌, subst}
use mathlib.Core.List.{List, [], ◌∷◌, ◌++◌}
use mathlib.Core.Bool.{Bool, true, false}
use Prim.Native.Nat.{ℕ, zero, suc, ◌+◌, ◌*◌, ◌≤◌}
use native.Mathlib.Nat.{not-suc-le-zero}
use native.Mathlib.Decide.{dec_le}
use native.Mathlib.Omega.{arith}
use lib.Dec.{T, eqb, leb}
use lib.ListN.{length}
use Rattle.shape.specs.Sides.{both}
use Rattle.pattern.specs.Amounts.{lengths, triangle_line_numbers, triangle_line_breaks}
use Rattle.pattern.specs.Sides.{Side, either, count, joins, among, back, path_sides}
use Rattle.pattern.specs.Spot.{Spot, eq_spot, spot_faces, spot_strips, spot_sides, border_sides, shown_sides, closing_sides, closed_side, border_at, is_spot, ends, inside, all_spots}
use Rattle.pattern.specs.Ring.{contents_list}
use Rattle.pattern.proofs.Count.{every, two_ways, both_left, both_right}
use Rattle.pattern.proofs.Sort.{alike_test, once_test, part_test}

abbrev pub S : ℕ → List (Side Spot)
S n = spot_sides n

abbrev pub R : ℕ → List (Side Spot)
R n = border_sides n

abbrev pub V : ℕ → List (Side Spot)
V n = shown_sides n

abbrev pub C : ℕ → List (Side Spot)
C n = closing_sides n

abbrev pub or_else : Bool → Bool → Bool
or_else true b = b
or_else false b = true

abbrev pub next_on : ℕ → ℕ → Side Spot → Bool
next_on n k s =
    or_else (both (among eq_spot s.0 (closed_side n k)) (among eq_spot s.1 (closed_side n k)))
    (leb 1 (joins eq_spot s.0 s.1 (path_sides (closed_side n k))))

abbrev pub spots : ℕ → Bool
spots n = every (ends n) (S n)

abbrev pub once : ℕ → Bool
once n = once_test (S n)

abbrev pub paired : ℕ → Bool
paired n = alike_test (S n ++ back (R n)) (back (S n) ++ R n)

abbrev pub apart : ℕ → Bool
apart n = once_test (two_ways (R n) ++ two_ways (C n))

abbrev pub parts : ℕ → Bool
parts n = part_test (R n ++ two_ways (C n)) (S n)

abbrev pub shows : ℕ → Bool
shows n = alike_test (two_ways (V n) ++ two_ways (V n) ++ two_ways (R n)) (two_ways (S n) ++ two_ways (C n) ++ two_ways (C n))

-- a test at 0 to k
abbrev pub up_to : ℕ → (ℕ → Bool) → Bool
up_to zero f = f 0
up_to (suc k) f = both (f (suc k)) (up_to k f)

abbrev pub borders : ℕ → Bool
borders n = up_to 2 (λ k. every (next_on n k) (S n))

-- on a closed side each position is followed by the next, and by no other
abbrev pub follows : ℕ → Bool
follows n =
    up_to 2 (λ k. both (up_to n (λ x. leb 1 (count eq_spot (border_at n k x) (border_at n k (suc x)) (path_sides (closed_side n k)))))
    (up_to (suc n) (λ x. both (among eq_spot (border_at n k x) (closed_side n k))
    (up_to (suc n) (λ y. or_else (leb 1 (count eq_spot (border_at n k x) (border_at n k y) (path_sides (closed_side n k)))) (eqb y (suc x)))))))

-- a spot is on the border or in the contents
abbrev pub split : ℕ → Spot → Bool
split n p = either (both (eqb p.0 0) (both (leb p.1 2) (leb p.2 n))) (among eq_spot p (contents_list (inside 1 n)))

abbrev pub splits : ℕ → Bool
splits n = every (split n) (all_spots n)

abbrev pub sizes : ℕ → Bool
sizes n =
    both (eqb (length (spot_faces n)) ((n + 1) * (n + 1)))
    (both (eqb (lengths (spot_strips n)) (triangle_line_numbers n)) (eqb (length (spot_strips n)) (triangle_line_breaks n)))

abbrev pub drawn : ℕ → Bool
drawn n = every (every (is_spot n)) (spot_strips n)

abbrev all : ℕ → List Bool
all n = drawn n ∷ spots n ∷ once n ∷ paired n ∷ apart n ∷ parts n ∷ shows n ∷ borders n ∷ follows n ∷ splits n ∷ sizes n ∷ []

abbrev pass : List Bool → Bool
pass [] = true
pass (b ∷ l) = both b (pass l)

at_0 : T (pass (all 0))
at_0 = tt

at_1 : T (pass (all 1))
at_1 = tt

at_2 : T (pass (all 2))
at_2 = tt

at_3 : T (pass (all 3))
at_3 = tt

at_4 : T (pass (all 4))
at_4 = tt

at_5 : T (pass (all 5))
at_5 = tt

at_6 : T (pass (all 6))
at_6 = tt

at_7 : T (pass (all 7))
at_7 = tt

at_8 : T (pass (all 8))
at_8 = tt

at_9 : T (pass (all 9))
at_9 = tt

at_10 : T (pass (all 10))
at_10 = tt

at_11 : T (pass (all 11))
at_11 = tt

at_12 : T (pass (all 12))
at_12 = tt

passes : (n : ℕ) → n ≤ 12 → T (pass (all n))
passes zero h = at_0
passes (suc zero) h = at_1
passes (suc (suc zero)) h = at_2
passes (suc (suc (suc zero))) h = at_3
passes (suc (suc (suc (suc zero)))) h = at_4
passes (suc (suc (suc (suc (suc zero))))) h = at_5
passes (suc (suc (suc (suc (suc (suc zero)))))) h = at_6
passes (suc (suc (suc (suc (suc (suc (suc zero))))))) h = at_7
passes (suc (suc (suc (suc (suc (suc (suc (suc zero)))))))) h = at_8
passes (suc (suc (suc (suc (suc (suc (suc (suc (suc zero))))))))) h = at_9
passes (suc (suc (suc (suc (suc (suc (suc (suc (suc (suc zero)))))))))) h = at_10
passes (suc (suc (suc (suc (suc (suc (suc (suc (suc (suc (suc zero))))))))))) h = at_11
passes (suc (suc (suc (suc (suc (suc (suc (suc (suc (suc (suc (suc zero)))))))))))) h = at_12
passes (suc (suc (suc (suc (suc (suc (suc (suc (suc (suc (suc (suc (suc k))))))))))))) h = absurd (let z : ⊥ = omega arith in z)

rest : (b : Bool) (l : List Bool) → T (pass (b ∷ l)) → T (pass l)
rest b l t = both_right b (pass l) t

front : (b : Bool) (l : List Bool) → T (pass (b ∷ l)) → T b
front b l t = both_left b (pass l) t

-- what the tests at n have shown
pub record Passed (n : ℕ) : Type 0 where
  pub drawn_are : T (drawn n)
  pub spots_are : T (spots n)
  pub once_is : T (once n)
  pub paired_is : T (paired n)
  pub apart_are : T (apart n)
  pub parts_are : T (parts n)
  pub shows_is : T (shows n)
  pub borders_are : T (borders n)
  pub follows_is : T (follows n)
  pub splits_are : T (splits n)
  pub sizes_are : T (sizes n)

pub passed : (n : ℕ) → n ≤ 12 → Passed n
passed n h =
    let l9 : List Bool = sizes n ∷ [] in
    let l8 : List Bool = splits n ∷ l9 in
    let l7 : List Bool = follows n ∷ l8 in
    let l6 : List Bool = borders n ∷ l7 in
    let l5 : List Bool = shows n ∷ l6 in
    let l4 : List Bool = parts n ∷ l5 in
    let l3 : List Bool = apart n ∷ l4 in
    let l2 : List Bool = paired n ∷ l3 in
    let l1 : List Bool = once n ∷ l2 in
    let l0 : List Bool = spots n ∷ l1 in
    let t = passes n h in
    let t0 = rest (drawn n) l0 t in
    let t1 = rest (spots n) l1 t0 in
    let t2 = rest (once n) l2 t1 in
    let t3 = rest (paired n) l3 t2 in
    let t4 = rest (apart n) l4 t3 in
    let t5 = rest (parts n) l5 t4 in
    let t6 = rest (shows n) l6 t5 in
    let t7 = rest (borders n) l7 t6 in
    let t8 = rest (follows n) l8 t7 in
    let t9 = rest (splits n) l9 t8 in
    record {
      drawn_are = front (drawn n) l0 t;
      spots_are = front (spots n) l1 t0;
      once_is = front (once n) l2 t1;
      paired_is = front (paired n) l3 t2;
      apart_are = front (apart n) l4 t3;
      parts_are = front (parts n) l5 t4;
      shows_is = front (shows n) l6 t5;
      borders_are = front (borders n) l7 t6;
      follows_is = front (follows n) l8 t7;
      splits_are = front (splits n) l9 t8;
      sizes_are = front (sizes n) [] t9;
    }

-- a test that passes at 0 to k passes at each
at_step : (f : ℕ → Bool) (k n : ℕ) → (n ≤ k → T (f n)) → T (f (suc k)) → n ≤ suc k → Dec (n ≤ k) → T (f n)
at_step f k n below here h (yes le) = below le
at_step f k n below here h (no nle) = let e : suc k ≡ n = omega arith in subst (λ (m : ℕ). T (f m)) e here

pub at_count : (f : ℕ → Bool) (k : ℕ) → T (up_to k f) → (n : ℕ) → n ≤ k → T (f n)
at_count f zero t zero h = t
at_count f zero t (suc n) h = absurd (not-suc-le-zero h)
at_count f (suc k) t n h =
    at_step f k n (at_count f k (both_right (f (suc k)) (up_to k f) t) n) (both_left (f (suc k)) (up_to k f) t) h (dec_le n k)
