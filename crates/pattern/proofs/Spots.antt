-- The laws of one triangle's faces and strips, over its spots, from the tests that passed.
use mathlib.Core.Path.{◌≡◌}
use mathlib.Core.List.{List, ◌++◌}
use mathlib.Core.Bool.{Bool, true, false}
use Prim.Native.Nat.{ℕ, suc, ◌+◌, ◌*◌, ◌≤◌, ◌<◌}
use native.Mathlib.Omega.{arith}
use lib.Dec.{T, eqb, leb, leb→le, le→leb, eqb→eq}
use lib.ListN.{length}
use Rattle.shape.specs.Sides.{both}
use Rattle.pattern.specs.Amounts.{lengths, triangle_line_numbers, triangle_line_breaks}
use Rattle.pattern.specs.Laws.{FaceLaw, StripsLaw, SpotsSound}
use Rattle.pattern.specs.Sides.{Side, count, joins, among, back, path_sides}
use Rattle.pattern.specs.Spot.{Spot, eq_spot, spot_faces, spot_strips, spot_sides, closed_side, border_at, is_spot, ends, all_spots}
use Rattle.pattern.proofs.Computed.{S, R, V, C, or_else, next_on, up_to, borders, split, passed, at_count}
use Rattle.pattern.proofs.Count.{weigh, Alike, every, two_ways, both_left, both_right, both_in, count_alike, count-++, count_back, count_two_ways}
use Rattle.pattern.proofs.Sort.{alike, at_most_once, part_weighs, count_part, at}

-- ---- what the tests say, in counts
module _ (n : ℕ) (h : n ≤ 12) (p q : Spot) where
  s_once : count eq_spot p q (S n) ≤ 1
  s_once = at_most_once (S n) (passed n h).once_is p q

  pub s_paired : count eq_spot p q (S n) + count eq_spot q p (R n) ≡ count eq_spot q p (S n) + count eq_spot p q (R n)
  s_paired =
      let e : count eq_spot p q (S n ++ back (R n)) ≡ count eq_spot p q (back (S n) ++ R n)
      = count_alike eq_spot (S n ++ back (R n)) (back (S n) ++ R n) (alike (S n ++ back (R n)) (back (S n) ++ R n) (passed n h).paired_is) p q in
      omega (arith, count-++ eq_spot p q (S n) (back (R n)), count-++ eq_spot p q (back (S n)) (R n), count_back eq_spot p q (S n), count_back eq_spot p q (R n))

  pub s_apart : joins eq_spot p q (R n) + joins eq_spot p q (C n) ≤ 1
  s_apart =
      let e : count eq_spot p q (two_ways (R n) ++ two_ways (C n)) ≤ 1
      = at_most_once (two_ways (R n) ++ two_ways (C n)) (passed n h).apart_are p q in
      omega (arith, count-++ eq_spot p q (two_ways (R n)) (two_ways (C n)), count_two_ways eq_spot p q (R n), count_two_ways eq_spot p q (C n))

  pub s_parts : count eq_spot p q (R n) + count eq_spot p q (C n) ≤ count eq_spot p q (S n)
  s_parts =
      let e : count eq_spot p q (R n ++ two_ways (C n)) ≤ count eq_spot p q (S n)
      = count_part (R n ++ two_ways (C n)) (S n) (passed n h).parts_are p q in
      omega (arith, count-++ eq_spot p q (R n) (two_ways (C n)), count_two_ways eq_spot p q (C n))

  pub s_shows : joins eq_spot p q (V n) + joins eq_spot p q (V n) + joins eq_spot p q (R n) ≡ joins eq_spot p q (S n) + joins eq_spot p q (C n) + joins eq_spot p q (C n)
  s_shows =
      let l : List (Side Spot) = two_ways (V n) ++ two_ways (V n) ++ two_ways (R n) in
      let m : List (Side Spot) = two_ways (S n) ++ two_ways (C n) ++ two_ways (C n) in
      let e : count eq_spot p q l ≡ count eq_spot p q m = count_alike eq_spot l m (alike l m (passed n h).shows_is) p q in
      omega (
        arith,
        count-++ eq_spot p q (two_ways (V n) ++ two_ways (V n)) (two_ways (R n)),
        count-++ eq_spot p q (two_ways (V n)) (two_ways (V n)),
        count-++ eq_spot p q (two_ways (S n) ++ two_ways (C n)) (two_ways (C n)),
        count-++ eq_spot p q (two_ways (S n)) (two_ways (C n)),
        count_two_ways eq_spot p q (V n),
        count_two_ways eq_spot p q (R n),
        count_two_ways eq_spot p q (S n),
        count_two_ways eq_spot p q (C n),
      )

  s_borders : (k : ℕ) → k < 3 → 1 ≤ count eq_spot p q (S n) → T (next_on n k (p, q))
  s_borders k lt c =
      let t : T (borders n) = (passed n h).borders_are in
      let le : k ≤ 2 = omega arith in
      at (next_on n k) (S n) (at_count (λ j. every (next_on n j) (S n)) 2 t k le) p q c

-- how many faces one triangle has, how many numbers and breaks its strips
module _ (n : ℕ) (h : n ≤ 12) where
  abbrev faces? : Bool
  faces? = eqb (length (spot_faces n)) ((n + 1) * (n + 1))

  abbrev numbers? : Bool
  numbers? = eqb (lengths (spot_strips n)) (triangle_line_numbers n)

  abbrev breaks? : Bool
  breaks? = eqb (length (spot_strips n)) (triangle_line_breaks n)

  pub s_faces : length (spot_faces n) ≡ (n + 1) * (n + 1)
  s_faces = eqb→eq (length (spot_faces n)) ((n + 1) * (n + 1)) (both_left faces? (both numbers? breaks?) (passed n h).sizes_are)

  pub s_numbers : lengths (spot_strips n) ≡ triangle_line_numbers n
  s_numbers =
      eqb→eq (lengths (spot_strips n)) (triangle_line_numbers n)
      (both_left numbers? breaks? (both_right faces? (both numbers? breaks?) (passed n h).sizes_are))

  pub s_breaks : length (spot_strips n) ≡ triangle_line_breaks n
  s_breaks =
      eqb→eq (length (spot_strips n)) (triangle_line_breaks n)
      (both_right numbers? breaks? (both_right faces? (both numbers? breaks?) (passed n h).sizes_are))

pub s_splits : (n : ℕ) → n ≤ 12 → T (every (split n) (all_spots n))
s_splits n h = (passed n h).splits_are

pub s_drawn : (n : ℕ) → n ≤ 12 → T (every (every (is_spot n)) (spot_strips n))
s_drawn n h = (passed n h).drawn_are

pub s_spots : (n : ℕ) → n ≤ 12 → T (every (ends n) (spot_sides n))
s_spots n h = (passed n h).spots_are

-- no side goes from a spot to itself
pub no_loop : (n : ℕ) → n ≤ 12 → (p : Spot) → count eq_spot p p (spot_sides n) ≡ 0
no_loop n h p =
    let a = s_once n h p p in
    let d = s_apart n h p p in
    let g = s_shows n h p p in
    let e : count eq_spot p p (V n) + count eq_spot p p (V n) ≡ count eq_spot p p (S n) = omega arith in
    let f : count eq_spot p p (V n) ≡ 0 = omega arith in
    omega arith

pub parts_weigh : (n : ℕ) → n ≤ 12 → (w : Side Spot → ℕ) → weigh w (R n ++ two_ways (C n)) ≤ weigh w (S n)
parts_weigh n h w = part_weighs (R n ++ two_ways (C n)) (S n) (passed n h).parts_are w

pub paired_alike : (n : ℕ) → n ≤ 12 → Alike (S n ++ back (R n)) (back (S n) ++ R n)
paired_alike n h = alike (S n ++ back (R n)) (back (S n) ++ R n) (passed n h).paired_is

pub shows_alike :
    (n : ℕ) → n ≤ 12
    → Alike (two_ways (V n) ++ two_ways (V n) ++ two_ways (R n)) (two_ways (S n) ++ two_ways (C n) ++ two_ways (C n))
shows_alike n h =
    alike (two_ways (V n) ++ two_ways (V n) ++ two_ways (R n)) (two_ways (S n) ++ two_ways (C n) ++ two_ways (C n)) (passed n h).shows_is

or_else_out : (a b : Bool) → T (or_else a b) → T a → T b
or_else_out true b t s = t
or_else_out false b t s = absurd s

module _ (n : ℕ) (h : n ≤ 12) (k : ℕ) (lt : k < 3) where
  abbrev Next : Bool
  Next = up_to n (λ x. leb 1 (count eq_spot (border_at n k x) (border_at n k (suc x)) (path_sides (closed_side n k))))

  abbrev only : ℕ → ℕ → Bool
  only x y = or_else (leb 1 (count eq_spot (border_at n k x) (border_at n k y) (path_sides (closed_side n k)))) (eqb y (suc x))

  abbrev here : ℕ → Bool
  here x = both (among eq_spot (border_at n k x) (closed_side n k)) (up_to (suc n) (only x))

  at_k : T (both Next (up_to (suc n) here))
  at_k =
      let le : k ≤ 2 = omega arith in
      at_count (λ j. both (up_to n (λ x. leb 1 (count eq_spot (border_at n j x) (border_at n j (suc x)) (path_sides (closed_side n j)))))
      (up_to (suc n) (λ x. both (among eq_spot (border_at n j x) (closed_side n j))
      (up_to (suc n) (λ y. or_else (leb 1 (count eq_spot (border_at n j x) (border_at n j y) (path_sides (closed_side n j)))) (eqb y (suc x)))))))
      2 (passed n h).follows_is k le

  pub next : (x : ℕ) → x ≤ n → 1 ≤ count eq_spot (border_at n k x) (border_at n k (suc x)) (path_sides (closed_side n k))
  next x le =
      leb→le 1 (count eq_spot (border_at n k x) (border_at n k (suc x)) (path_sides (closed_side n k)))
      (at_count (λ x. leb 1 (count eq_spot (border_at n k x) (border_at n k (suc x)) (path_sides (closed_side n k)))) n
      (both_left Next (up_to (suc n) here) at_k) x le)

  at_x : (x : ℕ) → x ≤ suc n → T (here x)
  at_x x le = at_count here (suc n) (both_right Next (up_to (suc n) here) at_k) x le

  pub on_side : (x : ℕ) → x ≤ suc n → T (among eq_spot (border_at n k x) (closed_side n k))
  on_side x le = both_left (among eq_spot (border_at n k x) (closed_side n k)) (up_to (suc n) (only x)) (at_x x le)

  pub only_next : (x y : ℕ) → x ≤ suc n → y ≤ suc n → 1 ≤ count eq_spot (border_at n k x) (border_at n k y) (path_sides (closed_side n k)) → y ≡ suc x
  only_next x y l m c =
      eqb→eq y (suc x)
      (or_else_out (leb 1 (count eq_spot (border_at n k x) (border_at n k y) (path_sides (closed_side n k)))) (eqb y (suc x))
      (at_count (only x) (suc n) (both_right (among eq_spot (border_at n k x) (closed_side n k)) (up_to (suc n) (only x)) (at_x x l)) y m)
      (le→leb 1 (count eq_spot (border_at n k x) (border_at n k y) (path_sides (closed_side n k))) c))

module _ (n : ℕ) (h : n ≤ 12) (p q : Spot) where
  face_law : FaceLaw n p q
  face_law =
      record {
        once = s_once n h p q;
        inner = λ c e. omega (arith, s_once n h p q, s_once n h q p, s_paired n h p q, s_apart n h p q);
        outer = λ c. omega (arith, s_once n h p q, s_once n h q p, s_paired n h p q, s_apart n h p q, s_parts n h p q);
        border = λ k lt i j c.
            leb→le 1 (joins eq_spot p q (path_sides (closed_side n k)))
            (or_else_out (both (among eq_spot p (closed_side n k)) (among eq_spot q (closed_side n k))) (leb 1 (joins eq_spot p q (path_sides (closed_side n k))))
            (s_borders n h p q k lt c) (both_in (among eq_spot p (closed_side n k)) (among eq_spot q (closed_side n k)) i j));
      }

  strips_law : StripsLaw n p q
  strips_law =
      let a = s_once n h p q in
      let b = s_once n h q p in
      let c = s_paired n h p q in
      let d = s_apart n h p q in
      let e = s_parts n h p q in
      let f = s_parts n h q p in
      let g = s_shows n h p q in
      record {
        within = λ x y z. omega arith;
        closing = λ x. omega arith;
        on_border = λ x. omega arith;
        no_other = λ x. omega arith;
      }

pub spots_sound : SpotsSound
spots_sound n h p q = (face_law n h p q, strips_law n h p q)
