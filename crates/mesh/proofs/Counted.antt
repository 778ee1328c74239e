-- How many vertices there are, and that each number is given once.
use Rattle.std.proofs.Common.{◌≡◌, ℕ, zero, suc, ◌+◌, ◌-◌, ◌*◌, ◌/◌, ◌<◌, ◌≤◌, List, [], ◌∷◌, ◌++◌, length, sym, refl, ap, ◌∙◌, ap₂, suc-mul, add-mul, mul-le-mul, mul-zero, zero-mul, mul-suc, mul-add, arith}
use Rattle.pattern.specs.Step.{NumberedContents, vertices, range, OfCount, of_0, of_1, of_2, of_3, of_4, of_more}
use Rattle.pattern.proofs.Count.{weigh, weigh-++}
use Rattle.shape.specs.Lists.{Each}
use Rattle.mesh.specs.Numbering.{flat, inners, given, VerticesOnce}
use Rattle.mesh.proofs.Invariant.{Inv, reached_inv}
use Rattle.pattern.proofs.Occurrences.{occ_alike, range_once, range_in, range_above}

abbrev one : ℕ → ℕ
one x = 1

length_weigh : (l : List ℕ) → weigh one l ≡ length l
length_weigh [] = refl
length_weigh (x ∷ l) = omega (arith, length_weigh l)

range_size : (h k : ℕ) → weigh one (range h k) ≡ k
range_size h zero = refl
range_size h (suc k) = omega (arith, range_size (suc h) k)

edges_size : (m : ℕ) (ls : List (List ℕ)) → Each (λ l. length l ≡ m) ls → weigh one (flat ls) ≡ m * length ls
edges_size m [] e = sym (mul-zero m)
edges_size m (l ∷ ls) e =
    let a = e.0 in
    omega (arith, weigh-++ one l (flat ls), length_weigh l, edges_size m ls e.1, mul-suc m (length ls))

square : (m : ℕ) → (m + 3) * (m + 3) ≡ m * m + 6 * m + 9
square m = omega (arith, mul-add (m + 3) m 3, add-mul m 3 m)

vertices_square : (n : ℕ) (g : NumberedContents) → OfCount n g → weigh one (vertices g) + weigh one (vertices g) + n ≡ n * n
vertices_square n g of_0 = refl
vertices_square n g of_1 = refl
vertices_square n g of_2 = refl
vertices_square n g of_3 = refl
vertices_square n g of_4 = refl
vertices_square n g (of_more {k = k} {sides = sides} {t = t} e r) =
    let m : ℕ = suc (suc k) in
    let i = vertices_square m t r in
    let w : suc (suc (suc m)) * suc (suc (suc m)) ≡ (m + 3) * (m + 3) = ap (λ x. x * x) (let z : suc (suc (suc m)) ≡ m + 3 = omega arith in z) in
    omega (arith, weigh-++ one sides (vertices t), length_weigh sides, square m)

half : (n s : ℕ) → s + s + n ≡ n * n → s ≡ n * (n - 1) / 2
half zero s e = let z : s ≡ 0 = omega arith in z
half (suc m) s e =
    let a : suc m * (suc m - 1) ≡ suc m * m = ap (λ x. suc m * x) (let z : suc m - 1 ≡ m = omega arith in z) in
    omega (arith, mul-suc (suc m) m)

inners_size : (n : ℕ) (gs : List NumberedContents) → Each (OfCount n) gs → weigh one (inners gs) ≡ length gs * (n * (n - 1) / 2)
inners_size n [] e = sym (zero-mul (n * (n - 1) / 2))
inners_size n (g ∷ gs) e =
    let a : weigh one (vertices g) ≡ n * (n - 1) / 2 = half n (weigh one (vertices g)) (vertices_square n g e.0) in
    let b = inners_size n gs e.1 in
    let c = suc-mul (length gs) (n * (n - 1) / 2) in
    weigh-++ one (vertices g) (inners gs) ∙ ap₂ (λ x y. x + y) a b ∙ (let z : n * (n - 1) / 2 + length gs * (n * (n - 1) / 2) ≡ length gs * (n * (n - 1) / 2) + n * (n - 1) / 2 = omega arith in z) ∙ sym c

pub vertices_once : VerticesOnce
vertices_once P E ts A N R =
    record {
      total_is = size;
      fits = fit;
      once = λ x l.
          let a : 0 ≤ x = omega arith in
          let b : x < 0 + N.total = omega arith in
          omega (arith, occ_alike (given P N) (range 0 N.total) I.all x, range_once x 0 N.total, range_in x 0 N.total a b);
      no_other = λ x l.
          let b : 0 + N.total ≤ x = omega arith in
          occ_alike (given P N) (range 0 N.total) I.all x ∙ range_above x 0 N.total b;
    }
  where
    I : Inv P E (length ts) N
    I = reached_inv P E ts N R

    size : N.total ≡ P + N.n * E + length ts * (N.n * (N.n - 1) / 2)
    size =
        let a = I.all one in
        let b : N.n * length N.edges ≡ N.n * E = ap (λ x. N.n * x) I.edge_count in
        let c : length N.contents * (N.n * (N.n - 1) / 2) ≡ length ts * (N.n * (N.n - 1) / 2) = ap (λ x. x * (N.n * (N.n - 1) / 2)) I.contents_count in
        omega (
          arith,
          weigh-++ one (range 0 P) (flat N.edges ++ inners N.contents),
          weigh-++ one (flat N.edges) (inners N.contents),
          range_size 0 N.total,
          range_size 0 P,
          edges_size N.n N.edges I.long,
          inners_size N.n N.contents I.right,
        )

    fit : N.total ≤ 3360
    fit =
        let n≤ : N.n ≤ 12 = I.small in
        let n-1≤ : N.n - 1 ≤ 11 = omega arith in
        let x : N.n * E ≤ 12 * 96 = mul-le-mul n≤ A.sizes.edges.1 in
        let y : N.n * (N.n - 1) ≤ 12 * 11 = mul-le-mul n≤ n-1≤ in
        let h : N.n * (N.n - 1) / 2 ≤ 66 = omega arith in
        let z : length ts * (N.n * (N.n - 1) / 2) ≤ 32 * 66 = mul-le-mul A.triangles.few h in
        let p : P ≤ 96 = A.sizes.points.1 in
        omega (arith, size)
