-- What every numbering has that making and subdividing give.
use Rattle.std.proofs.Common.{◌≡◌, ℕ, zero, suc, ◌+◌, ◌-◌, ◌*◌, ◌≤◌, Bool, cond, List, [], ◌∷◌, ◌++◌, length, replicate, sym, refl, ap, ◌∙◌, subst, ap₂, add-zero, mul-zero, zero-add, mul-suc, arith, length-append}
use lib.Dec.{eqb-suc-zero}
use lib.ListN.{length-replicate}
use Rattle.pattern.specs.Step.{NumberedContents, None, vertices, range, step, taken, OfCount, of_0, of_1}
use Rattle.pattern.proofs.Count.{weigh, Alike, weigh-++}
use Rattle.pattern.proofs.Grow.{step_of_count, step_fresh}
use Rattle.shape.specs.Lists.{Each}
use Rattle.shape.specs.declared.triangle.Triangle.{Triangle}
use Rattle.mesh.specs.Numbering.{Numbering, lengthened, stepped, after, all_stepped, after_all, steps_for, grown, made, Reached, making, subdividing, flat, inners, given}
use Rattle.pattern.proofs.Occurrences.{range-++}

-- every number below the total is a point, or on one edge once, or in one triangle once
pub record Inv (P E T : ℕ) (N : Numbering) : Type 0 where
  pub small : N.n ≤ 12
  pub edge_count : length N.edges ≡ E
  pub contents_count : length N.contents ≡ T
  pub long : Each (λ l. length l ≡ N.n) N.edges
  pub right : Each (OfCount N.n) N.contents
  pub all : Alike (given P N) (range 0 N.total)

length_range : (h k : ℕ) → length (range h k) ≡ k
length_range h zero = refl
length_range h (suc k) = ap suc (length_range (suc h) k)

-- the numbers from h up to m, and on to k
join_ranges : (h m k : ℕ) → h ≤ m → m ≤ k → (w : ℕ → ℕ) → weigh w (range h (k - h)) ≡ weigh w (range h (m - h)) + weigh w (range m (k - m))
join_ranges h m k a b w =
    ap (λ j. weigh w (range h j)) (let z : k - h ≡ (m - h) + (k - m) = omega arith in z)
    ∙ ap (weigh w) (range-++ h (m - h) (k - m))
    ∙ weigh-++ w (range h (m - h)) (range (h + (m - h)) (k - m))
    ∙ ap (λ j. weigh w (range h (m - h)) + weigh w (range j (k - m))) (let z : h + (m - h) ≡ m = omega arith in z)

-- ---- edges
edges_fresh : (h a : ℕ) (ls : List (List ℕ)) (w : ℕ → ℕ) → weigh w (flat (lengthened h a ls)) ≡ weigh w (flat ls) + weigh w (range h (a * length ls))
edges_fresh h a [] w = sym (ap (λ j. weigh w (range h j)) (mul-zero a)) ∙ sym (zero-add (weigh w (range h (a * 0))))
edges_fresh h a (l ∷ ls) w =
    let r = edges_fresh (h + a) a ls w in
    let e : weigh w (range h (a * suc (length ls))) ≡ weigh w (range h a ++ range (h + a) (a * length ls))
    = ap (λ j. weigh w (range h j)) (let y = mul-suc a (length ls) in let z : a * suc (length ls) ≡ a + a * length ls = omega arith in z)
    ∙ ap (weigh w) (range-++ h a (a * length ls)) in
    omega (
      arith,
      weigh-++ w (l ++ range h a) (flat (lengthened (h + a) a ls)),
      weigh-++ w l (range h a),
      weigh-++ w l (flat ls),
      weigh-++ w (range h a) (range (h + a) (a * length ls)),
    )

edges_long : (h a n : ℕ) (ls : List (List ℕ)) → Each (λ l. length l ≡ n) ls → Each (λ l. length l ≡ n + a) (lengthened h a ls)
edges_long h a n [] e = tt
edges_long h a n (l ∷ ls) e =
    (length-append l (range h a) ∙ ap₂ (λ x y. x + y) e.0 (length_range h a), edges_long (h + a) a n ls e.1)

edges_many : (h a : ℕ) (ls : List (List ℕ)) → length (lengthened h a ls) ≡ length ls
edges_many h a [] = refl
edges_many h a (l ∷ ls) = ap suc (edges_many (h + a) a ls)

-- ---- contents
after_up : (h k : ℕ) (g : NumberedContents) → h ≤ after h k g
after_up h zero g = omega arith
after_up h (suc k) g = omega (arith, after_up (h + taken g) k (step h g))

after_all_up : (h k : ℕ) (gs : List NumberedContents) → h ≤ after_all h k gs
after_all_up h k [] = omega arith
after_all_up h k (g ∷ gs) = omega (arith, after_up h k g, after_all_up (after h k g) k gs)

nothing : (h : ℕ) (w : ℕ → ℕ) → weigh w (range h (h - h)) ≡ 0
nothing h w = ap (λ j. weigh w (range h j)) (let z : h - h ≡ 0 = omega arith in z)

stepped_fresh : (h k : ℕ) (g : NumberedContents) (w : ℕ → ℕ) → weigh w (vertices (stepped h k g)) ≡ weigh w (vertices g) + weigh w (range h (after h k g - h))
stepped_fresh h zero g w = omega (arith, nothing h w)
stepped_fresh h (suc k) g w =
    let m : ℕ = h + taken g in
    let le : h ≤ m = omega arith in
    let r = stepped_fresh m k (step h g) w in
    let s = step_fresh h g w in
    let j = join_ranges h m (after m k (step h g)) le (after_up m k (step h g)) w in
    let e : weigh w (range h (m - h)) ≡ weigh w (range h (taken g)) = ap (λ i. weigh w (range h i)) (let z : h + taken g - h ≡ taken g = omega arith in z) in
    omega (arith, weigh-++ w (vertices g) (range h (taken g)))

all_fresh : (h k : ℕ) (gs : List NumberedContents) (w : ℕ → ℕ) → weigh w (inners (all_stepped h k gs)) ≡ weigh w (inners gs) + weigh w (range h (after_all h k gs - h))
all_fresh h k [] w = omega (arith, nothing h w)
all_fresh h k (g ∷ gs) w =
    let m : ℕ = after h k g in
    let r = all_fresh m k gs w in
    let s = stepped_fresh h k g w in
    let j = join_ranges h m (after_all m k gs) (after_up h k g) (after_all_up m k gs) w in
    omega (arith, weigh-++ w (vertices (stepped h k g)) (inners (all_stepped m k gs)), weigh-++ w (vertices g) (inners gs))

all_many : (h k : ℕ) (gs : List NumberedContents) → length (all_stepped h k gs) ≡ length gs
all_many h k [] = refl
all_many h k (g ∷ gs) = ap suc (all_many (after h k g) k gs)

stepped_right : (h k n : ℕ) (g : NumberedContents) → 1 ≤ n → OfCount n g → OfCount (n + k) (stepped h k g)
stepped_right h zero n g l r = subst (λ (m : ℕ). OfCount m g) (sym (add-zero n)) r
stepped_right h (suc k) n g l r =
    let le : 1 ≤ suc n = omega arith in
    subst (λ (m : ℕ). OfCount m (stepped (h + taken g) k (step h g))) (let z : suc n + k ≡ n + suc k = omega arith in z)
    (stepped_right (h + taken g) k (suc n) (step h g) le (step_of_count h n g l r))

zero_one : (g : NumberedContents) → OfCount 0 g → OfCount 1 g
zero_one g of_0 = of_1

grown_right : (h a n : ℕ) (g : NumberedContents) → OfCount n g → OfCount (n + a) (stepped h (steps_for n a) g)
grown_right h zero zero g r = r
grown_right h (suc a) zero g r =
    subst (λ (m : ℕ). OfCount (0 + suc a) (stepped h m g)) (let z : a ≡ suc a - 1 = omega arith in z)
    (subst (λ (m : ℕ). OfCount m (stepped h a g)) (let z : 1 + a ≡ 0 + suc a = omega arith in z)
    (let le : 1 ≤ 1 = omega arith in stepped_right h a 1 g le (zero_one g r)))
grown_right h a (suc n) g r =
    let le : 1 ≤ suc n = omega arith in
    subst (λ (b : Bool). OfCount (suc n + a) (stepped h (cond b (a - 1) a) g)) (sym (eqb-suc-zero n)) (stepped_right h a (suc n) g le r)

all_right : (h a n : ℕ) (gs : List NumberedContents) → Each (OfCount n) gs → Each (OfCount (n + a)) (all_stepped h (steps_for n a) gs)
all_right h a n [] e = tt
all_right h a n (g ∷ gs) e = (grown_right h a n g e.0, all_right (after h (steps_for n a) g) a n gs e.1)

-- ---- the whole
grown_inv : (P E T : ℕ) (N : Numbering) (a : ℕ) → N.n + a ≤ 12 → Inv P E T N → Inv P E T (grown a N)
grown_inv P E T N a le I =
    let h : ℕ = N.total + a * length N.edges in
    let k : ℕ = steps_for N.n a in
    let m : ℕ = after_all h k N.contents in
    let up : h ≤ m = after_all_up h k N.contents in
    record {
      small = le;
      edge_count = edges_many N.total a N.edges ∙ I.edge_count;
      contents_count = all_many h k N.contents ∙ I.contents_count;
      long = edges_long N.total a N.n N.edges I.long;
      right = all_right h a N.n N.contents I.right;
      all = λ w.
          let b = I.all w in
          let e = edges_fresh N.total a N.edges w in
          let f = all_fresh h k N.contents w in
          let z : 0 ≤ N.total = omega arith in
          let y : N.total ≤ m = omega arith in
          let x : N.total ≤ h = omega arith in
          let j = join_ranges 0 N.total m z y w in
          let i = join_ranges N.total h m x up w in
          let d : weigh w (range N.total (h - N.total)) ≡ weigh w (range N.total (a * length N.edges))
          = ap (λ c. weigh w (range N.total c)) (let c : N.total + a * length N.edges - N.total ≡ a * length N.edges = omega arith in c) in
          let p : weigh w (range 0 (m - 0)) ≡ weigh w (range 0 m) = ap (λ c. weigh w (range 0 c)) (let c : m - 0 ≡ m = omega arith in c) in
          let q : weigh w (range 0 (N.total - 0)) ≡ weigh w (range 0 N.total) = ap (λ c. weigh w (range 0 c)) (let c : N.total - 0 ≡ N.total = omega arith in c) in
          omega (
            arith,
            weigh-++ w (range 0 P) (flat N.edges ++ inners N.contents),
            weigh-++ w (flat N.edges) (inners N.contents),
            weigh-++ w (range 0 P) (flat (lengthened N.total a N.edges) ++ inners (all_stepped h k N.contents)),
            weigh-++ w (flat (lengthened N.total a N.edges)) (inners (all_stepped h k N.contents)),
          );
    }

no_edges : (E : ℕ) (w : ℕ → ℕ) → weigh w (flat (replicate E [])) ≡ 0
no_edges zero w = refl
no_edges (suc E) w = no_edges E w

no_inners : (T : ℕ) (w : ℕ → ℕ) → weigh w (inners (replicate T None)) ≡ 0
no_inners zero w = refl
no_inners (suc T) w = no_inners T w

-- only the base's points, numbered from 0: making is growing from there
abbrev pub bare : ℕ → ℕ → ℕ → Numbering
bare P E T = record { n = 0; total = P; edges = replicate E []; contents = replicate T None }

bare_long : (E : ℕ) → Each (λ (l : List ℕ). length l ≡ 0) (replicate E [])
bare_long zero = tt
bare_long (suc E) = (refl, bare_long E)

bare_right : (T : ℕ) → Each (OfCount 0) (replicate T None)
bare_right zero = tt
bare_right (suc T) = (of_0, bare_right T)

bare_inv : (P E T : ℕ) → Inv P E T (bare P E T)
bare_inv P E T =
    record {
      small = omega arith;
      edge_count = length-replicate E [];
      contents_count = length-replicate T None;
      long = bare_long E;
      right = bare_right T;
      all = λ w.
          omega (
            arith,
            no_edges E w,
            no_inners T w,
            weigh-++ w (range 0 P) (flat (replicate E []) ++ inners (replicate T None)),
            weigh-++ w (flat (replicate E [])) (inners (replicate T None)),
          );
    }

pub made_is : (P E T n : ℕ) → grown n (bare P E T) ≡ made P E T n
made_is P E T n =
    λ i. record {
      n = zero-add n i;
      total = after_all (P + n * length-replicate {A = List ℕ} E [] i) (n - 1) (replicate T None);
      edges = (made P E T n).edges;
      contents = all_stepped (P + n * length-replicate {A = List ℕ} E [] i) (n - 1) (replicate T None);
    }

pub reached_inv : (P E : ℕ) (ts : List Triangle) (N : Numbering) → Reached P E ts N → Inv P E (length ts) N
reached_inv P E ts N (making n le) =
    subst (Inv P E (length ts)) (made_is P E (length ts) n)
    (grown_inv P E (length ts) (bare P E (length ts)) n (let z : 0 + n ≤ 12 = omega arith in z) (bare_inv P E (length ts)))
reached_inv P E ts N (subdividing {N = M} a r le) = grown_inv P E (length ts) M a le (reached_inv P E ts M r)
