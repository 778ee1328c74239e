-- Where no vertex occurs twice in a triangle, its spots have different vertices.
use mathlib.Core.Path.{◌≡◌, refl, sym, ◌∙◌, ap, ap₂, subst}
use mathlib.Core.List.{List, [], ◌∷◌, ◌++◌, map}
use mathlib.Core.Bool.{Bool, true, false}
use Prim.Native.Nat.{ℕ, zero, suc, ◌+◌, ◌≤◌}
use native.Mathlib.Nat.{add-suc, add-zero, zero-add, suc-add}
use native.Mathlib.Omega.{arith}
use lib.Dec.{T, eqb, eqb_refl}
use lib.ListN.{length, get_or}
use Rattle.pattern.proofs.Meeting.{Apart}
use Rattle.pattern.specs.Vertex.{vertex_of}
use Rattle.pattern.specs.Sides.{occ, either, among}
use Rattle.pattern.specs.Ring.{Contents, none, one, three, six, more, up, ring_list, contents_list, map_contents}
use Rattle.shape.specs.Sides.{tick}
use Rattle.pattern.specs.Spot.{Spot, spot, eq_spot, inside, all_spots}
use Rattle.pattern.specs.Step.{NumberedContents, view, vertices, OfCount, of_0, of_1, of_2, of_3, of_4, of_more}
use Rattle.pattern.proofs.Grow.{sized}
use Rattle.pattern.proofs.Link.{all}
use Rattle.pattern.proofs.Natural.{up-map, join}
use Rattle.pattern.proofs.Sort.{eq_spot→eq}

tick_one : (b : Bool) (n : ℕ) → T b → tick b n ≡ suc n
tick_one true n t = refl
tick_one false n t = absurd t

tick_le : (b : Bool) (n : ℕ) → n ≤ tick b n
tick_le true n = omega arith
tick_le false n = omega arith

module _ (f : Spot → ℕ) where
  pub occ_in : (q : Spot) (l : List Spot) → T (among eq_spot q l) → 1 ≤ occ (f q) (map f l)
  occ_in q [] t = absurd t
  occ_in q (s ∷ l) t = go (eq_spot q s) (eq_spot→eq q s) (occ_in q l) t
    where
      go : (b : Bool) → (T b → q ≡ s) → (T (among eq_spot q l) → 1 ≤ occ (f q) (map f l)) → T (either b (among eq_spot q l)) → 1 ≤ occ (f q) (map f (s ∷ l))
      go true e r u =
          let z : T (eqb (f q) (f s)) = subst (λ (x : Spot). T (eqb (f q) (f x))) (e tt) (eqb_refl (f q)) in
          let y = tick_one (eqb (f q) (f s)) (occ (f q) (map f l)) z in
          omega arith
      go false e r u = let y = r u in let z = tick_le (eqb (f q) (f s)) (occ (f q) (map f l)) in omega arith

  -- s has the vertex of q, which comes later: that vertex occurs twice
  twice : (s q : Spot) (l : List Spot) → ((x : ℕ) → occ x (map f (s ∷ l)) ≤ 1) → T (among eq_spot q l) → f s ≡ f q → ⊥
  twice s q l once i e =
      let a : 1 ≤ occ (f q) (map f l) = occ_in q l i in
      let z : T (eqb (f q) (f s)) = subst (λ (x : ℕ). T (eqb (f q) x)) (sym e) (eqb_refl (f q)) in
      let y = tick_one (eqb (f q) (f s)) (occ (f q) (map f l)) z in
      let o = once (f q) in
      omega arith

  pub distinct :
      (l : List Spot) → ((x : ℕ) → occ x (map f l) ≤ 1) → (p q : Spot) → T (among eq_spot p l) → T (among eq_spot q l) → f p ≡ f q → p ≡ q
  distinct [] once p q i j e = absurd i
  distinct (s ∷ l) once p q i j e =
      go (eq_spot p s) (eq_spot q s) (eq_spot→eq p s) (eq_spot→eq q s)
      (λ i' j'. distinct l (λ x. let o = once x in let z = tick_le (eqb x (f s)) (occ x (map f l)) in omega arith) p q i' j' e) i j
    where
      go :
          (a b : Bool) → (T a → p ≡ s) → (T b → q ≡ s) → (T (among eq_spot p l) → T (among eq_spot q l) → p ≡ q)
          → T (either a (among eq_spot p l)) → T (either b (among eq_spot q l)) → p ≡ q
      go true true x y r i' j' = x tt ∙ sym (y tt)
      go true false x y r i' j' = absurd (twice s q l once j' (ap f (sym (x tt)) ∙ e))
      go false true x y r i' j' = absurd (twice s p l once i' (ap f (sym (y tt)) ∙ sym e))
      go false false x y r i' j' = r i' j'

-- ---- the vertices of the contents, read ring by ring, are all of its vertices
module _ {Y : Type 0} where
  pub up_next : (i k : ℕ) (F : ℕ → List Y) → up (suc i) k F ≡ up i k (λ j. F (suc j))
  up_next i zero F = refl
  up_next i (suc k) F = ap (λ l. F (suc i) ++ l) (up_next (suc i) k F)

  up_from : (o i k : ℕ) (F : ℕ → List Y) → up i k (λ j. F (o + j)) ≡ up (o + i) k F
  up_from o i zero F = refl
  up_from o i (suc k) F =
      ap (λ l. F (o + i) ++ l) (up_from o (suc i) k F ∙ ap (λ j. up j k F) (add-suc o i))

  up-sum : (i k m : ℕ) (F : ℕ → Y) → up i (k + m) (λ j. F j ∷ []) ≡ up i k (λ j. F j ∷ []) ++ up (i + k) m (λ j. F j ∷ [])
  up-sum i zero m F = ap₂ (λ a b. up a b (λ j. F j ∷ [])) (sym (add-zero i)) (zero-add m)
  up-sum i (suc k) m F =
      ap (λ j. up i j (λ j. F j ∷ [])) (suc-add k m)
      ∙ ap (λ l. F i ∷ l) (up-sum (suc i) k m F ∙ ap (λ j. up (suc i) k (λ j. F j ∷ []) ++ up j m (λ j. F j ∷ [])) (suc-add i k ∙ sym (add-suc i k)))

pub read_all : (l : List ℕ) → up 0 (length l) (λ i. get_or l i 0 ∷ []) ≡ l
read_all [] = refl
read_all (x ∷ l) = ap (λ m. x ∷ m) (up_next 0 (length l) (λ i. get_or (x ∷ l) i 0 ∷ []) ∙ read_all l)

three_runs :
    (L : ℕ) (l : List ℕ) → length l ≡ L + L + L
    → up 0 L (λ i. get_or l i 0 ∷ []) ++ (up 0 L (λ i. get_or l (L + i) 0 ∷ []) ++ up 0 L (λ i. get_or l (L + L + i) 0 ∷ [])) ≡ l
three_runs L l e =
    let F : ℕ → ℕ = λ i. get_or l i 0 in
    let G : ℕ → List ℕ = λ i. F i ∷ [] in
    ap₂ (λ x y. up 0 L G ++ (x ++ y))
    (up_from L 0 L G ∙ ap (λ j. up j L G) (add-zero L ∙ sym (zero-add L)))
    (up_from (L + L) 0 L G ∙ ap (λ j. up j L G) (let z : L + L + 0 ≡ 0 + L + L = omega arith in z))
    ∙ ap (λ x. up 0 L G ++ x) (sym (up-sum (0 + L) L L F))
    ∙ sym (up-sum 0 L (L + L) F) ∙ ap (λ j. up 0 j G) (let z : L + (L + L) ≡ length l = omega arith in z) ∙ read_all l

pub view_list : (n : ℕ) (g : NumberedContents) → OfCount n g → contents_list (view g) ≡ vertices g
view_list n g of_0 = refl
view_list n g of_1 = refl
view_list n g of_2 = refl
view_list n g of_3 = refl
view_list n g of_4 = refl
view_list n g (of_more {k = k} {a = a} {b = b} {c = c} {sides = sides} {t = t} e r) =
    ap₂ (λ x y. a ∷ b ∷ c ∷ (x ++ y)) (three_runs (suc (suc k)) sides e) (view_list (suc (suc k)) t r)

-- ---- lists of renamed names
module _ {X Y : Type 0} (f : X → Y) where
  pub ring_list-map :
      (m : ℕ) (a b c : X) (ab bc ca : ℕ → X)
      → ring_list m (f a) (f b) (f c) (λ i. f (ab i)) (λ i. f (bc i)) (λ i. f (ca i)) ≡ map f (ring_list m a b c ab bc ca)
  ring_list-map m a b c ab bc ca =
      let u : (ℕ → X) → List X = λ s. up 0 m (λ i. s i ∷ []) in
      let v : (ℕ → X) → List Y = λ s. up 0 m (λ i. f (s i) ∷ []) in
      let w : (s : ℕ → X) → v s ≡ map f (u s) = λ s. up-map f 0 m (λ i. s i ∷ []) in
      ap (λ l. f a ∷ f b ∷ f c ∷ l)
      (join f (u ab) (u bc ++ u ca) (v ab) (v bc ++ v ca) (w ab) (join f (u bc) (u ca) (v bc) (v ca) (w bc) (w ca)))

  pub contents_list-map : (s : Contents X) → contents_list (map_contents f s) ≡ map f (contents_list s)
  contents_list-map none = refl
  contents_list-map (one x) = refl
  contents_list-map (three a b c) = refl
  contents_list-map (six a b c ab bc ca) = refl
  contents_list-map (more a b c L ab bc ca s) =
      join f (ring_list L a b c ab bc ca) (contents_list s)
      (ring_list L (f a) (f b) (f c) (λ i. f (ab i)) (λ i. f (bc i)) (λ i. f (ca i))) (contents_list (map_contents f s))
      (ring_list-map L a b c ab bc ca) (contents_list-map s)

module _ (n a b c : ℕ) (ab bc ca : ℕ → ℕ) (g : NumberedContents) (r : OfCount n g) where
  vertex : Spot → ℕ
  vertex = vertex_of a b c ab bc ca (view g)

  all_vertices : map (vertex_of a b c ab bc ca (view g)) (all_spots n) ≡ ring_list n a b c ab bc ca ++ vertices g
  all_vertices =
      let f : Spot → ℕ = vertex_of a b c ab bc ca (view g) in
      sym (join f
      (ring_list n (spot 0 0 0) (spot 0 1 0) (spot 0 2 0) (λ i. spot 0 0 (suc i)) (λ i. spot 0 1 (suc i)) (λ i. spot 0 2 (suc i)))
      (contents_list (inside 1 n))
      (ring_list n a b c ab bc ca) (vertices g)
      (ring_list-map f n (spot 0 0 0) (spot 0 1 0) (spot 0 2 0) (λ i. spot 0 0 (suc i)) (λ i. spot 0 1 (suc i)) (λ i. spot 0 2 (suc i)))
      (sym (view_list n g r) ∙ ap contents_list (sym (all n a b c ab bc ca (view g) (sized n g r))) ∙ contents_list-map f (inside 1 n)))

  pub inner_vertices : map (vertex_of a b c ab bc ca (view g)) (contents_list (inside 1 n)) ≡ vertices g
  inner_vertices =
      let f : Spot → ℕ = vertex_of a b c ab bc ca (view g) in
      sym (contents_list-map f (inside 1 n)) ∙ ap contents_list (all n a b c ab bc ca (view g) (sized n g r)) ∙ view_list n g r

  -- no vertex twice: the spots have different vertices
  pub triangle_apart : ((x : ℕ) → occ x (ring_list n a b c ab bc ca ++ vertices g) ≤ 1) → Apart n (vertex_of a b c ab bc ca (view g))
  triangle_apart once p q i j e =
      distinct (vertex_of a b c ab bc ca (view g)) (all_spots n)
      (λ x. subst (λ (l : List ℕ). occ x l ≤ 1) (sym all_vertices) (once x)) p q i j e
