-- A spot is a corner, lies on the border, or lies in the contents; and what its vertex is then.
use mathlib.Core.Path.{◌≡◌, refl, sym, ◌∙◌, ap, subst}
use mathlib.Core.List.{List, [], ◌∷◌}
use mathlib.Core.Bool.{Bool, true, false}
use Prim.Native.Nat.{ℕ, zero, suc, ◌≤◌, ◌<◌}
use native.Mathlib.Omega.{arith}
use lib.Dec.{T, eqb, leb, eqb→eq, leb→le}
use Rattle.pattern.specs.Place.{Patch, turned, reading, patch_vertex}
use Rattle.pattern.specs.Ring.{pick, contents_list}
use Rattle.pattern.specs.Sides.{occ, either, among}
use Rattle.shape.specs.Sides.{both}
use Rattle.pattern.specs.Spot.{Spot, spot, eq_spot, inside, all_spots, is_spot}
use Rattle.pattern.specs.Step.{vertices, OfCount}
use Rattle.pattern.proofs.Count.{every, both_left, both_right}
use Rattle.pattern.proofs.Fresh.{occ_in, inner_vertices}
use Rattle.pattern.proofs.Sort.{eq_spot→eq}
use Rattle.pattern.proofs.Computed.{split}
use Rattle.pattern.proofs.Spots.{s_splits}

every_among : (f : Spot → Bool) (l : List Spot) → T (every f l) → (p : Spot) → T (among eq_spot p l) → T (f p)
every_among f [] t p i = absurd i
every_among f (s ∷ l) t p i = go (eq_spot p s) (eq_spot→eq p s) (every_among f l (both_right (f s) (every f l) t) p) i
  where
    go : (b : Bool) → (T b → p ≡ s) → (T (among eq_spot p l) → T (f p)) → T (either b (among eq_spot p l)) → T (f p)
    go true e r j = subst (λ (x : Spot). T (f x)) (sym (e tt)) (both_left (f s) (every f l) t)
    go false e r j = r j

-- what a spot is
pub data Kind (n : ℕ) (p : Spot) : Type 0 where
  a_corner : (s : ℕ) → s < 3 → p ≡ spot 0 s 0 → Kind n p
  a_border : (s i : ℕ) → s < 3 → i < n → p ≡ spot 0 s (suc i) → Kind n p
  within : T (among eq_spot p (contents_list (inside 1 n))) → Kind n p

on_border : (n d s i : ℕ) → d ≡ 0 → s ≤ 2 → i ≤ n → Kind n (d, s, i)
on_border n d s zero e a b = a_corner s (omega arith) (λ k. (e k, s, 0))
on_border n d s (suc i) e a b = a_border s i (omega arith) b (λ k. (e k, s, suc i))

kind_of : (n : ℕ) (p : Spot) (b : Bool) → (T b → Kind n p) → T (either b (among eq_spot p (contents_list (inside 1 n)))) → Kind n p
kind_of n p true f t = f tt
kind_of n p false f t = within t

pub kind : (n : ℕ) → n ≤ 12 → (p : Spot) → T (is_spot n p) → Kind n p
kind n h p i =
    kind_of n p (both (eqb p.0 0) (both (leb p.1 2) (leb p.2 n)))
    (λ t. let u : T (both (leb p.1 2) (leb p.2 n)) = both_right (eqb p.0 0) (both (leb p.1 2) (leb p.2 n)) t in
    on_border n p.0 p.1 p.2 (eqb→eq p.0 0 (both_left (eqb p.0 0) (both (leb p.1 2) (leb p.2 n)) t))
    (leb→le p.1 2 (both_left (leb p.1 2) (leb p.2 n) u)) (leb→le p.2 n (both_right (leb p.1 2) (leb p.2 n) u)))
    (every_among (split n) (all_spots n) (s_splits n h) p i)

pick_at : (F : ℕ → ℕ) (s : ℕ) → s < 3 → pick s (F 0) (F 1) (F 2) ≡ F s
pick_at F zero a = refl
pick_at F (suc zero) a = refl
pick_at F (suc (suc zero)) a = refl
pick_at F (suc (suc (suc s))) a = absurd (let z : ⊥ = omega arith in z)

pub turned_in : (n : ℕ) (b : Bool) (i : ℕ) → i < n → turned n b i < n
turned_in n true i h = h
turned_in n false i h = omega arith

module _ (n : ℕ) (h : n ≤ 12) (E : ℕ → List ℕ) (t : Patch) (r : OfCount n t.inner) where
  pub vertex_corner : (p : Spot) (s : ℕ) → s < 3 → p ≡ spot 0 s 0 → patch_vertex n E t p ≡ t.tri.corner s
  vertex_corner p s a e = ap (patch_vertex n E t) e ∙ pick_at t.tri.corner s a

  pub vertex_border : (p : Spot) (s i : ℕ) → s < 3 → p ≡ spot 0 s (suc i) → patch_vertex n E t p ≡ reading n E t s i
  vertex_border p s i a e = ap (patch_vertex n E t) e ∙ pick_at (λ k. reading n E t k i) s a

  pub vertex_within : (p : Spot) → T (among eq_spot p (contents_list (inside 1 n))) → 1 ≤ occ (patch_vertex n E t p) (vertices t.inner)
  vertex_within p i =
      subst (λ (l : List ℕ). 1 ≤ occ (patch_vertex n E t p) l)
      (inner_vertices n (t.tri.corner 0) (t.tri.corner 1) (t.tri.corner 2) (reading n E t 0) (reading n E t 1) (reading n E t 2) t.inner r)
      (occ_in (patch_vertex n E t) p (contents_list (inside 1 n)) i)
