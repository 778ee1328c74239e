-- Interpolation along a list of vertices, place by place.
use Rattle.std.proofs.Common.{◌≡◌, ℕ, zero, suc, ◌+◌, ◌<◌, ◌≢◌, List, [], ◌∷◌, length, get_or, set, sym, refl, ap, ◌∙◌, arith, length-set, get_or-set_other, get_or-set_same}
use Rattle.shape.specs.Listing.{placed, Listed}

module _ {X : Type 0} (g : ℕ → X) where
  placed-length : (xs : List ℕ) (i : ℕ) (l : List X) → length (placed g i xs l) ≡ length l
  placed-length [] i l = refl
  placed-length (x ∷ xs) i l = placed-length xs (suc i) (set l x (g i)) ∙ length-set l x (g i)

  placed_other :
      (xs : List ℕ) (i : ℕ) (l : List X) (k : ℕ) (d : X) → ((j : ℕ) → j < length xs → get_or xs j 0 ≡ k → ⊥)
      → get_or (placed g i xs l) k d ≡ get_or l k d
  placed_other [] i l k d f = refl
  placed_other (x ∷ xs) i l k d f =
      placed_other xs (suc i) (set l x (g i)) k d (λ j h e. f (suc j) (omega arith) e)
      ∙ (let ne : k ≢ x = λ e. f 0 (omega arith) (sym e) in get_or-set_other l x k (g i) d ne)

  placed_last :
      (xs : List ℕ) (i : ℕ) (l : List X) (j : ℕ) (d : X) → j < length xs
      → ((k : ℕ) → j < k → k < length xs → get_or xs k 0 ≡ get_or xs j 0 → ⊥) → get_or xs j 0 < length l
      → get_or (placed g i xs l) (get_or xs j 0) d ≡ g (i + j)
  placed_last [] i l j d h f b = absurd (omega arith)
  placed_last (x ∷ xs) i l zero d h f b =
      placed_other xs (suc i) (set l x (g i)) x d (λ k m e. f (suc k) (omega arith) (omega arith) e)
      ∙ get_or-set_same l x (g i) d b ∙ ap g (let z : i ≡ i + 0 = omega arith in z)
  placed_last (x ∷ xs) i l (suc j) d h f b =
      let e : length (set l x (g i)) ≡ length l = length-set l x (g i) in
      placed_last xs (suc i) (set l x (g i)) j d (omega arith) (λ k m n e. f (suc k) (omega arith) (omega arith) e) (omega arith)
      ∙ ap g (let z : suc i + j ≡ i + suc j = omega arith in z)

  pub placed_listed : (xs : List ℕ) (l : List X) → Listed g xs l (placed g 0 xs l)
  placed_listed xs l =
      record {
        same_length = placed-length xs 0 l;
        last_stands = λ i d h f b. placed_last xs 0 l i d h f b ∙ ap g (let z : 0 + i ≡ i = omega arith in z);
        others_left = λ k d f. placed_other xs 0 l k d f;
      }
