-- Lists that are known position by position.
use Rattle.std.proofs.Common.{◌≡◌, ℕ, suc, ◌<◌, List, [], ◌∷◌, map, length, get_or, sym, ◌∙◌, arith}
use Rattle.std.proofs.lemmas.List.{ext_get_or, get_or-map, length-map}
use Rattle.shape.specs.Lists.{Each}

module _ {X Y : Type 0} (f : X → Y) (d : X) where
  pub map_is : (xs : List X) (ys : List Y) (e : Y) → length ys ≡ length xs → ((i : ℕ) → i < length xs → f (get_or xs i d) ≡ get_or ys i e) → map f xs ≡ ys
  map_is xs ys e l h =
      let many : length (map f xs) ≡ length xs = length-map xs f in
      ext_get_or e (map f xs) ys (many ∙ sym l) (λ i p. let q : i < length xs = omega arith in get_or-map f xs i d e q ∙ h i q)

  pub each_is : (P : Y → Type 0) (xs : List X) → ((i : ℕ) → i < length xs → P (f (get_or xs i d))) → Each P (map f xs)
  each_is P [] h = tt
  each_is P (x ∷ xs) h = (h 0 (omega arith), each_is P xs (λ i p. h (suc i) (omega arith)))
