-- Positions of a list, and what is said of its elements.
use Rattle.std.specs.Prelude.{◌≡◌, ℕ, ◌<◌, ◌≤◌, ◌⊎◌, List, [], ◌∷◌, length, Some, None, Option, slice_index_or}

module _ {X : Type 0} where
  -- r is what stands at position i, and none beyond the list
  abbrev pub At : List X → ℕ → Option X → Type 0
  At l i None = length l ≤ i
  At l i (Some x) = (i < length l) × (slice_index_or l i x ≡ x)

  abbrev pub In : X → List X → Type 0
  In x [] = ⊥
  In x (y ∷ l) = (x ≡ y) ⊎ In x l

  -- P of each
  abbrev pub Each : (X → Type 0) → List X → Type 0
  Each P [] = Unit {0}
  Each P (x ∷ l) = P x × Each P l

  -- R of each and each later one
  abbrev pub Pairs : (X → X → Type 0) → List X → Type 0
  Pairs R [] = Unit {0}
  Pairs R (x ∷ l) = Each (R x) l × Pairs R l
