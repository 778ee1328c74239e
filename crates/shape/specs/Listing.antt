-- Interpolation along a list of vertices.
use Rattle.std.specs.Prelude.{◌≡◌, ℕ, suc, ◌+◌, ◌<◌, Bool, cond, ◌&&◌, List, [], ◌∷◌, length, pos, Ok, Err, Result, ◌≢◌, nat_le, nat_lt, slice_index, slice_index_or, slice_set, Float}
use Rattle.std.specs.List.{list_all}
use Rattle.std.specs.Float.{binary32}
use Rattle.std.specs.Float.Ieee.{of_int, div}
use Rattle.point.specs.declared.Vec3A.{Vec3A}
use Rattle.refusal.specs.declared.Refusal.{Refusal}
use Rattle.refusal.specs.declared.Refusal.TheVariants.{InvalidListing}

-- the fraction (i + 1) / (n + 1), both made f32 and divided once
abbrev pub share : ℕ → ℕ → Float
share i n = div binary32 (of_int binary32 (pos (i + 1))) (of_int binary32 (pos (n + 1)))

abbrev pub all_below : List ℕ → ℕ → Bool
all_below xs n = list_all (λ x. nat_lt x n) xs

-- at most 3,360 vertices are listed, each one of the n points
abbrev pub listable : List ℕ → ℕ → Bool
listable xs n = nat_le (length xs) 3360 && all_below xs n

module _ {X : Type 0} where
  -- g i at the first listed place, g (i + 1) at the next, and so on, in turn
  abbrev pub placed : (ℕ → X) → ℕ → List ℕ → List X → List X
  placed g i [] l = l
  placed g i (x ∷ xs) l = placed g (suc i) xs (slice_set l x (g i))

  -- what `placed g 0 xs old` is: each listed place holds what its last listing gives it, and every other place what it held
  pub record Listed (g : ℕ → X) (xs : List ℕ) (old new : List X) : Type 0 where
    pub same_length : length new ≡ length old
    pub last_stands :
        (i : ℕ) (d : X) → i < length xs → ((j : ℕ) → i < j → j < length xs → slice_index xs j ≢ slice_index xs i) → slice_index xs i < length old
        → slice_index_or new (slice_index xs i) d ≡ g i
    pub others_left : (k : ℕ) (d : X) → ((i : ℕ) → i < length xs → slice_index xs i ≢ k) → slice_index_or new k d ≡ slice_index_or old k d

-- the points, place by place of the list, that f gives at 1 / (n + 1), 2 / (n + 1), .., n / (n + 1)
abbrev pub along : (Float → Vec3A) → List ℕ → List Vec3A → List Vec3A
along f xs old = placed (λ i. f (share i (length xs))) 0 xs old

-- `interpolate_multiple`: the points afterwards, and the answer; a refusal leaves the points
abbrev pub Interpolates : (Float → Vec3A) → List ℕ → List Vec3A → Result (Unit {0}) Refusal → List Vec3A → Type 0
Interpolates f xs old r new =
    (r ≡ cond (listable xs (length old)) (Ok tt) (Err (InvalidListing (length xs) (length old)))) ×
    (new ≡ cond (listable xs (length old)) (along f xs old) old)

abbrev pub LastListingStands : Type 0
LastListingStands = (f : Float → Vec3A) (xs : List ℕ) (old : List Vec3A) → Listed (λ i. f (share i (length xs))) xs old (along f xs old)
