-- How many faces one triangle has at count n, and how many numbers and breaks its strips take.
use Rattle.std.specs.Prelude.{List, [], ◌∷◌, ◌≡◌, ℕ, ◌+◌, ◌-◌, ◌*◌, ◌/◌, ◌≤◌, length}
use Rattle.pattern.specs.Place.{Patch, patch_faces, patch_strips}
use Rattle.pattern.specs.Step.{OfCount}

-- all the lists' lengths together
abbrev pub lengths : {X : Type 0} → List (List X) → ℕ
lengths [] = 0
lengths (l ∷ ls) = length l + lengths ls

abbrev pub triangle_face_count : ℕ → ℕ
triangle_face_count n = (n + 1) * (n + 1)

-- three for each of the 1 + 2 + .. + n upright faces, one for each closing side, and one for each strip that is not empty
abbrev pub triangle_line_numbers : ℕ → ℕ
triangle_line_numbers n = 3 * (n * (n + 1) / 2) + n / 3 + (n + 2) / 3

-- one for each ring: of the triangle itself, and of its contents' rings that are drawn
abbrev pub triangle_line_breaks : ℕ → ℕ
triangle_line_breaks n = 1 + (n - 1) / 3

pub record Amounts (n : ℕ) (E : ℕ → List ℕ) (t : Patch) : Type 0 where
  pub faces : length (patch_faces n E t) ≡ triangle_face_count n
  pub numbers : lengths (patch_strips n E t) ≡ triangle_line_numbers n
  pub breaks : length (patch_strips n E t) ≡ triangle_line_breaks n

abbrev pub AmountsStand : Type 0
AmountsStand = (n : ℕ) → n ≤ 12 → (E : ℕ → List ℕ) (t : Patch) → OfCount n t.inner → Amounts n E t
