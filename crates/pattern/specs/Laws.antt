-- What holds of the faces and the strips of one triangle at count n, over its spots, and of one step of its contents.
use Rattle.std.specs.Prelude.{◌≡◌, [], ◌∷◌, ℕ, suc, ◌+◌, ◌≤◌, ◌<◌, T}
use Rattle.pattern.specs.Sides.{count, joins, among, occ, path_sides}
use Rattle.pattern.specs.Spot.{Spot, eq_spot, spot_sides, border_sides, shown_sides, closing_sides, closed_side}
use Rattle.pattern.specs.Step.{NumberedContents, None, Six, More, step, taken, vertices, range, OfCount}

pub record FaceLaw (n : ℕ) (p q : Spot) : Type 0 where
  -- each directed side occurs at most once
  pub once : count eq_spot p q (spot_sides n) ≤ 1
  -- the reverse of a side occurs unless the side is one of the outer border, and then it does not
  pub inner : 1 ≤ count eq_spot p q (spot_sides n) → count eq_spot p q (border_sides n) ≡ 0 → count eq_spot q p (spot_sides n) ≡ 1
  pub outer : 1 ≤ count eq_spot p q (border_sides n) → (count eq_spot p q (spot_sides n) ≡ 1) × (count eq_spot q p (spot_sides n) ≡ 0)
  -- two spots of one closed side of the border that a face joins are successive on it
  pub border :
      (k : ℕ) → k < 3 → T (among eq_spot p (closed_side n k)) → T (among eq_spot q (closed_side n k)) → 1 ≤ count eq_spot p q (spot_sides n)
      → 1 ≤ joins eq_spot p q (path_sides (closed_side n k))

pub record StripsLaw (n : ℕ) (p q : Spot) : Type 0 where
  -- a face side inside the border is shown once, or twice where it is a closing side
  pub within :
      1 ≤ joins eq_spot p q (spot_sides n) → joins eq_spot p q (border_sides n) ≡ 0 → joins eq_spot p q (closing_sides n) ≡ 0 → joins eq_spot p q (shown_sides n) ≡ 1
  pub closing : 1 ≤ joins eq_spot p q (closing_sides n) → joins eq_spot p q (shown_sides n) ≡ 2
  -- no side of the border, and nothing that is no face side, is shown
  pub on_border : 1 ≤ joins eq_spot p q (border_sides n) → joins eq_spot p q (shown_sides n) ≡ 0
  pub no_other : joins eq_spot p q (spot_sides n) ≡ 0 → joins eq_spot p q (shown_sides n) ≡ 0

abbrev pub SpotsSound : Type 0
SpotsSound = (n : ℕ) → n ≤ 12 → (p q : Spot) → FaceLaw n p q × StripsLaw n p q

-- one step: from the contents of a count to those of the next; every vertex stays, and the next free numbers come, each once
pub record StepLaw (h n : ℕ) (g : NumberedContents) : Type 0 where
  pub next_count : OfCount (suc n) (step h g)
  pub vertex : (x : ℕ) → occ x (vertices (step h g)) ≡ occ x (vertices g) + occ x (range h (taken g))

-- Six becomes More, with its three inner ones as sides of one each around nothing, and goes on as More in the same step
abbrev pub SixGoesOn : Type 0
SixGoesOn =
    (h a b c ab bc ca : ℕ)
    → (step h (Six a b c ab bc ca) ≡ step h (More a b c 1 (ab ∷ bc ∷ ca ∷ []) None))
    × (taken (Six a b c ab bc ca) ≡ taken (More a b c 1 (ab ∷ bc ∷ ca ∷ []) None))

abbrev pub StepsSound : Type 0
StepsSound = ((h n : ℕ) (g : NumberedContents) → 1 ≤ n → OfCount n g → StepLaw h n g) × SixGoesOn
