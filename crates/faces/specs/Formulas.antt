-- The sides around a ring, and the faces at the ends of its edges.
use Rattle.std.specs.Prelude.{ℕ, suc, List, [], ◌∷◌}
use Rattle.pattern.specs.Ring.{Face, Ring, turns}
use Rattle.rings.specs.declared.contents.Side.{Side}
use Rattle.rings.specs.declared.contents.Side.TheVariants.{Ab, Bc, Ca}

-- the side that ends where side s starts
abbrev pub previous_side : Side → Side
previous_side Ab = Ca
previous_side Bc = Ab
previous_side Ca = Bc

-- the end of each edge, where the last position is k + 1
abbrev pub ends_after : ℕ → Ring ℕ → List (Face ℕ)
ends_after k r = turns (λ t. (t.ab (suc k), t.AB k, t.ab k) ∷ []) r
