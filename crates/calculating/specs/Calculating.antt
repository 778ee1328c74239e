-- What a calculation makes of its points.
use Rattle.std.specs.Prelude.{◌≡◌, ℕ, ◌<◌, List, length, map, Float}
use Rattle.point.specs.declared.Vec3A.{Vec3A}
use Rattle.points.specs.Calculating.{Write, middle}
use Rattle.calculating.specs.declared.calculation.Calculation.{Calculation}
use Rattle.calculating.specs.Rules.{wrote}

-- all three are places of n points
abbrev pub Within : ℕ → ℕ × ℕ × ℕ → Type 0
Within n m = (m.0 < n) × (m.1 < n) × (m.2 < n)

-- at each first vertex the half of what the other two hold
abbrev pub middle_writes : List (ℕ × ℕ × ℕ) → List (Write Vec3A)
middle_writes ms = map (λ m. middle m.0 m.1 m.2) ms

-- the writes ws were made by the rules of the base, between and half, into the same points, which stay as many
pub record Makes {S : Type 0} (between : S → Vec3A → Vec3A → Float → Vec3A) (half : S → Vec3A → Vec3A → Vec3A) (ws : List (Write Vec3A)) (old new : Calculation S) : Type 0 where
  pub points_are : new.points.now ≡ wrote (between old.base.now) (half old.base.now) ws old.points.now
  pub as_many : length new.points.now ≡ length old.points.now
  pub same_base : new.base ≡ old.base
  pub same_points : new.points.ghost_name ≡ old.points.ghost_name
