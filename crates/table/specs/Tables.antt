-- What a table holds, in the words of the mesh.
use Rattle.std.specs.Prelude.{◌≡◌, ℕ, List, length, vec_items, Float}
use Rattle.growing.specs.Standing as standing
use Rattle.mesh.specs.Numbering.{Numbering}
use Rattle.pattern.specs.Place.{Patch}
use Rattle.point.specs.declared.Vec3A.{Vec3A}
use Rattle.points.specs.Calculating.{Meaning}
use Rattle.shape.specs.declared.triangle.Triangle.{Triangle}
use Rattle.table.specs.declared.table.Table.{Table}
use Rattle.table.specs.Views as views

abbrev pub triangles : Table → List Triangle
triangles t = vec_items t.triangles

abbrev pub numbering : Table → Numbering
numbering t = standing.numbering t.n t.total (vec_items t.edges) (vec_items t.contents) (vec_items t.rings)

abbrev pub patch_at : Table → ℕ → Patch
patch_at t i = views.patch_at (vec_items t.triangles) (vec_items t.forward) (vec_items t.contents) (vec_items t.rings) i

-- the base of a table with two rules
abbrev pub meaning : Table → (Vec3A → Vec3A → Float → Vec3A) → (Vec3A → Vec3A → Vec3A) → Meaning Vec3A Float
meaning t between half =
    record { points = vec_items t.points; triangles = vec_items t.triangles; edges = length (vec_items t.edges); between = between; half = half }

-- the base's lists are the same, and there are as many edges
pub record SameBase (old new : Table) : Type 0 where
  pub points : new.points ≡ old.points
  pub triangles : new.triangles ≡ old.triangles
  pub edges : length (vec_items new.edges) ≡ length (vec_items old.edges)
