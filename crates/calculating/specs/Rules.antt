-- What writes leave of the points, where the rules are those of a base.
use Rattle.std.specs.Prelude.{List, [], Float}
use Rattle.std.specs.Float.{nan}
use Rattle.point.specs.declared.Vec3A.{Vec3A}
use Rattle.point.specs.Points.{point}
use Rattle.points.specs.Calculating.{Meaning, Write, run}
use Rattle.shape.specs.Listing.{share}

-- what is read where a list has no such place
abbrev pub no_point : Vec3A
no_point = point nan nan nan

-- a base by its two rules alone
abbrev pub rules : (Vec3A → Vec3A → Float → Vec3A) → (Vec3A → Vec3A → Vec3A) → Meaning Vec3A Float
rules between half = record { points = []; triangles = []; edges = 0; between = between; half = half }

-- the points after the writes, in their order
abbrev pub wrote : (Vec3A → Vec3A → Float → Vec3A) → (Vec3A → Vec3A → Vec3A) → List (Write Vec3A) → List Vec3A → List Vec3A
wrote between half ws old = run share no_point (rules between half) ws old
