-- What filling a data slice answers, and what it makes of the slice and the generator.
use Rattle.std.specs.Prelude.{◌≡◌, List, length, Result}
use Rattle.refusal.specs.declared.Refusal.{Refusal}
use Rattle.mesh.specs.Calls.{answered_or, fill, refusal}
use Rattle.mesh.specs.Numbering.{Numbering}
use Rattle.point.specs.Points.{nought, point}
use Rattle.point.specs.declared.Vec3A.{Vec3A}
use Rattle.points.specs.Filling.{filled_mesh, Generator}
use Rattle.shape.specs.declared.triangle.Triangle.{Triangle}

-- the answer, and slice and generator afterwards, of a mesh over the triangles ts, of the numbering N and with the points F
pub record FillsData {State Data : Type 0} (generate : Generator Vec3A Data State) (ts : List Triangle) (N : Numbering) (F : List Vec3A)
    (s : State) (l : List Data) (r : Result (Unit {0}) Refusal) (s' : State) (l' : List Data) : Type 0 where
  pub answers : r ≡ answered_or (refusal ts N (fill (length l))) tt
  pub filled : (l', s') ≡ filled_mesh generate (point nought nought nought) ts N F s l
