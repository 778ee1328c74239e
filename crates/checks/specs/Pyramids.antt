-- A pyramid over a square, as a base.
use Rattle.std.specs.Prelude.{List, [], ◌∷◌, Float}
use Rattle.std.specs.Float.Ieee.{neg}
use Rattle.point.specs.declared.Vec3A.{Vec3A}
use Rattle.point.specs.Points.{point, nought, one}
use Rattle.shape.specs.declared.triangle.Triangle.{Triangle}
use Rattle.shape.specs.Tables.{triangle}

abbrev pub pyramid_points : Float → List Vec3A
pyramid_points height =
    point one nought one ∷ point one nought (neg one) ∷ point (neg one) nought (neg one) ∷ point (neg one) nought one ∷ point nought height nought ∷ []

abbrev pub pyramid_triangles : List Triangle
pyramid_triangles = triangle 0 1 4 0 5 4 ∷ triangle 1 2 4 1 6 5 ∷ triangle 2 3 4 2 7 6 ∷ triangle 3 0 4 3 4 7 ∷ []
