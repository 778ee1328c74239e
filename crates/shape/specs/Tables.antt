-- The points and triangles of the triangle base and of the square base.
use Rattle.std.specs.Prelude.{ℕ, List, [], ◌∷◌}
use Rattle.point.specs.declared.Vec3A.{Vec3A}
use Rattle.point.specs.Points.{point, nought, minus_half, half_root, minus_half_root, one, minus_one}
use Rattle.shape.specs.declared.triangle.Triangle.{Triangle}

abbrev pub triangle : ℕ → ℕ → ℕ → ℕ → ℕ → ℕ → Triangle
triangle a b c ab bc ca = record { a = a; b = b; c = c; ab = ab; bc = bc; ca = ca }

-- in the plane of x and z, on a circle of radius 1
abbrev pub triangle_points : List Vec3A
triangle_points = point minus_half_root nought minus_half ∷ point half_root nought minus_half ∷ point nought nought one ∷ []

abbrev pub triangle_triangles : List Triangle
triangle_triangles = triangle 2 1 0 0 1 2 ∷ []

-- in the plane of x and z, with sides of length 2
abbrev pub square_points : List Vec3A
square_points = point one nought one ∷ point one nought minus_one ∷ point minus_one nought minus_one ∷ point minus_one nought one ∷ []

abbrev pub square_triangles : List Triangle
square_triangles = triangle 0 1 2 1 2 0 ∷ triangle 0 2 3 0 3 4 ∷ []
