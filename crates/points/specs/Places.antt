-- The point of each place of a mesh, from its base and its count alone, and that calculating leaves it there.
use Rattle.std.specs.Prelude.{◌≡◌, ℕ, zero, suc, ◌<◌, ◌≤◌, T, List, length, ◌==◌}
use Rattle.pattern.specs.Place.{BySide, Patch, patch_vertex, turned}
use Rattle.pattern.specs.Ring.{Contents, none, one, three, six, more}
use Rattle.pattern.specs.Spot.{Spot, is_spot}
use Rattle.pattern.specs.Vertex.{vertex_of}
use Rattle.shape.specs.Questions.{Accepted}
use Rattle.shape.specs.Lists.{In, Each}
use Rattle.shape.specs.Sides.{Use, uses}
use Rattle.shape.specs.declared.triangle.Triangle.{Triangle}
use Rattle.mesh.specs.Numbering.{Numbering, Reached, edge_of}
use Rattle.mesh.specs.Faces.{first_use, patches}
use Rattle.points.specs.Calculating.{Meaning, at, calculated}

-- x is the vertex of a spot of a triangle (a spot names a place in a triangle)
pub record AtSpot (ts : List Triangle) (N : Numbering) (x : ℕ) : Type 0 where
  pub t : Patch
  pub there : In t (patches ts N)
  pub p : Spot
  pub its : T (is_spot N.n p)
  pub is : patch_vertex N.n (edge_of N) t p ≡ x

-- the point of corner x
abbrev pub corner_point : {Point Frac : Type 0} → Point → Meaning Point Frac → ℕ → Point
corner_point blank M x = at blank M.points x

module _ {Point Frac : Type 0} (share : ℕ → ℕ → Frac) (blank : Point) (M : Meaning Point Frac) where
  -- at count n, point i of edge e, from the first corner of its first use to the second
  abbrev pub edge_point : ℕ → ℕ → ℕ → Point
  edge_point n e i =
      let u : Use = first_use e (uses M.triangles) in
      M.between (corner_point blank M u.start) (corner_point blank M u.stop) (share i n)

  -- what lies within edges of n points
  abbrev pub filled : ℕ → (ab bc ca : ℕ → Point) → Contents Point
  filled zero ab bc ca = none
  filled (suc zero) ab bc ca = none
  filled (suc (suc zero)) ab bc ca = one (M.half (ab 0) (bc 1))
  filled (suc (suc (suc zero))) ab bc ca = three (M.half (ab 1) (ca 1)) (M.half (bc 1) (ab 1)) (M.half (ca 1) (bc 1))
  filled (suc (suc (suc (suc zero)))) ab bc ca =
      let a : Point = M.half (ab 1) (ca 2) in
      let b : Point = M.half (ab 2) (bc 1) in
      let c : Point = M.half (bc 2) (ca 1) in
      six a b c (M.half a b) (M.half b c) (M.half c a)
  filled (suc (suc (suc (suc (suc k))))) ab bc ca =
      let a : Point = M.half (ab 1) (ca (suc (suc (suc k)))) in
      let b : Point = M.half (ab (suc (suc (suc k)))) (bc 1) in
      let c : Point = M.half (bc (suc (suc (suc k)))) (ca 1) in
      let side : Point → Point → ℕ → Point = λ p q i. M.between p q (share i (suc (suc k))) in
      more a b c (suc (suc k)) (side a b) (side b c) (side c a) (filled (suc (suc k)) (side a b) (side b c) (side c a))

  -- point i of side k of triangle t, as t reads it: forward where t walks the edge as its first use does, else backward
  abbrev pub side_point : ℕ → BySide → ℕ → ℕ → Point
  side_point n t k i =
      edge_point n (t.edge k) (turned n ((first_use (t.edge k) (uses M.triangles)).start == t.corner k) i)

  abbrev pub contents_points : ℕ → BySide → Contents Point
  contents_points n t = filled n (side_point n t 0) (side_point n t 1) (side_point n t 2)

  -- the point of each spot of triangle t at count n
  abbrev pub point_at : ℕ → BySide → Spot → Point
  point_at n t =
      vertex_of (corner_point blank M (t.corner 0)) (corner_point blank M (t.corner 1)) (corner_point blank M (t.corner 2))
      (side_point n t 0) (side_point n t 1) (side_point n t 2) (contents_points n t)

  -- in the buffer f, the vertex of each spot of a triangle has the spot's point
  abbrev pub PlacedAs : List Point → ℕ → (ℕ → List ℕ) → Patch → Type 0
  PlacedAs f n E t = (p : Spot) → T (is_spot n p) → at blank f (patch_vertex n E t p) ≡ point_at n t.tri p

  -- what calculating leaves, where before is what the buffer held
  pub record Calculated (N : Numbering) (before after : List Point) : Type 0 where
    pub long : length after ≡ length before
    pub corner : (x : ℕ) → x < length M.points → at blank after x ≡ corner_point blank M x
    pub spots : Each (PlacedAs after N.n (edge_of N)) (patches M.triangles N)
    -- and there is no other vertex
    pub all : (x : ℕ) → x < N.total → AtSpot M.triangles N x
    pub untouched : (x : ℕ) → N.total ≤ x → at blank after x ≡ at blank before x

abbrev pub PointsPlaced : Type 0 → Type 0 → Type 0
PointsPlaced Point Frac =
    (share : ℕ → ℕ → Frac) (blank : Point) (M : Meaning Point Frac) (N : Numbering) (f : List Point)
    → Accepted (length M.points) M.edges M.triangles → Reached (length M.points) M.edges M.triangles N → 3360 ≤ length f
    → Calculated share blank M N f (calculated share blank M N f)
