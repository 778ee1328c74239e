-- The promises: of every mesh that any list of calls leads to from an accepted making.
use Rattle.std.specs.Prelude.{◌≡◌, ℕ, ◌+◌, ◌<◌, ◌≤◌, Bool, T, List, [], ◌∷◌, ◌++◌, map, length, Ok, nat_eq, Float}
use Rattle.pattern.specs.Ring.{Face, map_face}
use Rattle.pattern.specs.Sides.{count, face_sides}
use Rattle.point.specs.declared.Vec3A.{Vec3A}
use Rattle.shape.specs.Lists.{Each}
use Rattle.shape.specs.Listing.{share as float_share}
use Rattle.mesh.specs.Calls.{all_faces, all_lines, numbers_written, strips_written}
use Rattle.mesh.specs.Faces.{faces, patches, triples, SideOnce}
use Rattle.mesh.specs.Making.{Making}
use Rattle.mesh.specs.Numbering.{Numbering, Counted, edge_of}
use Rattle.mesh.specs.Sinks.{Sink, Writes}
use Rattle.mesh.specs.Strips.{shown_less, ShownOnce}
use Rattle.points.specs.Calculating.{Meaning, at}
use Rattle.points.specs.Places.{corner_point, PlacedAs}
use Rattle.points.specs.Runs.{Call, pending, settled, after, added_by}

-- a making at n that is accepted, and a list of calls that leads from it to a settled mesh of the numbering N with the points F
pub record Run {Point Frac : Type 0} (share : ℕ → ℕ → Frac) (blank : Point) (M : Meaning Point Frac) (N : Numbering) (F : List Point) : Type 0 where
  pub n : ℕ
  pub first : Numbering
  pub making : Making (length M.points) M.edges M.triangles n (Ok tt) first
  pub calls : List (Call Point)
  pub leads : after share blank M calls (pending first) ≡ settled N F

-- every vertex has one number, and all numbers below the total are vertices
abbrev pub VerticesOfRuns : Type 0 → Type 0 → Type 0
VerticesOfRuns Point Frac =
    (share : ℕ → ℕ → Frac) (blank : Point) (M : Meaning Point Frac) (N : Numbering) (F : List Point) → Run share blank M N F
    → Counted (length M.points) M.edges M.triangles N

-- the count is the number of the making plus the accepted amounts, and at most 12
abbrev pub CountOfRuns : Type 0 → Type 0 → Type 0
CountOfRuns Point Frac =
    (share : ℕ → ℕ → Frac) (blank : Point) (M : Meaning Point Frac) (N : Numbering) (F : List Point) (r : Run share blank M N F)
    → (N.n ≡ r.n + added_by share blank M r.calls (pending r.first)) × (N.n ≤ 12)

-- Which points a settled mesh has: at the vertex of each spot the point of its place.
pub record Placed {Point Frac : Type 0} (share : ℕ → ℕ → Frac) (blank : Point) (M : Meaning Point Frac) (N : Numbering) (F : List Point) : Type 0 where
  pub long : length F ≡ 3360
  pub corner : (x : ℕ) → x < length M.points → at blank F x ≡ corner_point blank M x
  pub spots : Each (PlacedAs share blank M F N.n (edge_of N)) (patches M.triangles N)

abbrev pub PlacedOfRuns : Type 0 → Type 0 → Type 0
PlacedOfRuns Point Frac =
    (share : ℕ → ℕ → Frac) (blank : Point) (M : Meaning Point Frac) (N : Numbering) (F : List Point) → Run share blank M N F → Placed share blank M N F

-- Each side once: of the faces that a call for all of them writes, whatever its buffer's length.
abbrev pub FacesOfRuns : Type 0 → Type 0 → Type 0
FacesOfRuns Point Frac =
    (share : ℕ → ℕ → Frac) (blank : Point) (M : Meaning Point Frac) (N : Numbering) (F : List Point) → Run share blank M N F
    → (room p q : ℕ) → 1 ≤ count nat_eq p q (face_sides (triples (numbers_written M.triangles N (all_faces room))))
    → SideOnce M.triangles N (face_sides (triples (numbers_written M.triangles N (all_faces room)))) p q

-- Each side drawn once: by the strips l that a full line call closes in a sink whose open strip was empty.
abbrev pub StripsOfRuns : Type 0 → Type 0 → Type 0
StripsOfRuns Point Frac =
    (share : ℕ → ℕ → Frac) (blank : Point) (M : Meaning Point Frac) (N : Numbering) (F : List Point) → Run share blank M N F
    → (offset : ℕ) (s s' : Sink) → s.last ≡ [] → Writes (strips_written M.triangles N (all_lines offset s)) s s'
    → (l : List (List ℕ)) → s'.closed ≡ s.closed ++ l → (p q : ℕ) → ShownOnce M.triangles N (shown_less offset l) p q

-- two lists of one length, with R between the two at each place
module _ {X Y : Type 0} (R : X → Y → Type 0) where
  abbrev pub Both : List X → List Y → Type 0
  Both [] [] = Unit {0}
  Both [] (y ∷ m) = ⊥
  Both (x ∷ l) [] = ⊥
  Both (x ∷ l) (y ∷ m) = R x y × Both l m

  abbrev pub BothFace : Face X → Face Y → Type 0
  BothFace p q = R p.0 q.0 × R p.1 q.1 × R p.2 q.2

-- two bases are equal, where R says when two points are; the rule between is asked at the fractions (i + 1) / (n + 1) only
pub record SameBase {Point Frac : Type 0} (share : ℕ → ℕ → Frac) (R : Point → Point → Type 0) (M M' : Meaning Point Frac) : Type 0 where
  pub points : Both R M.points M'.points
  pub triangles : M.triangles ≡ M'.triangles
  pub edges : M.edges ≡ M'.edges
  pub between : (p p' q q' : Point) → R p p' → R q q' → (i n : ℕ) → R (M.between p q (share i n)) (M'.between p' q' (share i n))
  pub half : (p p' q q' : Point) → R p p' → R q q' → R (M.half p q) (M'.half p' q')

-- the whole face list, with each vertex's point in F
abbrev pub point_faces : {Point Frac : Type 0} → Point → Meaning Point Frac → Numbering → List Point → List (Face Point)
point_faces blank M N F = map (map_face (at blank F)) (faces M.triangles N)

-- Points fixed by base and count: equal bases, equal counts, any two lists of calls; equal points, place by place of the whole
-- face list.
abbrev pub FixedBy : (Point Frac : Type 0) → (ℕ → ℕ → Frac) → (Point → Point → Type 0) → Type 0
FixedBy Point Frac share R =
    (blank : Point) (M M' : Meaning Point Frac) (N N' : Numbering) (F F' : List Point)
    → SameBase share R M M' → Run share blank M N F → Run share blank M' N' F' → N.n ≡ N'.n
    → Both (BothFace R) (point_faces blank M N F) (point_faces blank M' N' F')

-- under equality, and under any test of points
abbrev pub PointsOfRuns : Type 0 → Type 0 → Type 0
PointsOfRuns Point Frac =
    ((share : ℕ → ℕ → Frac) → FixedBy Point Frac share (λ p q. p ≡ q))
    × ((share : ℕ → ℕ → Frac) (same : Point → Point → Bool) → FixedBy Point Frac share (λ p q. T (same p q)))

-- of points of three f32 components, with the f32 quotient (k + 1) / (n + 1): two are equal if their components have the same
-- bits, all NaN alike
abbrev pub Vec3AOfRuns : Type 0
Vec3AOfRuns = FixedBy Vec3A Float float_share (λ p q. p ≡ q)
