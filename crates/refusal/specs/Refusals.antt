-- The number of a refusal, and the triangle that it names.
use Rattle.std.specs.Prelude.{ℕ}
use Rattle.refusal.specs.declared.Refusal.{Refusal}
use Rattle.refusal.specs.declared.Refusal.TheVariants.{TooManySubdivisions, TriangleCount, PointOrEdgeCount, OutOfRange, RepeatedCorner, EdgeMismatch, EdgeDirection, RepeatedTriangle, Unused, TooManyVertices, SubdividedTooOften, NoTriangle, BufferTooShort, NumberTooLarge, SinkFull, InvalidListing, DataTooShort}

abbrev pub refusal_number : Refusal → ℕ
refusal_number (TooManySubdivisions n) = 1
refusal_number (TriangleCount n) = 2
refusal_number (PointOrEdgeCount p e) = 3
refusal_number (OutOfRange t) = 4
refusal_number (RepeatedCorner t) = 5
refusal_number (EdgeMismatch t) = 6
refusal_number (EdgeDirection t) = 7
refusal_number (RepeatedTriangle t) = 8
refusal_number (Unused u) = 9
refusal_number (TooManyVertices v) = 10
refusal_number (SubdividedTooOften n k) = 11
refusal_number (NoTriangle t n) = 12
refusal_number (BufferTooShort n l) = 13
refusal_number (NumberTooLarge x) = 14
refusal_number (SinkFull p b) = 15
refusal_number (InvalidListing n l) = 16
refusal_number (DataTooShort v l) = 17

-- of the questions 4 to 8 the smallest triangle at which they fail, of all others 0
abbrev pub refusal_triangle : Refusal → ℕ
refusal_triangle (TooManySubdivisions n) = 0
refusal_triangle (TriangleCount n) = 0
refusal_triangle (PointOrEdgeCount p e) = 0
refusal_triangle (OutOfRange t) = t
refusal_triangle (RepeatedCorner t) = t
refusal_triangle (EdgeMismatch t) = t
refusal_triangle (EdgeDirection t) = t
refusal_triangle (RepeatedTriangle t) = t
refusal_triangle (Unused u) = 0
refusal_triangle (TooManyVertices v) = 0
refusal_triangle (SubdividedTooOften n k) = 0
refusal_triangle (NoTriangle t n) = 0
refusal_triangle (BufferTooShort n l) = 0
refusal_triangle (NumberTooLarge x) = 0
refusal_triangle (SinkFull p b) = 0
refusal_triangle (InvalidListing n l) = 0
refusal_triangle (DataTooShort v l) = 0
