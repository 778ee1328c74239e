-- What is answered of a base: the first question to which the answer is no, and where.
use Rattle.std.specs.Prelude.{◌≡◌, ℕ, suc, ◌<◌, ◌≤◌, List, length, take, Ok, Err, Result}
use Rattle.shape.specs.declared.triangle.Triangle.{Triangle}
use Rattle.refusal.specs.declared.Unused.{Unused}
use Rattle.refusal.specs.declared.Unused.TheVariants.{Edge, Point}
use Rattle.refusal.specs.declared.Refusal.{Refusal}
use Rattle.refusal.specs.declared.Refusal.TheVariants.{TooManySubdivisions, TriangleCount, PointOrEdgeCount, OutOfRange, RepeatedCorner, EdgeMismatch, EdgeDirection, RepeatedTriangle, Unused as NotUsed, TooManyVertices, SubdividedTooOften, NoTriangle, BufferTooShort, NumberTooLarge, SinkFull, InvalidListing, DataTooShort}
use Rattle.shape.specs.Lists.{In}
use Rattle.shape.specs.Sides.{uses, corners, use_count}
use Rattle.shape.specs.Questions.{FewTriangles, FewPointsAndEdges, InRange, DifferentCorners, EdgesMatch, OneWayEach, DifferentSets, Accepted}

-- t is the smallest number such that Q fails of the triangles 0 to t
pub record FailsFirstAt (Q : List Triangle → Type 0) (ts : List Triangle) (t : ℕ) : Type 0 where
  pub there : t < length ts
  pub fails : Q (take (suc t) ts) → ⊥
  pub not_before : (s : ℕ) → s < t → Q (take (suc s) ts)

-- n is the smallest number below the count that P does not hold of
pub record FirstLacking (count : ℕ) (P : ℕ → Type 0) (n : ℕ) : Type 0 where
  pub there : n < count
  pub lacks : P n → ⊥
  pub not_before : (m : ℕ) → m < n → P m

module _ (P E : ℕ) (ts : List Triangle) where
  abbrev pub EdgeUsed : ℕ → Type 0
  EdgeUsed e = 1 ≤ use_count e (uses ts)

  abbrev pub PointUsed : ℕ → Type 0
  PointUsed p = In p (corners ts)

  abbrev pub LacksUse : Unused → Type 0
  LacksUse (Edge e) = FirstLacking E EdgeUsed e
  LacksUse (Point p) = ((e : ℕ) → e < E → EdgeUsed e) × FirstLacking P PointUsed p

  -- yes to the questions 2 and 3, to those up to 4, .., up to 8
  abbrev pub YesTo3 : Type 0
  YesTo3 = FewTriangles ts × FewPointsAndEdges P E

  abbrev pub YesTo4 : Type 0
  YesTo4 = YesTo3 × InRange P E ts

  abbrev pub YesTo5 : Type 0
  YesTo5 = YesTo4 × DifferentCorners ts

  abbrev pub YesTo6 : Type 0
  YesTo6 = YesTo5 × EdgesMatch ts

  abbrev pub YesTo7 : Type 0
  YesTo7 = YesTo6 × OneWayEach ts

  abbrev pub YesTo8 : Type 0
  YesTo8 = YesTo7 × DifferentSets ts

  -- the earlier questions are answered yes, and this one no, with these values
  abbrev pub Refused : Refusal → Type 0
  Refused (TriangleCount n) = (n ≡ length ts) × (FewTriangles ts → ⊥)
  Refused (PointOrEdgeCount p e) = (p ≡ P) × (e ≡ E) × FewTriangles ts × (FewPointsAndEdges P E → ⊥)
  Refused (OutOfRange t) = YesTo3 × FailsFirstAt (InRange P E) ts t
  Refused (RepeatedCorner t) = YesTo4 × FailsFirstAt DifferentCorners ts t
  Refused (EdgeMismatch t) = YesTo5 × FailsFirstAt EdgesMatch ts t
  Refused (EdgeDirection t) = YesTo6 × FailsFirstAt OneWayEach ts t
  Refused (RepeatedTriangle t) = YesTo7 × FailsFirstAt DifferentSets ts t
  Refused (NotUsed u) = YesTo8 × LacksUse u
  Refused (TooManySubdivisions n) = ⊥
  Refused (TooManyVertices v) = ⊥
  Refused (SubdividedTooOften n k) = ⊥
  Refused (NoTriangle t n) = ⊥
  Refused (BufferTooShort n l) = ⊥
  Refused (NumberTooLarge x) = ⊥
  Refused (SinkFull p b) = ⊥
  Refused (InvalidListing n l) = ⊥
  Refused (DataTooShort v l) = ⊥

  -- accepted, or refused at the first question to which the answer is no
  abbrev pub Verdict : Result (Unit {0}) Refusal → Type 0
  Verdict (Ok _) = Accepted P E ts
  Verdict (Err r) = Refused r
