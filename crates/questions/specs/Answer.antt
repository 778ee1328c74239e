-- The answer to the questions, as it is computed.
use Rattle.std.specs.Prelude.{ℕ, Bool, cond, ◌&&◌, List, length, Some, None, Ok, Err, Option, Result, nat_le}
use Rattle.refusal.specs.declared.Refusal.{Refusal}
use Rattle.refusal.specs.declared.Refusal.TheVariants.{TriangleCount, PointOrEdgeCount, OutOfRange, RepeatedCorner, EdgeMismatch, EdgeDirection, RepeatedTriangle, Unused}
use Rattle.refusal.specs.declared.Unused.TheVariants.{Edge as UnusedEdge, Point as UnusedPoint}
use Rattle.shape.specs.declared.triangle.Triangle.{Triangle}
use Rattle.questions.specs.declared.question.Question.{Question}
use Rattle.questions.specs.declared.question.Question.TheVariants.{InRange, DifferentCorners, EdgesMatch, OneWayEach, DifferentSets}
use Rattle.questions.specs.declared.used.Part.TheVariants.{Edge, Point}
use Rattle.questions.specs.Tests.{first_no, is_used, first_lack}

abbrev pub Answer : Type 0
Answer = Result (Unit {0}) Refusal

-- a refusal where something was found, else what is answered next
abbrev pub unless : Option ℕ → (ℕ → Refusal) → Answer → Answer
unless None refusal next = next
unless (Some i) refusal next = Err (refusal i)

-- what a question refuses with at a triangle
abbrev pub refusal_of : Question → ℕ → Refusal
refusal_of (InRange P E) t = OutOfRange t
refusal_of DifferentCorners t = RepeatedCorner t
refusal_of EdgesMatch t = EdgeMismatch t
refusal_of OneWayEach t = EdgeDirection t
refusal_of DifferentSets t = RepeatedTriangle t

-- what is answered to one question: a refusal at the first triangle at which the answer is no
abbrev pub asked : Question → List Triangle → Answer
asked q ts = unless (first_no q ts) (refusal_of q) (Ok tt)

-- the second answer, where the first is no refusal
abbrev pub and_then : Answer → Answer → Answer
and_then (Ok u) next = next
and_then (Err e) next = Err e

abbrev pub few : ℕ → Bool
few T = nat_le 1 T && nat_le T 32

abbrev pub sized : ℕ → ℕ → Bool
sized P E = nat_le 3 P && (nat_le P 96 && (nat_le 3 E && nat_le E 96))

abbrev pub counts_answer : ℕ → ℕ → ℕ → Answer
counts_answer P E T = cond (few T) (cond (sized P E) (Ok tt) (Err (PointOrEdgeCount P E))) (Err (TriangleCount T))

abbrev pub triangles_answer : ℕ → ℕ → List Triangle → Answer
triangles_answer P E ts =
    unless (first_no (InRange P E) ts) OutOfRange
    (unless (first_no DifferentCorners ts) RepeatedCorner
    (unless (first_no EdgesMatch ts) EdgeMismatch
    (unless (first_no OneWayEach ts) EdgeDirection
    (unless (first_no DifferentSets ts) RepeatedTriangle (Ok tt)))))

abbrev pub used_answer : ℕ → ℕ → List Triangle → Answer
used_answer P E ts =
    unless (first_lack (is_used Edge ts) E) (λ e. Unused (UnusedEdge e)) (unless (first_lack (is_used Point ts) P) (λ p. Unused (UnusedPoint p)) (Ok tt))

abbrev pub list_answer : ℕ → ℕ → List Triangle → Answer
list_answer P E ts = and_then (triangles_answer P E ts) (used_answer P E ts)

abbrev pub answer : ℕ → ℕ → List Triangle → Answer
answer P E ts = and_then (counts_answer P E (length ts)) (list_answer P E ts)
