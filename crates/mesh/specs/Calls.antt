-- When the calls on a mesh are refused, and what those that read a settled mesh write.
use Rattle.std.specs.Prelude.{◌≡◌, ℕ, ◌+◌, ◌-◌, ◌<◌, ◌≤◌, Bool, cond, T, List, [], ◌++◌, length, drop, Some, None, Ok, Err, Option, Result, nat_le, nat_lt}
use Rattle.refusal.specs.declared.Refusal.{Refusal}
use Rattle.refusal.specs.declared.Refusal.TheVariants.{SubdividedTooOften, NoTriangle, BufferTooShort, NumberTooLarge, SinkFull, DataTooShort}
use Rattle.shape.specs.declared.triangle.Triangle.{Triangle}
use Rattle.pattern.specs.Amounts.{lengths, triangle_line_numbers, triangle_line_breaks}
use Rattle.shape.specs.Lists.{Each}
use Rattle.shape.specs.Questions.{Accepted}
use Rattle.mesh.specs.Numbering.{Numbering, Reached}
use Rattle.mesh.specs.Faces.{faces, faces_of, face_numbers, triangle_face_numbers, all_face_numbers}
use Rattle.mesh.specs.Strips.{strips_of, major_strips, strips, major_numbers, major_breaks, all_numbers, all_breaks, offset_by}
use Rattle.mesh.specs.Sinks.{Sink}

-- An ask is a call that reads a settled mesh, with what it is given: the triangle, the offset, the sink, and how long the buffer or
-- the data slice is.
pub data Ask : Type 0 where
  triangle_faces : (t room : ℕ) → Ask
  all_faces : (room : ℕ) → Ask
  triangle_lines : (t offset : ℕ) → Sink → Ask
  major_lines : (offset : ℕ) → Sink → Ask
  all_lines : (offset : ℕ) → Sink → Ask
  fill : (room : ℕ) → Ask

-- the sink can take these strips, and none of their numbers is one that no push takes
abbrev pub TakenBy : Sink → List (List ℕ) → Type 0
TakenBy s ls = T (s.takes (lengths ls) (length ls)) × Each (Each (λ x. x < 4294967295)) ls

-- the first of two questions to which the answer is no
abbrev pub first_no : Option Refusal → Option Refusal → Option Refusal
first_no (Some r) q = Some r
first_no None q = q

abbrev pub unless : Bool → Refusal → Option Refusal
unless b r = cond b None (Some r)

-- 11, unless the count and the amount are at most 12 together
abbrev pub too_often : Numbering → ℕ → Option Refusal
too_often N amount = unless (nat_le (N.n + amount) 12) (SubdividedTooOften N.n amount)

-- what a call makes of old, where new is what it makes of it when it is accepted
abbrev pub unless_refused : {X : Type 0} → Option Refusal → X → X → X
unless_refused None new old = new
unless_refused (Some r) new old = old

-- what a call answers, where x is its answer when it is accepted
abbrev pub answered_or : {X : Type 0} → Option Refusal → X → Result X Refusal
answered_or None x = Ok x
answered_or (Some r) x = Err r

module _ (ts : List Triangle) (N : Numbering) where
  -- 12, unless the triangle is there
  abbrev pub no_triangle : ℕ → Option Refusal
  no_triangle t = unless (nat_lt t (length ts)) (NoTriangle t (length ts))

  -- 13, unless the buffer has space for all numbers
  abbrev pub buffer_short : ℕ → ℕ → Option Refusal
  buffer_short needed room = unless (nat_le needed room) (BufferTooShort needed room)

  -- 14, unless the offset plus the total is at most 4,294,967,295; the number told is the largest
  abbrev pub number_large : ℕ → Option Refusal
  number_large offset = unless (nat_le (offset + N.total) 4294967295) (NumberTooLarge (offset + N.total - 1))

  -- 15, unless the sink can take the call's numbers and breaks
  abbrev pub sink_full : Sink → ℕ → ℕ → Option Refusal
  sink_full s p b = unless (s.takes p b) (SinkFull p b)

  -- 17, unless the data slice is at least as long as the total
  abbrev pub data_short : ℕ → Option Refusal
  data_short room = unless (nat_le N.total room) (DataTooShort N.total room)

  -- why a call is refused, if it is
  abbrev pub refusal : Ask → Option Refusal
  refusal (triangle_faces t room) = first_no (no_triangle t) (buffer_short (triangle_face_numbers N) room)
  refusal (all_faces room) = buffer_short (all_face_numbers ts N) room
  refusal (triangle_lines t offset s) =
      first_no (no_triangle t) (first_no (number_large offset) (sink_full s (triangle_line_numbers N.n) (triangle_line_breaks N.n)))
  refusal (major_lines offset s) = first_no (number_large offset) (sink_full s (major_numbers N) (major_breaks N))
  refusal (all_lines offset s) = first_no (number_large offset) (sink_full s (all_numbers ts N) (all_breaks ts N))
  refusal (fill room) = data_short room

  -- the numbers that an accepted face call writes at the front of its buffer
  abbrev pub numbers_written : Ask → List ℕ
  numbers_written (triangle_faces t room) = face_numbers (faces_of ts N t)
  numbers_written (all_faces room) = face_numbers (faces ts N)
  numbers_written (triangle_lines t offset s) = []
  numbers_written (major_lines offset s) = []
  numbers_written (all_lines offset s) = []
  numbers_written (fill room) = []

  -- the buffer after a face call: the numbers at its front, the rest as it was; a refused call leaves it
  abbrev pub buffer_after : Ask → List ℕ → List ℕ
  buffer_after a old = unless_refused (refusal a) (numbers_written a ++ drop (length (numbers_written a)) old) old

  -- what a face call answers: how many numbers it wrote
  abbrev pub face_answer : Ask → Result ℕ Refusal
  face_answer a = answered_or (refusal a) (length (numbers_written a))

  -- the strips that an accepted line call writes to its sink
  abbrev pub strips_written : Ask → List (List ℕ)
  strips_written (triangle_faces t room) = []
  strips_written (all_faces room) = []
  strips_written (triangle_lines t offset s) = offset_by offset (strips_of ts N t)
  strips_written (major_lines offset s) = offset_by offset (major_strips ts N)
  strips_written (all_lines offset s) = offset_by offset (strips ts N)
  strips_written (fill room) = []

  -- what is written fits: the numbers into the buffer, the strips into the sink
  abbrev pub Fits : Ask → Type 0
  Fits (triangle_faces t room) = length (numbers_written (triangle_faces t room)) ≤ room
  Fits (all_faces room) = length (numbers_written (all_faces room)) ≤ room
  Fits (triangle_lines t offset s) = TakenBy s (strips_written (triangle_lines t offset s))
  Fits (major_lines offset s) = TakenBy s (strips_written (major_lines offset s))
  Fits (all_lines offset s) = TakenBy s (strips_written (all_lines offset s))
  Fits (fill room) = N.total ≤ room

abbrev pub AcceptedFits : Type 0
AcceptedFits =
    (P E : ℕ) (ts : List Triangle) → Accepted P E ts → (N : Numbering) → Reached P E ts N → (a : Ask) → refusal ts N a ≡ None → Fits ts N a
