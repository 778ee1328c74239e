-- What a line means: the instruction that its words give, or what was expected.
use Rattle.std.specs.Prelude.{◌≡◌, ℕ, Bool, true, false, cond, List, [], ◌∷◌, Some, None, Ok, Err, codes, Option, Result, MatchOption, ◌≢◌, Float}
use Rattle.std.specs.Option.{option_map}
use Rattle.std.specs.Str.{bytes_eq}
use Rattle.point.specs.Points.{point}
use Rattle.line.specs.declared.instruction.Kind.{Kind}
use Rattle.line.specs.declared.instruction.Kind.TheVariants.{Triangle as TriangleKind, Square, List as ListKind}
use Rattle.line.specs.declared.instruction.Instruction.{Instruction}
use Rattle.line.specs.declared.instruction.Instruction.TheVariants.{Base, Edges, Point, Triangle, Check}
use Rattle.line.specs.declared.expected.Expected.{Expected}
use Rattle.line.specs.declared.expected.Expected.TheVariants.{Instruction as AnyLine, BaseLine, EdgesLine, PointLine, TriangleLine, CheckLine}
use Rattle.line.specs.Numbers.{whole_number, Decimal}

-- the words of a line that are still to be read
abbrev pub Rest : Type 0
Rest = List (List ℕ)

abbrev pub finished : Rest → Bool
finished [] = true
finished (w ∷ ws) = false

-- what f reads of the next word, and the words after it
abbrev pub next_by : {X : Type 0} → (List ℕ → Option X) → Rest → Option (X × Rest)
next_by f [] = None
next_by f (w ∷ ws) = option_map (λ x. (x, ws)) (f w)

-- what R allows to be read of the next word, and the words after it
abbrev pub Next : {X : Type 0} → (List ℕ → Option X → Type 0) → Rest → Option (X × Rest) → Type 0
Next R [] r = r ≡ None
Next {X} R (w ∷ ws) r = (x : Option X) × R w x × (r ≡ option_map (λ x. (x, ws)) x)

-- where there is a first part, what follows from it
abbrev pub and_then : {X Y : Type 0} → Option X → (X → Option Y) → Option Y
and_then None f = None
and_then (Some x) f = f x

-- x, where no word is left
abbrev pub last : {X : Type 0} → Rest → X → Option X
last ws x = cond (finished ws) (Some x) None

-- what R allows to be read of the next word, where it is the last
abbrev pub Last : {X : Type 0} → (List ℕ → Option X → Type 0) → Rest → Option X → Type 0
Last {X} R ws r = (x : Option (X × Rest)) × Next R ws x × (r ≡ and_then x (λ x. last x.1 x.0))

abbrev pub kind_of : List ℕ → Option Kind
kind_of w =
    cond (bytes_eq w (codes "triangle")) (Some TriangleKind)
    (cond (bytes_eq w (codes "square")) (Some Square)
    (cond (bytes_eq w (codes "list")) (Some ListKind) None))

abbrev pub kind_name : Kind → List ℕ
kind_name TriangleKind = codes "triangle"
kind_name Square = codes "square"
kind_name ListKind = codes "list"

abbrev pub read_base : Rest → Option Instruction
read_base ws = and_then (next_by kind_of ws) (λ k. last k.1 (Base k.0))

abbrev pub read_edges : Rest → Option Instruction
read_edges ws = and_then (next_by (whole_number 64) ws) (λ e. last e.1 (Edges e.0))

abbrev pub read_triangle : Rest → Option Instruction
read_triangle ws =
    and_then (next_by (whole_number 32) ws) (λ a.
    and_then (next_by (whole_number 32) a.1) (λ b.
    and_then (next_by (whole_number 32) b.1) (λ c.
    and_then (next_by (whole_number 64) c.1) (λ ab.
    and_then (next_by (whole_number 64) ab.1) (λ bc.
    and_then (next_by (whole_number 64) bc.1) (λ ca.
    last ca.1 (Triangle (record { a = a.0; b = b.0; c = c.0; ab = ab.0; bc = bc.0; ca = ca.0 }))))))))

abbrev pub read_check : Rest → Option Instruction
read_check ws = last ws Check

-- three decimal numbers, and no more words
abbrev pub ReadsPoint : Rest → Option Instruction → Type 0
ReadsPoint ws r =
    (x : Option (Float × Rest)) × Next Decimal ws x × MatchOption x (r ≡ None) (λ x.
    (y : Option (Float × Rest)) × Next Decimal x.1 y × MatchOption y (r ≡ None) (λ y.
    (z : Option (Float × Rest)) × Next Decimal y.1 z × MatchOption z (r ≡ None) (λ z.
    r ≡ last z.1 (Point (point x.0 y.0 z.0)))))

-- the instruction that was read, or else what was expected
abbrev pub or_expected : Expected → Option Instruction → Result (Option Instruction) Expected
or_expected e None = Err e
or_expected e (Some i) = Ok (Some i)

-- the line's first word says how the others are read
pub record Says (w : List ℕ) (ws : Rest) (r : Result (Option Instruction) Expected) : Type 0 where
  pub base : w ≡ codes "base" → r ≡ or_expected BaseLine (read_base ws)
  pub edges : w ≡ codes "edges" → r ≡ or_expected EdgesLine (read_edges ws)
  pub points : w ≡ codes "point" → (i : Option Instruction) × ReadsPoint ws i × (r ≡ or_expected PointLine i)
  pub triangles : w ≡ codes "triangle" → r ≡ or_expected TriangleLine (read_triangle ws)
  pub check : w ≡ codes "check" → r ≡ or_expected CheckLine (read_check ws)
  pub other :
      (w ≢ codes "base") → (w ≢ codes "edges") → (w ≢ codes "point") → (w ≢ codes "triangle")
      → (w ≢ codes "check") → r ≡ Err AnyLine

-- a line with no word says nothing
abbrev pub Means : Rest → Result (Option Instruction) Expected → Type 0
Means [] r = r ≡ Ok None
Means (w ∷ ws) r = Says w ws r
