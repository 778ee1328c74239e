-- Orders, line by line.
use Rattle.std.specs.Prelude.{◌≡◌, ℕ, ◌+◌, ◌-◌, ◌^◌, min, List, Some, None, Ok, Err, Option, Result}
use Rattle.line.specs.declared.instruction.Instruction.{Instruction}
use Rattle.line.specs.declared.expected.Expected.{Expected}
use Rattle.order.specs.declared.fault.Fault.{Fault}
use Rattle.order.specs.declared.fault.Fault.TheVariants.{Unread}
use Rattle.order.specs.declared.report.Report.{Report}
use Rattle.order.specs.declared.reader.Reader.{Reader}
use Rattle.order.specs.declared.reader.Problem.{Problem}
use Rattle.line.specs.Words.{words}
use Rattle.line.specs.Lines.{Means}
use Rattle.order.specs.Drafts.{Sheet, Answered}

-- what a line that means m makes of a sheet: one that cannot be read, or has no word, leaves it
abbrev pub Follows : Result (Option Instruction) Expected → Sheet → Result (Option Report) Fault → Sheet → Type 0
Follows (Err e) s r new = (r ≡ Err (Unread e)) × (new ≡ s)
Follows (Ok None) s r new = (r ≡ Ok None) × (new ≡ s)
Follows (Ok (Some i)) s r new = Answered s i r new

abbrev pub ReadsLine : Sheet → List ℕ → Result (Option Report) Fault → Sheet → Type 0
ReadsLine s line r new = (m : Result (Option Instruction) Expected) × Means (words line) m × Follows m s r new

-- lines are counted from 1, and the count stays at the largest number of 64 bits
abbrev pub next_line : ℕ → ℕ
next_line n = min (n + 1) (2 ^ 64 - 1)

-- a fault, and the line at which it came
abbrev pub problem_at : ℕ → Fault → Problem
problem_at n f = record { line = n; fault = f }

-- a fault is told with its line
abbrev pub at_line : {X : Type 0} → ℕ → Result X Fault → Result X Problem
at_line n (Ok x) = Ok x
at_line n (Err f) = Err (problem_at n f)

-- the next line is read
pub record Reads (old : Reader) (text : List ℕ) (r : Result (Option Report) Problem) (new : Reader) : Type 0 where
  pub counted : new.line ≡ next_line old.line
  pub answer : Result (Option Report) Fault
  pub line : ReadsLine old.draft text answer new.draft
  pub told : r ≡ at_line new.line answer

-- what was expected where the input ends is told with the line after the last
abbrev pub expected_at : ℕ → Result (Unit {0}) Expected → Result (Unit {0}) Problem
expected_at n (Ok x) = Ok x
expected_at n (Err e) = Err (problem_at n (Unread e))
