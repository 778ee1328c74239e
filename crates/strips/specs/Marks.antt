-- The strips of a table in which a mark stands for a break.
use Rattle.std.specs.Prelude.{ℕ, ◌+◌, ◌-◌, ◌≤◌, cond, T, List, [], ◌∷◌, length, take, ◌==◌, nat_le}
use Rattle.std.proofs.Common.{arith, leb→le, le→leb}
use Rattle.mesh.specs.Sinks.{Sink}

-- x goes in front: of the first closed strip, or of the open one where none is closed
abbrev pub in_front : ℕ → List (List ℕ) × List ℕ → List (List ℕ) × List ℕ
in_front x ([], o) = ([], x ∷ o)
in_front x (s ∷ ss, o) = ((x ∷ s) ∷ ss, o)

-- the closed strips, each ended by a mark, and the open one behind them
abbrev pub split_at_marks : List ℕ → List (List ℕ) × List ℕ
split_at_marks [] = ([], [])
split_at_marks (x ∷ xs) = cond (x == 4294967295) ([] ∷ (split_at_marks xs).0, (split_at_marks xs).1) (in_front x (split_at_marks xs))

-- what has space for a pair has space for every smaller one
pub fewer : (n p b p' b' : ℕ) → p' ≤ p → b' ≤ b → T (nat_le (p + b) n) → T (nat_le (p' + b') n)
fewer n p b p' b' h k t = let z = leb→le (p + b) n t in le→leb (p' + b') n (omega arith)

-- a table whose first places are used: numbers and breaks together are taken up to the free places
abbrev pub mark_sink : ℕ → List ℕ → Sink
mark_sink used places = record {
  closed = (split_at_marks (take used places)).0;
  last = (split_at_marks (take used places)).1;
  takes = λ p b. nat_le (p + b) (length places - used);
  smaller = λ p b p' b' h k t. fewer (length places - used) p b p' b' h k t;
}
