-- What a push and a break answer, and what they make of a sink, where meaning says what the sink is and held which references it holds.
use Rattle.std.specs.Prelude.{◌≡◌, ℕ, cond, List, [], Ok, Err, Result, ◌==◌}
use Rattle.std.specs.Borrow.{GName}
use Rattle.refusal.specs.declared.Refusal.{Refusal}
use Rattle.refusal.specs.declared.Refusal.TheVariants.{NumberTooLarge, SinkFull}
use Rattle.mesh.specs.Sinks.{Sink, Pushed, Broken}

-- no strip is closed, and nothing is in the open one
pub record Empty (s : Sink) : Type 0 where
  pub none_closed : s.closed ≡ []
  pub none_open : s.last ≡ []

-- 15, exactly if the p numbers and b breaks cannot be taken
abbrev pub taken_or_full : Sink → ℕ → ℕ → Result (Unit {0}) Refusal
taken_or_full s p b = cond (s.takes p b) (Ok tt) (Err (SinkFull p b))

-- 14 for the number that no strip holds, and else r
abbrev pub unless_mark : ℕ → Result (Unit {0}) Refusal → Result (Unit {0}) Refusal
unless_mark x r = cond (x == 4294967295) (Err (NumberTooLarge x)) r

abbrev pub number_answer : ℕ → Result (Unit {0}) Refusal
number_answer x = unless_mark x (Ok tt)

-- 14 for the number that no strip holds, and else 15 exactly if no number can be taken
abbrev pub push_answer : Sink → ℕ → Result (Unit {0}) Refusal
push_answer s x = unless_mark x (taken_or_full s 1 0)

pub record Pushes {S : Type 0} (meaning : S → Sink) (held : S → List GName) (x : ℕ) (old : S) (r : Result (Unit {0}) Refusal) (new : S) : Type 0 where
  pub answers : r ≡ push_answer (meaning old) x
  pub accepted : r ≡ Ok tt → Pushed x (meaning old) (meaning new)
  pub refused : (e : Refusal) → r ≡ Err e → new ≡ old
  pub holds : held new ≡ held old

pub record Breaks {S : Type 0} (meaning : S → Sink) (held : S → List GName) (old : S) (r : Result (Unit {0}) Refusal) (new : S) : Type 0 where
  pub answers : r ≡ taken_or_full (meaning old) 0 1
  pub accepted : r ≡ Ok tt → Broken (meaning old) (meaning new)
  pub refused : (e : Refusal) → r ≡ Err e → new ≡ old
  pub holds : held new ≡ held old
