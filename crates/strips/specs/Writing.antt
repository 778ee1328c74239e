-- What writing one strip answers, and what it makes of a sink.
use Rattle.std.specs.Prelude.{◌≡◌, ℕ, ◌+◌, List, [], ◌∷◌, length, Some, None, Ok, Err, Option, Result, nat_le, map}
use Rattle.std.specs.List.{find}
use Rattle.std.specs.Borrow.{GName}
use Rattle.refusal.specs.declared.Refusal.{Refusal}
use Rattle.refusal.specs.declared.Refusal.TheVariants.{NumberTooLarge}
use Rattle.mesh.specs.Sinks.{Sink, Writes}
use Rattle.mesh.specs.Strips.{offset_by}
use Rattle.strips.specs.Taking.{taken_or_full}

-- the first number that, with the offset, is not below 4,294,967,295
abbrev pub first_too_large : ℕ → List ℕ → Option ℕ
first_too_large offset xs = find (λ y. nat_le 4294967295 y) (map (λ x. x + offset) xs)

abbrev pub too_large_or : Option ℕ → Result (Unit {0}) Refusal → Result (Unit {0}) Refusal
too_large_or (Some x) r = Err (NumberTooLarge x)
too_large_or None r = r

-- 14 if a number is too large, and else 15 exactly if the sink cannot take the numbers and a break
abbrev pub strip_answer : Sink → List ℕ → ℕ → Result (Unit {0}) Refusal
strip_answer s xs offset = too_large_or (first_too_large offset xs) (taken_or_full s (length xs) 1)

pub record WritesStrip {S : Type 0} (meaning : S → Sink) (held : S → List GName) (xs : List ℕ) (offset : ℕ) (old : S) (r : Result (Unit {0}) Refusal) (new : S) : Type 0 where
  pub answers : r ≡ strip_answer (meaning old) xs offset
  pub accepted : r ≡ Ok tt → Writes (offset_by offset (xs ∷ [])) (meaning old) (meaning new)
  pub refused : (e : Refusal) → r ≡ Err e → new ≡ old
  pub holds : held new ≡ held old
