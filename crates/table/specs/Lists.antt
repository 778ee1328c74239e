-- What a list is asked for, position by position.
use Rattle.std.specs.Prelude.{ℕ, ◌^◌, ◌<◌, List, Option}
use Rattle.shape.specs.Lists.{At}

-- each answer at a position is what stands there in l, and none beyond it
abbrev pub AnswersFrom : {X : Type 0} → (ℕ → Option X → Type 0) → List X → Type 0
AnswersFrom answers l = (i : ℕ) (r : Option _) → i < 2 ^ 64 → answers i r → At l i r
