-- A sink of line strips by its meaning, and what writing strips makes of it.
use Rattle.std.specs.Prelude.{◌≡◌, ℕ, suc, ◌+◌, ◌≤◌, Bool, T, List, [], ◌∷◌, ◌++◌, length}
use Rattle.pattern.specs.Amounts.{lengths}

-- the strips that breaks have closed, the last one, which is open, and whether p numbers and b breaks can be taken; what takes a
-- pair takes every smaller one
pub record Sink : Type 0 where
  pub closed : List (List ℕ)
  pub last : List ℕ
  pub takes : ℕ → ℕ → Bool
  pub smaller : (p b p' b' : ℕ) → p' ≤ p → b' ≤ b → T (takes p b) → T (takes p' b')

-- a push lengthens the open strip, and if (p, b) could be taken, (p - 1, b) can
pub record Pushed (x : ℕ) (s s' : Sink) : Type 0 where
  pub closed_is : s'.closed ≡ s.closed
  pub last_is : s'.last ≡ s.last ++ (x ∷ [])
  pub takes_still : (p b : ℕ) → T (s.takes (suc p) b) → T (s'.takes p b)

-- a break closes the open strip and opens an empty one, and if (p, b) could be taken, (p, b - 1) can
pub record Broken (s s' : Sink) : Type 0 where
  pub closed_is : s'.closed ≡ s.closed ++ (s.last ∷ [])
  pub last_is : s'.last ≡ []
  pub takes_still : (p b : ℕ) → T (s.takes p (suc b)) → T (s'.takes p b)

-- each strip's numbers are pushed in turn and a break follows, strip after strip
pub data Writes : List (List ℕ) → Sink → Sink → Type 0 where
  nothing : {s : Sink} → Writes [] s s
  a_number : {x : ℕ} {l : List ℕ} {ls : List (List ℕ)} {s s' s'' : Sink} → Pushed x s s' → Writes (l ∷ ls) s' s'' → Writes ((x ∷ l) ∷ ls) s s''
  a_break : {ls : List (List ℕ)} {s s' s'' : Sink} → Broken s s' → Writes ls s' s'' → Writes ([] ∷ ls) s s''

-- the strips that are closed, where the open one held o: it goes on with the first
abbrev pub closed_after : List ℕ → List (List ℕ) → List (List ℕ)
closed_after o [] = []
closed_after o (l ∷ ls) = (o ++ l) ∷ ls

abbrev pub last_after : List ℕ → List (List ℕ) → List ℕ
last_after o [] = o
last_after o (l ∷ ls) = []

-- what a sink is after strips were written: it has taken as many numbers as they have, and as many breaks as they are
pub record Written (ls : List (List ℕ)) (s s' : Sink) : Type 0 where
  pub closed_is : s'.closed ≡ s.closed ++ closed_after s.last ls
  pub last_is : s'.last ≡ last_after s.last ls
  pub takes_still : (p b : ℕ) → T (s.takes (lengths ls + p) (length ls + b)) → T (s'.takes p b)

-- no push and no break of the writing finds the sink full
abbrev pub NeverFull : {ls : List (List ℕ)} {s s' : Sink} → Writes ls s s' → Type 0
NeverFull nothing = Unit {0}
NeverFull (a_number {s = s} u w) = T (s.takes 1 0) × NeverFull w
NeverFull (a_break {s = s} u w) = T (s.takes 0 1) × NeverFull w

-- so it is enough to ask once, before the first
abbrev pub SinksFilled : Type 0
SinksFilled =
    (ls : List (List ℕ)) (s s' : Sink) (w : Writes ls s s') → Written ls s s' × (T (s.takes (lengths ls) (length ls)) → NeverFull w)
