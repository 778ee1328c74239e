-- The strips of two tables: their numbers, and where each but the first starts.
use Rattle.std.specs.Prelude.{ℕ, ◌-◌, ◌<◌, ◌≤◌, Bool, true, false, ◌&&◌, T, List, [], ◌∷◌, length, take, drop, nat_le, slice_index}
use Rattle.std.proofs.Common.{arith, leb→le, le→leb}
use Rattle.mesh.specs.Sinks.{Sink}

-- no strip starts beyond the numbers used
abbrev pub StartsWithin : ℕ → List ℕ → ℕ → Type 0
StartsWithin breaks starts used = (k : ℕ) → k < breaks → slice_index starts k ≤ used

-- the strips that end where the next ones start, the first of them starting at from
abbrev pub cut_at : ℕ → List ℕ → List ℕ → List (List ℕ)
cut_at from [] xs = []
cut_at from (e ∷ es) xs = drop from (take e xs) ∷ cut_at e es xs

-- the last start
abbrev pub last_start : ℕ → List ℕ → ℕ
last_start from [] = from
last_start from (e ∷ es) = last_start e es

pub both : (a b : Bool) → T a → T b → T (a && b)
both true b t u = u
both false b t u = t

pub first_of : (a b : Bool) → T (a && b) → T a
first_of true b t = tt
first_of false b t = t

pub second_of : (a b : Bool) → T (a && b) → T b
second_of true b t = t
second_of false b t = absurd t

-- what has space for a pair has space for every smaller one
pub fewer_of_each : (m n p b p' b' : ℕ) → p' ≤ p → b' ≤ b → T (nat_le p m && nat_le b n) → T (nat_le p' m && nat_le b' n)
fewer_of_each m n p b p' b' h k t =
    let y = leb→le p m (first_of (nat_le p m) (nat_le b n) t) in
    let z = leb→le b n (second_of (nat_le p m) (nat_le b n) t) in
    both (nat_le p' m) (nat_le b' n) (le→leb p' m (omega arith)) (le→leb b' n (omega arith))

-- the first places of both tables are used: numbers are taken up to the free places of the one, breaks up to those of the other
abbrev pub start_sink : ℕ → List ℕ → ℕ → List ℕ → Sink
start_sink used numbers breaks starts = record {
  closed = cut_at 0 (take breaks starts) (take used numbers);
  last = drop (last_start 0 (take breaks starts)) (take used numbers);
  takes = λ p b. nat_le p (length numbers - used) && nat_le b (length starts - breaks);
  smaller = λ p b p' b' h k t. fewer_of_each (length numbers - used) (length starts - breaks) p b p' b' h k t;
}
