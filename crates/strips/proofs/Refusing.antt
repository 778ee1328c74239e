-- An answer is not both a yes and a refusal.
use Rattle.std.proofs.Common.{◌≡◌, ℕ, Ok, Err, Result, arith}

pub not_both : {A E : Type 0} (r : Result A E) (a : A) (e : E) → r ≡ Ok a → r ≡ Err e → ⊥
not_both r a e p q = let z : ◌≡◌ {A = ℕ} 0 1 = cc in omega arith
