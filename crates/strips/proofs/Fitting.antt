-- Numbers that are too large with an offset, and what a sink answers that can take all that is left.
use Rattle.std.proofs.Common.{◌≡◌, ℕ, zero, suc, ◌+◌, ◌<◌, Bool, true, false, cond, T, eqb, leb, List, [], ◌∷◌, length, get_or, Some, None, Ok, Err, Option, refl, ap, ◌∙◌, arith, ne_eqb}
use Rattle.refusal.specs.declared.Refusal.TheVariants.{NumberTooLarge, SinkFull}
use Rattle.mesh.specs.Sinks.{Sink}
use Rattle.strips.specs.Taking.{push_answer, taken_or_full}
use Rattle.strips.specs.Writing.{first_too_large}

none_left : (b : Bool) (n : ℕ) (r : Option ℕ) → cond b (Some n) r ≡ None → (b ≡ false) × (r ≡ None)
none_left true n r e = let z : ◌≡◌ {A = ℕ} 0 1 = cc in absurd (omega arith)
none_left false n r e = (refl, e)

pub none_too_large : (o : ℕ) (xs : List ℕ) (i : ℕ) → i < length xs → first_too_large o xs ≡ None → get_or xs i 0 + o < 4294967295
none_too_large o [] i h e = absurd (omega arith)
none_too_large o (x ∷ xs) zero h e =
    let n : leb 4294967295 (x + o) ≡ false = (none_left (leb 4294967295 (x + o)) (x + o) (first_too_large o xs) e).0 in
    grind arith
none_too_large o (x ∷ xs) (suc i) h e =
    let k : i < length xs = omega arith in
    none_too_large o xs i k (none_left (leb 4294967295 (x + o)) (x + o) (first_too_large o xs) e).1

pub is_true : (b : Bool) → T b → b ≡ true
is_true true t = refl
is_true false t = absurd t

pub push_taken : (s : Sink) (x p : ℕ) → x < 4294967295 → 0 < p → T (s.takes p 1) → push_answer s x ≡ Ok tt
push_taken s x p h k t =
    let n : eqb x 4294967295 ≡ false = ne_eqb x 4294967295 (λ q. omega arith) in
    let b : s.takes 1 0 ≡ true = is_true (s.takes 1 0) (s.smaller p 1 1 0 (omega arith) (omega arith) t) in
    ap (λ v. cond v (Err (NumberTooLarge x)) (taken_or_full s 1 0)) n ∙ ap (λ v. cond v (Ok tt) (Err (SinkFull 1 0))) b

pub break_taken : (s : Sink) (p : ℕ) → T (s.takes p 1) → taken_or_full s 0 1 ≡ Ok tt
break_taken s p t =
    ap (λ v. cond v (Ok tt) (Err (SinkFull 0 1))) (is_true (s.takes 0 1) (s.smaller p 1 0 1 (omega arith) (omega arith) t))
