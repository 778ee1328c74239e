-- What is known where the checks of a push or a break pass, and what a table holds after one place more is filled.
use Rattle.std.proofs.Common.{◌≡◌, ℕ, ◌+◌, Bool, true, false, cond, eqb, List, set, Ok, Err, sym, refl, ap, ◌∙◌, subst, arith}
use Rattle.refusal.specs.declared.Refusal.{Refusal}
use Rattle.refusal.specs.declared.Refusal.TheVariants.{NumberTooLarge}
use Rattle.mesh.specs.Sinks.{Sink}
use Rattle.strips.specs.declared.filled.Filled.{Filled}
use Rattle.strips.specs.Filled.{Fills}
use Rattle.strips.specs.Taking.{number_answer, taken_or_full, push_answer}

not_mark : (b : Bool) (e : Refusal) (u : Unit {0}) → cond b (Err e) (Ok tt) ≡ Ok u → b ≡ false
not_mark true e u q = let z : ◌≡◌ {A = ℕ} 0 1 = cc in absurd (omega arith)
not_mark false e u q = refl

module _ (x : ℕ) (u : Unit {0}) (q : number_answer x ≡ Ok u) where
  pub no_mark : eqb x 4294967295 ≡ false
  no_mark = not_mark (eqb x 4294967295) (NumberTooLarge x) u q

  pub push_passes : (s : Sink) (v : Unit {0}) → taken_or_full s 1 0 ≡ Ok v → push_answer s x ≡ Ok v
  push_passes s v t = ap (λ b. cond b (Err (NumberTooLarge x)) (taken_or_full s 1 0)) no_mark ∙ t

pub after_filling : {f g : Filled ℕ} {x : ℕ} (P : ℕ → List ℕ → Type 0) → Fills f x g → P (f.used + 1) (set f.places.now f.used x) → P g.used g.places.now
after_filling {f = f} {g = g} {x = x} P e p =
    subst (λ (n : ℕ). P n g.places.now) (sym e.counted) (subst (λ (l : List ℕ). P (f.used + 1) l) (sym e.placed) p)
