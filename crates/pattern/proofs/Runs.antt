-- Runs of lists, counted up.
use mathlib.Core.Path.{◌≡◌, refl, sym, ◌∙◌, ap, ap₂}
use mathlib.Core.List.{List, ◌++◌, append_assoc, append-nil}
use Prim.Native.Nat.{ℕ, zero, suc, ◌+◌, ◌≤◌, ◌<◌}
use native.Mathlib.Nat.{add-zero, suc-add, add-suc}
use native.Mathlib.Omega.{arith}
use Rattle.pattern.specs.Ring.{up}

module _ {Y : Type 0} where
  pub up_cong : (i k : ℕ) (F G : ℕ → List Y) → ((j : ℕ) → i ≤ j → j < i + k → F j ≡ G j) → up i k F ≡ up i k G
  up_cong i zero F G e = refl
  up_cong i (suc k) F G e =
      let a : i ≤ i = omega arith in
      let b : i < i + suc k = omega arith in
      ap₂ (λ x y. x ++ y) (e i a b) (up_cong (suc i) k F G (λ j l m. e j (omega arith) (omega arith)))

  pub up-snoc : (i k : ℕ) (F : ℕ → List Y) → up i (suc k) F ≡ up i k F ++ F (i + k)
  up-snoc i zero F = append-nil (F i) ∙ ap F (sym (add-zero i))
  up-snoc i (suc k) F =
      ap (λ l. F i ++ l) (up-snoc (suc i) k F ∙ ap (λ j. up (suc i) k F ++ F j) (suc-add i k ∙ sym (add-suc i k)))
      ∙ sym (append_assoc (F i) (up (suc i) k F) (F (i + suc k)))
