-- A ring of 3 vertices or more to an edge, as the loop writes it.
use Rattle.std.proofs.Common.{◌≡◌, ℕ, zero, suc, ◌+◌, ◌-◌, ◌≤◌, List, ◌++◌, sym, ap, ◌∙◌, ap₂, zero-add, add-one, arith}
use Rattle.pattern.specs.Ring.{Ring, up, tips, heels, pairs, ring_faces}
use Rattle.pattern.proofs.Runs.{up-snoc}
use Rattle.faces.specs.Formulas.{ends_after}

pub up_more : {Y : Type 0} (k : ℕ) (f : ℕ → List Y) → up 0 k f ++ f k ≡ up 0 (k + 1) f
up_more k f = sym (ap (λ n. up 0 n f) (add-one k) ∙ up-snoc 0 k f ∙ ap (λ n. up 0 k f ++ f n) (zero-add k))

pub long :
    (m i : ℕ) (r : Ring ℕ) → 3 ≤ m → i ≡ m - 2
    → tips (m - 1) r ++ (heels (m - 1) r ++ (up 0 i (λ j. pairs j r) ++ ends_after (m - 2) r)) ≡ ring_faces m r
long zero i r h e = absurd (omega arith)
long (suc zero) i r h e = absurd (omega arith)
long (suc (suc zero)) i r h e = absurd (omega arith)
long (suc (suc (suc k))) i r h e =
    let p : suc (suc (suc k)) - 1 ≡ suc (suc k) = omega arith in
    let q : suc (suc (suc k)) - 2 ≡ suc k = omega arith in
    ap₂ (λ z n. tips z r ++ (heels z r ++ (up 0 n (λ j. pairs j r) ++ ends_after (suc (suc (suc k)) - 2) r))) p (e ∙ q)
    ∙ ap (λ n. tips (suc (suc k)) r ++ (heels (suc (suc k)) r ++ (up 0 (suc k) (λ j. pairs j r) ++ ends_after n r))) q
