-- A making has one answer.
use Rattle.std.proofs.Common.{◌≡◌, ℕ, ◌<◌, ◌≤◌, List, length, Ok, Err, Result, sym, refl, ◌∙◌, arith}
use native.Mathlib.Decide.{dec_le}
use Rattle.refusal.specs.declared.Refusal.{Refusal}
use Rattle.refusal.specs.declared.Refusal.TheVariants.{TooManySubdivisions}
use Rattle.shape.specs.declared.triangle.Triangle.{Triangle}
use Rattle.shape.specs.Questions.{Accepted}
use Rattle.shape.specs.Verdict.{Refused, Verdict}
use Rattle.questions.specs.Answer.{answer}
use Rattle.questions.proofs.Verdicts.{answer_verdict, only_verdict}
use Rattle.mesh.specs.Making.{Making, too_often, refused, too_large, accepted, OneMaking, EveryMakingHasOneAnswer}
use Rattle.mesh.specs.Numbering.{Numbering, made, blank}
use Rattle.mesh.proofs.Making.{accepted_made}

same_refusal : (P E : ℕ) (ts : List Triangle) (r r' : Refusal) → Refused P E ts r → Refused P E ts r' → ◌≡◌ {A = Result (Unit {0}) Refusal} (Err r) (Err r')
same_refusal P E ts r r' p q = only_verdict P E ts (Err r) p ∙ sym (only_verdict P E ts (Err r') q)

never_both : (P E : ℕ) (ts : List Triangle) (r : Refusal) → Refused P E ts r → Accepted P E ts → ⊥
never_both P E ts r p a =
    let e = only_verdict P E ts (Err r) p in
    let d = only_verdict P E ts (Ok tt) a in
    let z : ◌≡◌ {A = ℕ} 0 1 = cc in
    omega arith

at_most_one :
    (P E : ℕ) (ts : List Triangle) (n : ℕ) (r r' : Result (Unit {0}) Refusal) (N N' : Numbering)
    → Making P E ts n r N → Making P E ts n r' N' → (r ≡ r') × (N ≡ N')
at_most_one P E ts n r r' N N' (too_often h) (too_often k) = (refl, refl)
at_most_one P E ts n r r' N N' (too_often h) (refused k q) = absurd (let z : ⊥ = omega arith in z)
at_most_one P E ts n r r' N N' (too_often h) (too_large k a l) = absurd (let z : ⊥ = omega arith in z)
at_most_one P E ts n r r' N N' (too_often h) (accepted k a l) = absurd (let z : ⊥ = omega arith in z)
at_most_one P E ts n r r' N N' (refused h p) (too_often k) = absurd (let z : ⊥ = omega arith in z)
at_most_one P E ts n r r' N N' (refused {r = x} h p) (refused {r = y} k q) = (same_refusal P E ts x y p q, refl)
at_most_one P E ts n r r' N N' (refused {r = x} h p) (too_large k a l) = absurd (never_both P E ts x p a)
at_most_one P E ts n r r' N N' (refused {r = x} h p) (accepted k a l) = absurd (never_both P E ts x p a)
at_most_one P E ts n r r' N N' (too_large h a l) (too_often k) = absurd (let z : ⊥ = omega arith in z)
at_most_one P E ts n r r' N N' (too_large h a l) (refused {r = y} k q) = absurd (never_both P E ts y q a)
at_most_one P E ts n r r' N N' (too_large h a l) (too_large k b m) = (refl, refl)
at_most_one P E ts n r r' N N' (too_large h a l) (accepted k b m) = absurd (let z : ⊥ = omega arith in z)
at_most_one P E ts n r r' N N' (accepted h a l) (too_often k) = absurd (let z : ⊥ = omega arith in z)
at_most_one P E ts n r r' N N' (accepted h a l) (refused {r = y} k q) = absurd (never_both P E ts y q a)
at_most_one P E ts n r r' N N' (accepted h a l) (too_large k b m) = absurd (let z : ⊥ = omega arith in z)
at_most_one P E ts n r r' N N' (accepted h a l) (accepted k b m) = (refl, refl)

one_at : (P E : ℕ) (ts : List Triangle) (n : ℕ) (r : Result (Unit {0}) Refusal) (N : Numbering) → Making P E ts n r N → OneMaking P E ts n
one_at P E ts n r N m = record { answer = r; mesh = N; stands = m; only = λ r' N' m'. at_most_one P E ts n r' r N' N m' m }

pub one_making : EveryMakingHasOneAnswer
one_making P E ts n = go (dec_le n 12) (answer P E ts) (answer_verdict P E ts)
  where
    go : Dec (n ≤ 12) → (r : Result (Unit {0}) Refusal) → Verdict P E ts r → OneMaking P E ts n
    go (yes h) (Ok u) v = one_at P E ts n (Ok tt) (made P E (length ts) n) (accepted_made P E ts n v h).passes
    go (yes h) (Err r) v = one_at P E ts n (Err r) blank (refused h v)
    go (no f) r v = one_at P E ts n (Err (TooManySubdivisions n)) blank (too_often (let z : 12 < n = omega arith in z))
