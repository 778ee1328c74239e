-- Contents that fit a count are of that count, and so many vertices does a step take.
use Rattle.std.proofs.Common.{◌≡◌, ℕ, zero, suc, ◌+◌, ◌*◌, ◌≤◌, List, length, sym, refl, subst, arith}
use Rattle.pattern.specs.Step as numbered
use Rattle.pattern.specs.Step.{NumberedContents, taken, step, OfCount, of_0, of_1, of_2, of_3, of_4, of_more}
use Rattle.pattern.proofs.Grow.{step_of_count}
use Rattle.mesh.specs.Numbering.{after}
use Rattle.rings.specs.declared.contents.Ring.{Ring}
use Rattle.rings.specs.declared.contents.TriangleContents.{TriangleContents}
use Rattle.rings.specs.declared.contents.TriangleContents.TheVariants as kind
use Rattle.rings.specs.Held.{held, Fits, ring_at}
use Rattle.rings.specs.Sides.{on_sides, side_len}
use Rattle.growing.specs.Placed.{EqualSides}

none_of_count : (m : ℕ) → m ≤ 1 → OfCount m numbered.None
none_of_count zero h = of_0
none_of_count (suc zero) h = of_1
none_of_count (suc (suc m)) h = absurd (omega arith)

more_of_count :
    (m L a b c : ℕ) (sides : List ℕ) (t : NumberedContents) → m ≡ 3 + L → 2 ≤ L → length sides ≡ 3 * L → OfCount L t
    → OfCount m (numbered.More a b c L sides t)
more_of_count m zero a b c sides t e h l r = absurd (omega arith)
more_of_count m (suc zero) a b c sides t e h l r = absurd (omega arith)
more_of_count m (suc (suc k)) a b c sides t e h l r =
    let q : suc (suc (suc (suc (suc k)))) ≡ m = omega arith in
    subst (λ (n : ℕ). OfCount n (numbered.More a b c (suc (suc k)) sides t)) q (of_more (omega arith) r)

pub held_of_count : (rs : List Ring) (d m : ℕ) (t : TriangleContents) → EqualSides rs d t → Fits rs d m t → OfCount m (held rs d t)
held_of_count rs d m kind.None w h = none_of_count m h
held_of_count rs d m (kind.One x) w h = subst (λ (n : ℕ). OfCount n (numbered.One x)) (sym h) of_2
held_of_count rs d m (kind.Three a b c) w h = subst (λ (n : ℕ). OfCount n (numbered.Three a b c)) (sym h) of_3
held_of_count rs d m (kind.Six a b c ab bc ca) w h = subst (λ (n : ℕ). OfCount n (numbered.Six a b c ab bc ca)) (sym h) of_4
held_of_count rs zero m (kind.More i) w h = absurd h
held_of_count rs (suc d) m (kind.More i) w h =
    let g : Ring = ring_at rs i in
    more_of_count m (side_len g) g.a g.b g.c (on_sides g) (held rs d g.inner) h.1 h.2 w.0 (held_of_count rs d (side_len g) g.inner w.1 h.4)

taken_of_count : (n : ℕ) (g : NumberedContents) → 1 ≤ n → OfCount n g → taken g ≡ n
taken_of_count n g p of_0 = absurd (omega arith)
taken_of_count n g p of_1 = refl
taken_of_count n g p of_2 = refl
taken_of_count n g p of_3 = refl
taken_of_count n g p of_4 = refl
taken_of_count n g p (of_more {k = k} {t = t} l r) = let q : 1 ≤ suc (suc k) = omega arith in let e = taken_of_count (suc (suc k)) t q r in omega arith

-- a step takes at most 12 vertices
pub after_near : (h k n : ℕ) (g : NumberedContents) → 1 ≤ n → n + k ≤ 12 → OfCount n g → after h k g ≤ h + 12 * k
after_near h zero n g p q r = omega arith
after_near h (suc k) n g p q r =
    let some : 1 ≤ suc n = omega arith in
    let few : suc n + k ≤ 12 = omega arith in
    omega (arith, taken_of_count n g p r, after_near (h + taken g) k (suc n) (step h g) some few (step_of_count h n g p r))
