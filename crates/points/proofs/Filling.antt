-- Filling puts each vertex's answer at its place.
use Rattle.std.proofs.Common.{◌≡◌, ℕ, zero, suc, ◌+◌, ◌<◌, ◌≤◌, leb, List, length, get_or, set, sym, refl, ap, ◌∙◌, subst, arith, leb→le, length-set, get_or-set_other, get_or-set_same}
use Rattle.refusal.specs.declared.Refusal.TheVariants.{DataTooShort}
use Rattle.mesh.specs.Calls.{unless_refused}
use Rattle.mesh.proofs.Calls.{yes}
use Rattle.points.specs.Calculating.{at}
use Rattle.pattern.proofs.Occurrences.{Same?, is, isnt, same?}
use Rattle.points.specs.Filling.{Generator, before, answer, filled_from, FillingStands, filled, Filled}

module _ {Point Data State : Type 0} (generate : Generator Point Data State) (point : ℕ → Point) (s : State) where
  abbrev next : ℕ → State
  next i = before generate point s i

  abbrev from : ℕ → ℕ → List Data → List Data
  from i k l = (filled_from generate point i k (next i) l).0

  from_long : (i k : ℕ) (l : List Data) → length (from i k l) ≡ length l
  from_long i zero l = refl
  from_long i (suc k) l = from_long (suc i) k (set l i (answer generate point s i)) ∙ length-set l i (answer generate point s i)

  from_state : (i k : ℕ) (l : List Data) → (filled_from generate point i k (next i) l).1 ≡ next (i + k)
  from_state i zero l = ap next (let z : i ≡ i + 0 = omega arith in z)
  from_state i (suc k) l = from_state (suc i) k (set l i (answer generate point s i)) ∙ ap next (let z : suc i + k ≡ i + suc k = omega arith in z)

  from_low : (i k : ℕ) (l : List Data) (j : ℕ) (d : Data) → j < i → get_or (from i k l) j d ≡ get_or l j d
  from_low i zero l j d h = refl
  from_low i (suc k) l j d h =
      from_low (suc i) k (set l i (answer generate point s i)) j d (omega arith)
      ∙ get_or-set_other l i j (answer generate point s i) d (λ e. let z : ⊥ = omega arith in z)

  from_high : (i k : ℕ) (l : List Data) (j : ℕ) (d : Data) → i + k ≤ j → get_or (from i k l) j d ≡ get_or l j d
  from_high i zero l j d h = refl
  from_high i (suc k) l j d h =
      from_high (suc i) k (set l i (answer generate point s i)) j d (omega arith)
      ∙ get_or-set_other l i j (answer generate point s i) d (λ e. let z : ⊥ = omega arith in z)

  from_at : (i k : ℕ) (l : List Data) (j : ℕ) (d : Data) → i + k ≤ length l → i ≤ j → j < i + k → get_or (from i k l) j d ≡ answer generate point s j
  from_at i zero l j d h a b = absurd (let z : ⊥ = omega arith in z)
  from_at i (suc k) l j d h a b =
      go (same? j i) (from_at (suc i) k (set l i (answer generate point s i)) j d (omega (arith, length-set l i (answer generate point s i))))
    where
      go :
          Same? j i → (suc i ≤ j → j < suc i + k → get_or (from (suc i) k (set l i (answer generate point s i))) j d ≡ answer generate point s j)
          → get_or (from (suc i) k (set l i (answer generate point s i))) j d ≡ answer generate point s j
      go (is e y) r =
          ap (λ m. get_or (from (suc i) k (set l i (answer generate point s i))) m d) e
          ∙ from_low (suc i) k (set l i (answer generate point s i)) i d (omega arith)
          ∙ get_or-set_same l i (answer generate point s i) d (omega arith)
          ∙ ap (answer generate point s) (sym e)
      go (isnt e y) r = r (omega arith) (omega arith)

filled_stands :
    {Point Data State : Type 0} (generate : Generator Point Data State) (point : ℕ → Point) (total : ℕ) (s : State) (l : List Data) → total ≤ length l
    → Filled generate point total s l (filled generate point total s l).0 (filled generate point total s l).1
filled_stands generate point total s l h =
    record {
      long = from_long generate point s 0 total l;
      vertex = λ i d b. from_at generate point s 0 total l i d (omega arith) (omega arith) (omega arith);
      left = λ i d b. from_high generate point s 0 total l i d (omega arith);
      state = from_state generate point s 0 total l ∙ ap (before generate point s) (let z : 0 + total ≡ total = omega arith in z);
    }

pub filling_stands : (Point Data State : Type 0) → FillingStands Point Data State
filling_stands Point Data State generate blank ts N F s l e =
    let r : List Data × State = filled generate (at blank F) N.total s l in
    let long : N.total ≤ length l = leb→le N.total (length l) (yes (leb N.total (length l)) (DataTooShort N.total (length l)) e) in
    subst (λ o. Filled generate (at blank F) N.total s l (unless_refused o r (l, s)).0 (unless_refused o r (l, s)).1) (sym e)
    (filled_stands generate (at blank F) N.total s l long)
