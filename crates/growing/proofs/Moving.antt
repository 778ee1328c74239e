-- Some steps of one triangle's contents, one after another.
use Rattle.std.proofs.Common.{◌≡◌, ℕ, zero, suc, ◌+◌, ◌*◌, ◌<◌, ◌≤◌, List, sym, refl, ap, ◌∙◌, subst, ap₂, arith}
use Rattle.pattern.specs.Step.{NumberedContents, step, taken}
use Rattle.mesh.specs.Numbering.{stepped, after}
use Rattle.rings.specs.declared.contents.Ring.{Ring}
use Rattle.rings.specs.declared.contents.TriangleContents.{TriangleContents}
use Rattle.rings.specs.Held.{held}
use Rattle.growing.specs.Placed.{Placed}
use Rattle.growing.specs.Stepping.{Ready, Moves, Steps}
use Rattle.growing.proofs.Counts.{held_of_count, after_near}

-- the last step is a step too
stepped_last : (h k : ℕ) (g : NumberedContents) → stepped h (suc k) g ≡ step (after h k g) (stepped h k g)
stepped_last h zero g = refl
stepped_last h (suc k) g = stepped_last (h + taken g) k (step h g)

after_last : (h k : ℕ) (g : NumberedContents) → after h (suc k) g ≡ after h k g + taken (stepped h k g)
after_last h zero g = refl
after_last h (suc k) g = after_last (h + taken g) k (step h g)

module _ (rs : List Ring) (b d m k : ℕ) (t : TriangleContents) (h : ℕ) (r : Ready rs b d m k t h) where
  pub moves_near : (j : ℕ) (rs1 : List Ring) (t1 : TriangleContents) (h1 : ℕ) → j ≤ k → Moves rs b d m j t h rs1 t1 h1 → h1 ≤ h + 12 * j
  moves_near j rs1 t1 h1 p v =
      let few : m + k ≤ 12 = r.few in
      let less : m + j ≤ 12 = omega arith in
      omega (arith, v.next_is, after_near h j m (held rs d t) r.some less (held_of_count rs d m t r.placed.equal r.placed.fits))

  pub moves_ready : (j : ℕ) (rs1 : List Ring) (t1 : TriangleContents) (h1 : ℕ) → j < k → Moves rs b d m j t h rs1 t1 h1 → Ready rs1 b d (m + j) 1 t1 h1
  moves_ready j rs1 t1 h1 p v =
      let some = r.some in
      let few = r.few in
      let deep = r.deep in
      let free = r.free in
      let le : j ≤ k = omega arith in
      let near = moves_near j rs1 t1 h1 le v in
      record { placed = v.placed; some = omega arith; few = omega arith; deep = omega arith; free = omega arith }

  pub moves_more :
      (j : ℕ) (rs1 : List Ring) (t1 : TriangleContents) (h1 : ℕ) (rs2 : List Ring) (t2 : TriangleContents) (h2 : ℕ) → j < k
      → Moves rs b d m j t h rs1 t1 h1 → Steps rs1 b 1 t1 h1 rs2 t2 h2 → Moves rs b d m (j + 1) t h rs2 t2 h2
  moves_more j rs1 t1 h1 rs2 t2 h2 p v s =
      let u : Moves rs1 b d (m + j) 1 t1 h1 rs2 t2 h2 = s d (m + j) (moves_ready j rs1 t1 h1 p v) in
      let g : NumberedContents = held rs d t in
      let e : suc j ≡ j + 1 = omega arith in
      let count : m + j + 1 ≡ m + (j + 1) = omega arith in
      record {
        held_is = u.held_is ∙ ap₂ (λ x y. step x y) v.next_is v.held_is ∙ sym (stepped_last h j g) ∙ ap (λ n. stepped h n g) e;
        next_is = u.next_is ∙ ap₂ (λ x y. x + taken y) v.next_is v.held_is ∙ sym (after_last h j g) ∙ ap (λ n. after h n g) e;
        placed = subst (λ (n : ℕ). Placed rs2 b d n t2) count u.placed;
        long = u.long ∙ v.long;
        others = λ i o. u.others i o ∙ v.others i o;
      }
