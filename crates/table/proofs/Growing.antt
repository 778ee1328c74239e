-- A sound table stays sound when it grows.
use Rattle.std.proofs.Common.{◌≡◌, ℕ, ◌+◌, ◌*◌, ◌≤◌, ◌⊎◌, List, length, vec_items, vec_len, refl, sym, subst, inl, inr, arith}
use Rattle.std.proofs.Math.Nat.{mul-le-mul_right}
use mathlib.Core.Logic.{∥∥₁_elim, ∥∥₁_map}
use native.Mathlib.Bridge.{le_prop}
use Rattle.growing.specs.declared.edge.Edge.{Edge}
use Rattle.growing.specs.Standing.{numbering, Stands, WithinLimits}
use Rattle.mesh.specs.Numbering.{Reached, subdividing, grown}
use Rattle.rings.specs.declared.contents.Ring.{Ring}
use Rattle.rings.specs.declared.contents.TriangleContents.{TriangleContents}
use Rattle.shape.specs.declared.triangle.Triangle.{Triangle}
use Rattle.shape.specs.Questions.{Accepted}
use Rattle.table.specs.declared.forward.Forward.{Forward}
use Rattle.table.specs.declared.table.Table.{Table}
use Rattle.table.specs.Sound.{Sound, NoBase}
use Rattle.table.proofs.Facts as facts
use Rattle.table.proofs.Propositions.{stands_prop, limits_prop}

module _ (P : ℕ) (ts : List Triangle) (fs : List Forward) (es : List Edge) (cs : List TriangleContents) (rs : List Ring) (n total : ℕ) where
  pub few : ∥ Sound P ts fs es cs rs n total ∥₁ → n ≤ 12
  few S = ∥∥₁_elim S le_prop (facts.few P ts fs es cs rs n total)

  -- what subdividing asks for
  pub stands : ∥ Sound P ts fs es cs rs n total ∥₁ → Stands n es cs rs
  stands S = ∥∥₁_elim S (stands_prop n es cs rs) (λ s. s.stands)

  pub limits : ∥ Sound P ts fs es cs rs n total ∥₁ → WithinLimits (length es) (length cs) total
  limits S = ∥∥₁_elim S (limits_prop (length es) (length cs) total) (facts.limits P ts fs es cs rs n total)

  module _ (amount : ℕ) (es' : List Edge) (cs' : List TriangleContents) (rs' : List Ring) (total' : ℕ)
      (many : length es' ≡ length es) (numbered : numbering (n + amount) total' es' cs' rs' ≡ grown amount (numbering n total es cs rs)) where
    base_same : Accepted P (length es) ts ⊎ NoBase P (length es) ts → Accepted P (length es') ts ⊎ NoBase P (length es') ts
    base_same (inl A) = inl (subst (λ (e : ℕ). Accepted P e ts) (sym many) A)
    base_same (inr N) = inr (subst (λ (e : ℕ). NoBase P e ts) (sym many) N)

    grown_sound : n + amount ≤ 12 → Stands (n + amount) es' cs' rs' → Sound P ts fs es cs rs n total → Sound P ts fs es' cs' rs' (n + amount) total'
    grown_sound few st s =
        let r : Reached P (length es) ts (numbering (n + amount) total' es' cs' rs')
        = subst (Reached P (length es) ts) (sym numbered) (subdividing amount s.reached few) in
        record {
          base = base_same s.base;
          reached = subst (λ (e : ℕ). Reached P e ts (numbering (n + amount) total' es' cs' rs')) (sym many) r;
          stands = st;
          reads = s.reads;
        }

    pub sound_grown :
        n + amount ≤ 12 → Stands (n + amount) es' cs' rs' → ∥ Sound P ts fs es cs rs n total ∥₁ → ∥ Sound P ts fs es' cs' rs' (n + amount) total' ∥₁
    sound_grown few st S = ∥∥₁_map S (grown_sound few st)

-- three lists at once
pub stands_same :
    (n : ℕ) (es es' : List Edge) (cs cs' : List TriangleContents) (rs rs' : List Ring) → es ≡ es' → cs ≡ cs' → rs ≡ rs'
    → Stands n es cs rs → Stands n es' cs' rs'
stands_same n es es' cs cs' rs rs' p q r s = coe 0 1 (i. Stands n (p i) (q i) (r i)) s

module _ (t : Table) where
  pub small : t.n ≤ 12
  small =
      few (vec_len t.points) (vec_items t.triangles) (vec_items t.forward) (vec_items t.edges) (vec_items t.contents) (vec_items t.rings) t.n t.total t.sound

  -- what subdividing asks for, of the lists as they are read
  module _ (es : List Edge) (cs : List TriangleContents) (rs : List Ring) (p : es ≡ vec_items t.edges) (q : cs ≡ vec_items t.contents) (r : rs ≡ vec_items t.rings) where
    pub stands_read : Stands t.n es cs rs
    stands_read =
        stands_same t.n (vec_items t.edges) es (vec_items t.contents) cs (vec_items t.rings) rs (sym p) (sym q) (sym r)
        (stands (vec_len t.points) (vec_items t.triangles) (vec_items t.forward) (vec_items t.edges) (vec_items t.contents) (vec_items t.rings) t.n t.total
        t.sound)

    pub limits_read : WithinLimits (length es) (length cs) t.total
    limits_read =
        subst (λ (m : ℕ × ℕ). WithinLimits m.0 m.1 t.total) (λ j. (length (sym p j), length (sym q j)))
        (limits (vec_len t.points) (vec_items t.triangles) (vec_items t.forward) (vec_items t.edges) (vec_items t.contents) (vec_items t.rings) t.n t.total
        t.sound)

  pub few_on_edges : t.n * length (vec_items t.edges) ≤ 1152
  few_on_edges =
      let m : t.n * length (vec_items t.edges) ≤ 12 * length (vec_items t.edges) = mul-le-mul_right (length (vec_items t.edges)) small in
      omega (arith, (limits_read (vec_items t.edges) (vec_items t.contents) (vec_items t.rings) refl refl refl).few_edges)
