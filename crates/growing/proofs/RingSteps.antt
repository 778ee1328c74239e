-- One step of contents that have a ring, or get one.
use Rattle.std.proofs.Common.{◌≡◌, ℕ, zero, suc, ◌+◌, ◌-◌, ◌*◌, ◌/◌, ◌<◌, ◌≤◌, ◌≢◌, ◌⊎◌, List, [], ◌∷◌, ◌++◌, length, set, sym, refl, ap, ◌∙◌, subst, inl, inr, arith, length-append}
use Rattle.std.proofs.lemmas.List.{length-set, get_or-set_same, get_or-set_other}
use Rattle.pattern.specs.Step as numbered
use Rattle.pattern.specs.Step.{NumberedContents}
use Rattle.rings.specs.declared.contents.Ring.{Ring}
use Rattle.rings.specs.declared.contents.TriangleContents.{TriangleContents}
use Rattle.rings.specs.declared.contents.TriangleContents.TheVariants as kind
use Rattle.rings.specs.Held.{held, Fits, Own, ring_at, no_ring}
use Rattle.rings.specs.Sides.{on_sides, side_len}
use Rattle.growing.specs.Placed.{Equal, EqualSides, Placed}
use Rattle.growing.specs.RingGrowth.{LongerRing}
use Rattle.growing.specs.Stepping.{Ready, Moves, Steps}
use Rattle.growing.proofs.Unchanged.{Same, held_same, placed_same}

-- three vertices more
longer : (l : List ℕ) (n x y z : ℕ) → length l ≡ 3 * n → length (l ++ (x ∷ y ∷ z ∷ [])) ≡ 3 * (n + 1)
longer l n x y z e = omega (arith, length-append l (x ∷ y ∷ z ∷ []), e)

third : (m n : ℕ) → m ≡ 3 * n → m / 3 ≡ n
third m n e = omega (arith, e)

-- ring b is written anew around inner contents that own the rings after it
module _
    (rs : List Ring) (b d : ℕ) (g : Ring) (within : b < length rs) (inner : Placed rs (suc b) d (side_len g) g.inner) (two : 2 ≤ side_len g) (nine : side_len g ≤ 9)
    (equal : Equal g) where
  written : ring_at (set rs b g) b ≡ g
  written = get_or-set_same rs b g no_ring within

  untouched : Same rs (set rs b g) (suc b) d
  untouched i p q = let ne : i ≢ b = λ e. omega arith in get_or-set_other rs b i g no_ring ne

  pub around_held :
      held (set rs b g) (suc d) (kind.More b)
      ≡ numbered.More g.a g.b g.c (side_len g) (on_sides g) (held rs d g.inner)
  around_held =
      ap (λ (x : Ring). numbered.More x.a x.b x.c (side_len x) (on_sides x) (held (set rs b g) d x.inner)) written
      ∙ ap (λ (x : NumberedContents). numbered.More g.a g.b g.c (side_len g) (on_sides g) x)
      (held_same rs (set rs b g) (suc b) d g.inner inner.own untouched)

  pub around_placed : Placed (set rs b g) b (suc d) (3 + side_len g) (kind.More b)
  around_placed =
      let long : length (set rs b g) ≡ length rs = length-set rs b g in
      let room : suc b + d ≤ length rs = inner.room in
      let in' : Placed (set rs b g) (suc b) d (side_len g) g.inner = placed_same rs (set rs b g) (suc b) d (side_len g) g.inner long untouched inner in
      let len : side_len (ring_at (set rs b g) b) ≡ side_len g = ap side_len written in
      record {
        fits = (omega arith, omega arith, omega arith, omega arith, subst (λ (x : Ring). Fits (set rs b g) d (side_len x) x.inner) (sym written) in'.fits);
        own = (refl, subst (λ (x : Ring). Own (set rs b g) (suc b) d x.inner) (sym written) in'.own);
        room = omega arith;
        equal = (subst Equal (sym written) equal, subst (λ (x : Ring). EqualSides (set rs b g) d x.inner) (sym written) in'.equal);
      }

more_alike :
    {a b c l a' b' c' l' : ℕ} {x x' : List ℕ} {g g' : NumberedContents} → a ≡ a' → b ≡ b' → c ≡ c' → l ≡ l' → x ≡ x' → g ≡ g'
    → numbered.More a b c l x g ≡ numbered.More a' b' c' l' x' g'
more_alike p q r t u v = cc

not_own : (b d i : ℕ) → (i < b) ⊎ (b + suc d ≤ i) → i ≢ b
not_own b d i (inl p) e = omega arith
not_own b d i (inr p) e = omega arith

-- what the inner contents of ring i are stepped from
pub more_ready :
    (rs : List Ring) (i d m h : ℕ) → Ready rs i d m 1 (kind.More i) h
    → Ready rs (i + 1) (d - 1) (side_len (ring_at rs i)) 1 (ring_at rs i).inner (h + 3)
more_ready rs i zero m h r = absurd r.placed.own
more_ready rs i (suc d) m h r =
    let f = r.placed.fits in
    let len : m ≡ 3 + side_len (ring_at rs i) = f.1 in
    let two : 2 ≤ side_len (ring_at rs i) = f.2 in
    let few = r.few in
    let deep = r.deep in
    let free = r.free in
    let room = r.placed.room in
    let next : suc i ≡ i + 1 = omega arith in
    let less : d ≡ suc d - 1 = omega arith in
    let inner : Placed rs (suc i) d (side_len (ring_at rs i)) (ring_at rs i).inner
    = record { fits = f.4; own = r.placed.own.1; room = omega arith; equal = r.placed.equal.1 } in
    record {
      placed =
          subst (λ (x : ℕ × ℕ). Placed rs x.0 x.1 (side_len (ring_at rs i)) (ring_at rs i).inner) (λ j. (next j, less j)) inner;
      some = omega arith;
      few = omega arith;
      deep = omega arith;
      free = omega arith;
    }

pub some_deep : (rs : List Ring) (i d m h : ℕ) → Ready rs i d m 1 (kind.More i) h → 1 ≤ d
some_deep rs i zero m h r = absurd r.placed.own
some_deep rs i (suc d) m h r = omega arith

-- the ring that contents step from is as it was after its inner contents stepped
pub then_read :
    (rs rs1 : List Ring) (i d m h h' : ℕ) (t : TriangleContents) → Steps rs (i + 1) 1 (ring_at rs i).inner (h + 3) rs1 t h'
    → Ready rs i d m 1 (kind.More i) h → ring_at rs1 i ≡ ring_at rs i
then_read rs rs1 i d m h h' t s r =
    (s (d - 1) (side_len (ring_at rs i)) (more_ready rs i d m h r)).others i (inl (omega arith))

-- and has room for three vertices more
pub few_sides : (rs : List Ring) (i d m h : ℕ) → Ready rs i d m 1 (kind.More i) h → length (on_sides (ring_at rs i)) ≤ 24
few_sides rs i zero m h r = absurd r.placed.own
few_sides rs i (suc d) m h r =
    let f = r.placed.fits in
    let len : m ≡ 3 + side_len (ring_at rs i) = f.1 in
    let few = r.few in
    omega (arith, r.placed.equal.0)

-- a ring with other contents inside
abbrev with_inner : Ring → TriangleContents → Ring
with_inner g t = record { a = g.a; b = g.b; c = g.c; sides = g.sides; inner = t }

pub more_moves :
    (rs rs1 : List Ring) (i d m h h' : ℕ) (g : Ring) (t : TriangleContents) → LongerRing (ring_at rs i) h g
    → Steps rs (i + 1) 1 (ring_at rs i).inner (h + 3) rs1 t h' → Ready rs i d m 1 (kind.More i) h
    → Moves rs i d m 1 (kind.More i) h (set rs1 i (with_inner g t)) (kind.More i) h'
more_moves rs rs1 i zero m h h' g t l s r = absurd r.placed.own
more_moves rs rs1 i (suc d) m h h' g t l s r =
    let q : Ring = with_inner g t in
    let f = r.placed.fits in
    let L : ℕ = side_len (ring_at rs i) in
    let len : m ≡ 3 + L = f.1 in
    let two : 2 ≤ L = f.2 in
    let few = r.few in
    let next : i + 1 ≡ suc i = omega arith in
    let less : suc d - 1 ≡ d = omega arith in
    let free : h + 3 ≡ suc (suc (suc h)) = omega arith in
    let v : Moves rs (suc i) d L 1 (ring_at rs i).inner (suc (suc (suc h))) rs1 t h'
    = subst (λ (x : ℕ × ℕ × ℕ). Moves rs x.0 x.1 L 1 (ring_at rs i).inner x.2 rs1 t h')
    (λ j. (next j, less j, free j)) (s (suc d - 1) L (more_ready rs i (suc d) m h r)) in
    let within : i < length rs1 = omega (arith, f.0, v.long) in
    let equal : Equal (ring_at rs i) = r.placed.equal.0 in
    let long : length (on_sides g) ≡ 3 * (L + 1) = ap length l.sides_are ∙ longer (on_sides (ring_at rs i)) L h (suc h) (suc (suc h)) equal in
    let more : L + 1 ≡ side_len g = sym (third (length (on_sides g)) (L + 1) long) in
    let one : side_len g ≡ suc L = omega (arith, more) in
    let low : 2 ≤ side_len g = omega arith in
    let nine : side_len g ≤ 9 = omega arith in
    let still : Equal q = omega (arith, long, more) in
    let inner : Placed rs1 (suc i) d (side_len g) t = subst (λ (n : ℕ). Placed rs1 (suc i) d n t) more v.placed in
    let count : 3 + side_len g ≡ m + 1 = omega arith in
    record {
      held_is =
          around_held rs1 i d q within inner low nine still ∙ more_alike l.a_is l.b_is l.c_is one l.sides_are v.held_is;
      next_is = omega (arith, v.next_is);
      placed = subst (λ (n : ℕ). Placed (set rs1 i q) i (suc d) n (kind.More i)) count (around_placed rs1 i d q within inner low nine still);
      long = length-set rs1 i q ∙ v.long;
      others = λ k o. get_or-set_other rs1 i k q no_ring (not_own i d k o) ∙ v.others k (other k o);
    }
  where
    other : (k : ℕ) → (k < i) ⊎ (i + suc d ≤ k) → (k < suc i) ⊎ (suc i + d ≤ k)
    other k (inl p) = inl (omega arith)
    other k (inr p) = inr (omega arith)
