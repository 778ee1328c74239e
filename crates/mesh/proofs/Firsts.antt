-- First uses of edges, later uses, and uses of edges that are used once.
use Rattle.std.proofs.Common.{◌≡◌, ℕ, ◌+◌, ◌<◌, ◌≤◌, Bool, true, false, cond, eqb, List, [], ◌∷◌, ◌++◌, sym, refl, ap, ◌∙◌, subst, inl, inr, arith}
use native.Mathlib.Decide.{dec_le}
use Rattle.pattern.specs.Sides.{occ, among}
use Rattle.shape.specs.Sides.{Use, use_count}
use Rattle.pattern.proofs.Count.{weigh, weigh-++}
use Rattle.shape.specs.Lists.{In, Each}
use Rattle.mesh.specs.Faces.{first_use}
use Rattle.mesh.proofs.Beside.{use_count-cons, in_use_count}
use Rattle.pattern.proofs.Occurrences.{among_yes, among_no, hits_yes, hits_no, Same?, is, isnt, same?, occ-cons, occ-++}
use Rattle.mesh.proofs.Sum.{same_weight}

-- ---- was an edge seen
pub data Seen? (e : ℕ) (l : List ℕ) : Type 0 where
  old : 1 ≤ occ e l → among eqb e l ≡ true → Seen? e l
  new : occ e l ≡ 0 → among eqb e l ≡ false → Seen? e l

pub seen? : (e : ℕ) (l : List ℕ) → Seen? e l
seen? e l = go (dec_le 1 (occ e l))
  where
    go : Dec (1 ≤ occ e l) → Seen? e l
    go (yes c) = old c (among_yes e l c)
    go (no c) = let z : occ e l ≡ 0 = omega arith in new z (among_no e l z)

abbrev pub firsts : List ℕ → List Use → List ℕ
firsts seen [] = []
firsts seen (u ∷ us) = cond (among eqb u.edge seen) (firsts (u.edge ∷ seen) us) (u.edge ∷ firsts (u.edge ∷ seen) us)

abbrev pub laters : List ℕ → List Use → List ℕ
laters seen [] = []
laters seen (u ∷ us) = cond (among eqb u.edge seen) (u.edge ∷ laters (u.edge ∷ seen) us) (laters (u.edge ∷ seen) us)

-- those whose edge is used once in all
abbrev pub alones : List Use → List Use → List ℕ
alones all [] = []
alones all (u ∷ us) = cond (eqb (use_count u.edge all) 1) (u.edge ∷ alones all us) (alones all us)

-- ---- all below m
BelowCond : (m : ℕ) (b : Bool) (l k : List ℕ) → Each (λ x. x < m) l → Each (λ x. x < m) k → Each (λ x. x < m) (cond b l k)
BelowCond m true l k a b = a
BelowCond m false l k a b = b

pub firsts_below : (m : ℕ) (seen : List ℕ) (us : List Use) → Each (λ u. u.edge < m) us → Each (λ x. x < m) (firsts seen us)
firsts_below m seen [] h = tt
firsts_below m seen (u ∷ us) h =
    let r = firsts_below m (u.edge ∷ seen) us h.1 in
    BelowCond m (among eqb u.edge seen) (firsts (u.edge ∷ seen) us) (u.edge ∷ firsts (u.edge ∷ seen) us) r (h.0, r)

pub laters_below : (m : ℕ) (seen : List ℕ) (us : List Use) → Each (λ u. u.edge < m) us → Each (λ x. x < m) (laters seen us)
laters_below m seen [] h = tt
laters_below m seen (u ∷ us) h =
    let r = laters_below m (u.edge ∷ seen) us h.1 in
    BelowCond m (among eqb u.edge seen) (u.edge ∷ laters (u.edge ∷ seen) us) (laters (u.edge ∷ seen) us) (h.0, r) r

pub alones_below : (m : ℕ) (all us : List Use) → Each (λ u. u.edge < m) us → Each (λ x. x < m) (alones all us)
alones_below m all [] h = tt
alones_below m all (u ∷ us) h =
    let r = alones_below m all us h.1 in
    BelowCond m (eqb (use_count u.edge all) 1) (u.edge ∷ alones all us) (alones all us) (h.0, r) r

below-++ : (m : ℕ) (l k : List ℕ) → Each (λ x. x < m) l → Each (λ x. x < m) k → Each (λ x. x < m) (l ++ k)
below-++ m [] k a b = b
below-++ m (x ∷ l) k a b = (a.0, below-++ m l k a.1 b)

-- ---- how often an edge is in each
pub first_or_later : (e : ℕ) (seen : List ℕ) (us : List Use) → occ e (firsts seen us) + occ e (laters seen us) ≡ use_count e us
first_or_later e seen [] = refl
first_or_later e seen (u ∷ us) = go (among eqb u.edge seen) (first_or_later e (u.edge ∷ seen) us)
  where
    go :
        (b : Bool) → occ e (firsts (u.edge ∷ seen) us) + occ e (laters (u.edge ∷ seen) us) ≡ use_count e us
        → occ e (cond b (firsts (u.edge ∷ seen) us) (u.edge ∷ firsts (u.edge ∷ seen) us)) + occ e (cond b (u.edge ∷ laters (u.edge ∷ seen) us) (laters (u.edge ∷ seen) us))
        ≡ use_count e (u ∷ us)
    go true r = omega (arith, use_count-cons e u us, occ-cons e u.edge (laters (u.edge ∷ seen) us))
    go false r = omega (arith, use_count-cons e u us, occ-cons e u.edge (firsts (u.edge ∷ seen) us))

firsts_none : (e : ℕ) (seen : List ℕ) (us : List Use) → 1 ≤ occ e seen → occ e (firsts seen us) ≡ 0
firsts_none e seen [] h = refl
firsts_none e seen (u ∷ us) h =
    go (seen? u.edge seen) (firsts_none e (u.edge ∷ seen) us (omega (arith, occ-cons e u.edge seen)))
  where
    go : Seen? u.edge seen → occ e (firsts (u.edge ∷ seen) us) ≡ 0 → occ e (firsts seen (u ∷ us)) ≡ 0
    go (old c b) r = ap (λ x. occ e (cond x (firsts (u.edge ∷ seen) us) (u.edge ∷ firsts (u.edge ∷ seen) us))) b ∙ r
    go (new c b) r =
        let ne : e ≡ u.edge → ⊥ = λ d. let z : occ e seen ≡ occ u.edge seen = ap (λ x. occ x seen) d in omega arith in
        ap (λ x. occ e (cond x (firsts (u.edge ∷ seen) us) (u.edge ∷ firsts (u.edge ∷ seen) us))) b
        ∙ (let z : occ e (u.edge ∷ firsts (u.edge ∷ seen) us) ≡ 0 = omega (arith, occ-cons e u.edge (firsts (u.edge ∷ seen) us), hits_no e u.edge ne) in z)

pub firsts_one : (e : ℕ) (seen : List ℕ) (us : List Use) → occ e seen ≡ 0 → 1 ≤ use_count e us → occ e (firsts seen us) ≡ 1
firsts_one e seen [] h c = absurd (let z : ⊥ = omega arith in z)
firsts_one e seen (u ∷ us) h c = go (seen? u.edge seen) (same? e u.edge) (firsts_one e (u.edge ∷ seen) us)
  where
    go :
        Seen? u.edge seen → Same? e u.edge → (occ e (u.edge ∷ seen) ≡ 0 → 1 ≤ use_count e us → occ e (firsts (u.edge ∷ seen) us) ≡ 1)
        → occ e (firsts seen (u ∷ us)) ≡ 1
    go (old d b) (is x y) r = absurd (let z : occ e seen ≡ occ u.edge seen = ap (λ v. occ v seen) x in let w : ⊥ = omega arith in w)
    go (old d b) (isnt x y) r =
        ap (λ v. occ e (cond v (firsts (u.edge ∷ seen) us) (u.edge ∷ firsts (u.edge ∷ seen) us))) b
        ∙ r (omega (arith, occ-cons e u.edge seen, hits_no e u.edge x)) (omega (arith, use_count-cons e u us, hits_no e u.edge x))
    go (new d b) (is x y) r =
        ap (λ v. occ e (cond v (firsts (u.edge ∷ seen) us) (u.edge ∷ firsts (u.edge ∷ seen) us))) b
        ∙ (let k : 1 ≤ occ e (u.edge ∷ seen) = omega (arith, occ-cons e u.edge seen, hits_yes e u.edge x) in
        let z : occ e (u.edge ∷ firsts (u.edge ∷ seen) us) ≡ 1
        = omega (arith, occ-cons e u.edge (firsts (u.edge ∷ seen) us), hits_yes e u.edge x, firsts_none e (u.edge ∷ seen) us k) in z)
    go (new d b) (isnt x y) r =
        ap (λ v. occ e (cond v (firsts (u.edge ∷ seen) us) (u.edge ∷ firsts (u.edge ∷ seen) us))) b
        ∙ (let k = r (omega (arith, occ-cons e u.edge seen, hits_no e u.edge x)) (omega (arith, use_count-cons e u us, hits_no e u.edge x)) in
        let z : occ e (u.edge ∷ firsts (u.edge ∷ seen) us) ≡ 1 = omega (arith, occ-cons e u.edge (firsts (u.edge ∷ seen) us), hits_no e u.edge x) in z)

pub alones_yes : (e : ℕ) (all us : List Use) → use_count e all ≡ 1 → occ e (alones all us) ≡ use_count e us
alones_yes e all [] h = refl
alones_yes e all (u ∷ us) h = go (same? (use_count u.edge all) 1) (alones_yes e all us h)
  where
    go : Same? (use_count u.edge all) 1 → occ e (alones all us) ≡ use_count e us → occ e (alones all (u ∷ us)) ≡ use_count e (u ∷ us)
    go (is x y) r =
        ap (λ v. occ e (cond v (u.edge ∷ alones all us) (alones all us))) y
        ∙ (let z : occ e (u.edge ∷ alones all us) ≡ use_count e (u ∷ us) = omega (arith, occ-cons e u.edge (alones all us), use_count-cons e u us) in z)
    go (isnt x y) r =
        let ne : e ≡ u.edge → ⊥ = λ d. x (ap (λ v. use_count v all) (sym d) ∙ h) in
        ap (λ v. occ e (cond v (u.edge ∷ alones all us) (alones all us))) y
        ∙ (let z : occ e (alones all us) ≡ use_count e (u ∷ us) = omega (arith, use_count-cons e u us, hits_no e u.edge ne) in z)

pub alones_no : (e : ℕ) (all us : List Use) → (use_count e all ≡ 1 → ⊥) → occ e (alones all us) ≡ 0
alones_no e all [] h = refl
alones_no e all (u ∷ us) h = go (same? (use_count u.edge all) 1) (alones_no e all us h)
  where
    go : Same? (use_count u.edge all) 1 → occ e (alones all us) ≡ 0 → occ e (alones all (u ∷ us)) ≡ 0
    go (is x y) r =
        let ne : e ≡ u.edge → ⊥ = λ d. h (ap (λ v. use_count v all) d ∙ x) in
        ap (λ v. occ e (cond v (u.edge ∷ alones all us) (alones all us))) y
        ∙ (let z : occ e (u.edge ∷ alones all us) ≡ 0 = omega (arith, occ-cons e u.edge (alones all us), hits_no e u.edge ne) in z)
    go (isnt x y) r = ap (λ v. occ e (cond v (u.edge ∷ alones all us) (alones all us))) y ∙ r

module _ (us : List Use) (two : (e : ℕ) → use_count e us ≤ 2) where
  pub alones_once : (e : ℕ) → occ e (alones us us) ≤ 1
  alones_once e = go (same? (use_count e us) 1)
    where
      go : Same? (use_count e us) 1 → occ e (alones us us) ≤ 1
      go (is x y) = omega (arith, alones_yes e us us x)
      go (isnt x y) = omega (arith, alones_no e us us x)

  -- a first use is the only one, or there is one later one
  first_is : (e : ℕ) → occ e (firsts [] us) ≡ occ e (alones us us ++ laters [] us)
  first_is e = go (dec_le 1 (use_count e us)) (same? (use_count e us) 1)
    where
      s : occ e (alones us us ++ laters [] us) ≡ occ e (alones us us) + occ e (laters [] us)
      s = occ-++ e (alones us us) (laters [] us)

      t : occ e (firsts [] us) + occ e (laters [] us) ≡ use_count e us
      t = first_or_later e [] us

      go : Dec (1 ≤ use_count e us) → Same? (use_count e us) 1 → occ e (firsts [] us) ≡ occ e (alones us us ++ laters [] us)
      go (yes c) (is x y) = omega (arith, s, t, firsts_one e [] us refl c, alones_yes e us us x)
      go (yes c) (isnt x y) = omega (arith, s, t, firsts_one e [] us refl c, alones_no e us us x, two e)
      go (no c) (is x y) = absurd (let z : ⊥ = omega arith in z)
      go (no c) (isnt x y) = omega (arith, s, t, alones_no e us us x)

  pub firsts_weigh : (m : ℕ) → Each (λ u. u.edge < m) us → (g : ℕ → ℕ) → weigh g (firsts [] us) ≡ weigh g (alones us us) + weigh g (laters [] us)
  firsts_weigh m b g =
      same_weight m g (firsts [] us) (alones us us ++ laters [] us) (firsts_below m [] us b)
      (below-++ m (alones us us) (laters [] us) (alones_below m us us b) (laters_below m [] us b)) first_is
      ∙ weigh-++ g (alones us us) (laters [] us)

-- ---- the first use of an edge
pub first_use_hit : (e : ℕ) (u : Use) (us : List Use) → e ≡ u.edge → first_use e (u ∷ us) ≡ u
first_use_hit e u us d = go (same? e u.edge)
  where
    go : Same? e u.edge → first_use e (u ∷ us) ≡ u
    go (is x y) = ap (λ b. cond b u (first_use e us)) y
    go (isnt x y) = absurd (x d)

pub first_use_miss : (e : ℕ) (u : Use) (us : List Use) → (e ≡ u.edge → ⊥) → first_use e (u ∷ us) ≡ first_use e us
first_use_miss e u us d = go (same? e u.edge)
  where
    go : Same? e u.edge → first_use e (u ∷ us) ≡ first_use e us
    go (is x y) = absurd (d x)
    go (isnt x y) = ap (λ b. cond b u (first_use e us)) y

pub first_use_in : (e : ℕ) (us : List Use) → 1 ≤ use_count e us → In (first_use e us) us × ((first_use e us).edge ≡ e)
first_use_in e [] h = absurd (let z : ⊥ = omega arith in z)
first_use_in e (u ∷ us) h = go (same? e u.edge) (first_use_in e us)
  where
    go : Same? e u.edge → (1 ≤ use_count e us → In (first_use e us) us × ((first_use e us).edge ≡ e)) → In (first_use e (u ∷ us)) (u ∷ us) × ((first_use e (u ∷ us)).edge ≡ e)
    go (is x y) r = (inl (first_use_hit e u us x), ap (λ v. v.edge) (first_use_hit e u us x) ∙ sym x)
    go (isnt x y) r =
        let o = r (omega (arith, use_count-cons e u us, hits_no e u.edge x)) in
        (inr (subst (λ (v : Use). In v us) (sym (first_use_miss e u us x)) o.0), ap (λ v. v.edge) (first_use_miss e u us x) ∙ o.1)

-- the only use of an edge is its first
pub first_use_alone : (u : Use) (us : List Use) → In u us → use_count u.edge us ≡ 1 → first_use u.edge us ≡ u
first_use_alone u [] i c = absurd i
first_use_alone u (v ∷ us) (inl e) c = first_use_hit u.edge v us (ap (λ x. x.edge) e) ∙ sym e
first_use_alone u (v ∷ us) (inr i) c = go (same? u.edge v.edge) (first_use_alone u us i)
  where
    go : Same? u.edge v.edge → (use_count u.edge us ≡ 1 → first_use u.edge us ≡ u) → first_use u.edge (v ∷ us) ≡ u
    go (is x y) r = absurd (let z : ⊥ = omega (arith, use_count-cons u.edge v us, hits_yes u.edge v.edge x, in_use_count u us i) in z)
    go (isnt x y) r = first_use_miss u.edge v us x ∙ r (omega (arith, use_count-cons u.edge v us, hits_no u.edge v.edge x))
