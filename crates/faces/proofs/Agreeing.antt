-- Rings that agree up to m have the same faces: a ring whose edges have m vertices each reads no edge beyond them.
use Rattle.std.proofs.Common.{◌≡◌, ℕ, zero, suc, ◌<◌, List, [], ◌∷◌, ◌++◌, ap₂, arith}
use Rattle.pattern.specs.Ring.{Face, Ring, tips, heels, pairs, ring_faces}
use Rattle.pattern.proofs.Runs.{up_cong}
use Rattle.rings.specs.declared.contents.Side.TheVariants.{Ab, Bc, Ca}
use Rattle.rings.proofs.Agree.{Agree, turns_agree}
use Rattle.faces.specs.Formulas.{ends_after}

join : {l l' k k' : List (Face ℕ)} → l ≡ l' → k ≡ k' → l ++ k ≡ l' ++ k'
join e f = ap₂ (λ x y. x ++ y) e f

face : {p q s p' q' s' : ℕ} → p ≡ p' → q ≡ q' → s ≡ s' → ◌≡◌ {A = List (Face ℕ)} ((p, q, s) ∷ []) ((p', q', s') ∷ [])
face e f g = cc

tips_agree : (m z : ℕ) → z < m → (r s : Ring ℕ) → Agree m r s → tips z r ≡ tips z s
tips_agree m z h =
    turns_agree m (λ t. (t.a, t.ab 0, t.ca z) ∷ []) (λ r s g. face (g.corners Ab) (g.edges Ab 0 (omega arith)) (g.edges Ca z h))

heels_agree : (m z : ℕ) → z < m → (r s : Ring ℕ) → Agree m r s → heels z r ≡ heels z s
heels_agree m z h =
    turns_agree m (λ t. (t.ab 0, t.AB 0, t.ca z) ∷ []) (λ r s g. face (g.edges Ab 0 (omega arith)) (g.inners Ab 0) (g.edges Ca z h))

pairs_agree : (m i : ℕ) → suc i < m → (r s : Ring ℕ) → Agree m r s → pairs i r ≡ pairs i s
pairs_agree m i h =
    turns_agree m (λ t. (t.ab i, t.ab (suc i), t.AB i) ∷ (t.ab (suc i), t.AB (suc i), t.AB i) ∷ [])
    (λ r s g.
    join (face (g.edges Ab i (omega arith)) (g.edges Ab (suc i) h) (g.inners Ab i))
    (face (g.edges Ab (suc i) h) (g.inners Ab (suc i)) (g.inners Ab i)))

ends_agree : (m k : ℕ) → suc k < m → (r s : Ring ℕ) → Agree m r s → ends_after k r ≡ ends_after k s
ends_agree m k h =
    turns_agree m (λ t. (t.ab (suc k), t.AB k, t.ab k) ∷ []) (λ r s g. face (g.edges Ab (suc k) h) (g.inners Ab k) (g.edges Ab k (omega arith)))

pub faces_agree : (m : ℕ) (r s : Ring ℕ) → Agree m r s → ring_faces m r ≡ ring_faces m s
faces_agree zero r s g = face (g.corners Ab) (g.corners Bc) (g.corners Ca)
faces_agree (suc zero) r s g =
    join (tips_agree 1 0 (omega arith) r s g) (face (g.edges Ab 0 (omega arith)) (g.edges Bc 0 (omega arith)) (g.edges Ca 0 (omega arith)))
faces_agree (suc (suc zero)) r s g =
    join (tips_agree 2 1 (omega arith) r s g) (join (ends_agree 2 0 (omega arith) r s g) (heels_agree 2 1 (omega arith) r s g))
faces_agree (suc (suc (suc k))) r s g =
    let m : ℕ = suc (suc (suc k)) in
    join (tips_agree m (suc (suc k)) (omega arith) r s g)
    (join (heels_agree m (suc (suc k)) (omega arith) r s g)
    (join (up_cong 0 (suc k) (λ i. pairs i r) (λ i. pairs i s) (λ i l h. pairs_agree m i (omega arith) r s g))
    (ends_agree m (suc k) (omega arith) r s g)))
