-- The strip of a ring with three vertices an edge or more, part by part.
use Rattle.std.proofs.Common.{◌≡◌, ℕ, zero, suc, ◌+◌, ◌-◌, ◌<◌, ◌≤◌, List, [], ◌∷◌, ◌++◌, length, get_or, take, sym, ap, ◌∙◌, ap₂, append_assoc, append-nil, arith}
use Rattle.std.proofs.lemmas.List.{take_more, flat_map_more}
use Rattle.std.specs.List.{flat_map}
use Rattle.pattern.specs.Ring.{Ring, up, zigzag, ring_strip}
use Rattle.rings.specs.declared.contents.Side.{Side}
use Rattle.rings.specs.declared.contents.Side.TheVariants.{Ab, Bc, Ca}
use Rattle.rings.specs.Views.{edge_at, inner_at}

-- positions of one side of the contents, and the way down one edge
abbrev pub side_run : ℕ → Ring ℕ → Side → List ℕ
side_run n r s = up 0 n (λ i. inner_at s r i ∷ [])

abbrev pub descent : ℕ → Ring ℕ → Side → List ℕ
descent z r s = zigzag z (edge_at s r) (inner_at s r)

-- the sides in the order of their runs, and in that of the ways down
abbrev pub sides_up : List Side
sides_up = Ab ∷ Bc ∷ Ca ∷ []

abbrev pub sides_down : List Side
sides_down = Ca ∷ Bc ∷ Ab ∷ []

-- one side more
pub side_more :
    (f : Side → List ℕ) (ss : List Side) (i : ℕ) (d : Side) (g mid new : List ℕ) → i < length ss → mid ≡ g ++ flat_map f (take i ss)
    → new ≡ mid ++ f (get_or ss i d) → new ≡ g ++ flat_map f (take (i + 1) ss)
side_more f ss i d g mid new h e k =
    k ∙ ap (λ l. l ++ f (get_or ss i d)) e ∙ flat_map_more f g (take i ss) (get_or ss i d)
    ∙ sym (ap (λ l. g ++ flat_map f l) (take_more ss i d h))

-- with x and y where the ways down begin
abbrev parts : ℕ → ℕ → Ring ℕ → ℕ → ℕ → List ℕ
parts n z r x y = flat_map (side_run n r) sides_up ++ (x ∷ y ∷ flat_map (descent z r) sides_down)

regroup : (a b c p x y z : List ℕ) → (a ++ (b ++ (c ++ []))) ++ (p ++ (x ++ (y ++ (z ++ [])))) ≡ (((((a ++ b) ++ c) ++ p) ++ x) ++ y) ++ z
regroup a b c p x y z = simp (append_assoc, append-nil)

parts_strip : (m : ℕ) (r : Ring ℕ) → 3 ≤ m → parts (m - 2) (m - 1) r (r.AB 0) (r.ab 0) ≡ ring_strip m r
parts_strip zero r h = absurd (omega arith)
parts_strip (suc zero) r h = absurd (omega arith)
parts_strip (suc (suc zero)) r h = absurd (omega arith)
parts_strip (suc (suc (suc k))) r h =
    let p : suc (suc (suc k)) - 2 ≡ suc k = omega arith in
    let q : suc (suc (suc k)) - 1 ≡ suc (suc k) = omega arith in
    ap₂ (λ n z. parts n z r (r.AB 0) (r.ab 0)) p q
    ∙ regroup (side_run (suc k) r Ab) (side_run (suc k) r Bc) (side_run (suc k) r Ca) (r.AB 0 ∷ r.ab 0 ∷ [])
    (descent (suc (suc k)) r Ca) (descent (suc (suc k)) r Bc) (descent (suc (suc k)) r Ab)

in_turn : (g a d : List ℕ) (x y : ℕ) → (((g ++ a) ++ (x ∷ [])) ++ (y ∷ [])) ++ d ≡ g ++ (a ++ (x ∷ y ∷ d))
in_turn g a d x y = simp append_assoc

-- the runs, x, y, and the ways down, one behind another
pub long_strip :
    (m : ℕ) (r : Ring ℕ) (g s t u v : List ℕ) (x y : ℕ) → 3 ≤ m → s ≡ g ++ flat_map (side_run (m - 2) r) sides_up → x ≡ r.AB 0 → y ≡ r.ab 0
    → t ≡ s ++ (x ∷ []) → u ≡ t ++ (y ∷ []) → v ≡ u ++ flat_map (descent (m - 1) r) sides_down → v ≡ g ++ ring_strip m r
long_strip m r g s t u v x y h a p q b c d =
    d ∙ ap (λ l. l ++ flat_map (descent (m - 1) r) sides_down) (c ∙ ap₂ (λ l z. l ++ (z ∷ [])) (b ∙ ap₂ (λ l z. l ++ (z ∷ [])) a p) q)
    ∙ in_turn g (flat_map (side_run (m - 2) r) sides_up) (flat_map (descent (m - 1) r) sides_down) (r.AB 0) (r.ab 0)
    ∙ ap (λ l. g ++ l) (parts_strip m r h)
