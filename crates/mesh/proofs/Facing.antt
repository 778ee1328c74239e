-- A border as a triangle reads it, forward or backward, and the sides that it shows.
use Rattle.std.proofs.Common.{◌≡◌, ℕ, suc, ◌+◌, ◌-◌, ◌<◌, Bool, true, false, cond, List, [], ◌∷◌, ◌++◌, reverse, length, get_or, sym, refl, ap, ◌∙◌, ap₂, arith}
use mathlib.Core.List.{reverse-cons, reverse-append}
use Rattle.pattern.specs.Place.{turned}
use Rattle.pattern.specs.Sides.{Side, path_from, path_sides, back}
use Rattle.pattern.specs.Ring.{up}
use Rattle.pattern.proofs.Count.{weigh, weigh-++}
use Rattle.pattern.proofs.Fresh.{read_all}
use Rattle.pattern.proofs.Runs.{up_cong, up-snoc}

module _ {Y : Type 0} where
  pub weigh_reverse : (w : Y → ℕ) (l : List Y) → weigh w (reverse l) ≡ weigh w l
  weigh_reverse w [] = refl
  weigh_reverse w (x ∷ l) =
      ap (weigh w) (reverse-cons x l) ∙ weigh-++ w (reverse l) (x ∷ []) ∙ (let r = weigh_reverse w l in let z : weigh w (reverse l) + (w x + 0) ≡ w x + weigh w l = omega arith in z)

back_at : (x m i : ℕ) (l : List ℕ) → i < m → get_or (x ∷ l) (suc m - suc i) 0 ≡ get_or l (m - suc i) 0
back_at x m i l h = ap (λ j. get_or (x ∷ l) j 0) (let z : suc m - suc i ≡ suc (m - suc i) = omega arith in z)

back_run : (l : List ℕ) → up 0 (length l) (λ i. get_or l (length l - suc i) 0 ∷ []) ≡ reverse l
back_run [] = refl
back_run (x ∷ l) =
    let m : ℕ = length l in
    let F : ℕ → List ℕ = λ i. get_or (x ∷ l) (suc m - suc i) 0 ∷ [] in
    up-snoc 0 m F
    ∙ ap₂ (λ a b. a ++ b)
    (up_cong 0 m F (λ i. get_or l (m - suc i) 0 ∷ []) (λ j a b. ap (λ v. v ∷ []) (back_at x m j l (omega arith))) ∙ back_run l)
    (ap (λ v. v ∷ []) (ap (λ j. get_or (x ∷ l) j 0) (let z : suc m - suc (0 + m) ≡ 0 = omega arith in z)))
    ∙ sym (reverse-cons x l)

abbrev pub facing : Bool → List ℕ → List ℕ
facing b l = cond b l (reverse l)

-- the vertices of an edge in the order in which a triangle reads them
pub run_is : (n : ℕ) (l : List ℕ) (b : Bool) → length l ≡ n → up 0 n (λ i. get_or l (turned n b i) 0 ∷ []) ≡ facing b l
run_is n l true e = ap (λ m. up 0 m (λ i. get_or l i 0 ∷ [])) (sym e) ∙ read_all l
run_is n l false e = ap (λ m. up 0 m (λ i. get_or l (m - suc i) 0 ∷ [])) (sym e) ∙ back_run l

pub weigh_facing : (w : ℕ → ℕ) (b : Bool) (l : List ℕ) → weigh w (facing b l) ≡ weigh w l
weigh_facing w true l = refl
weigh_facing w false l = weigh_reverse w l

-- ---- the sides of a reversed path
module _ {Y : Type 0} (w : Side Y → ℕ) where
  from_snoc : (z : Y) (m : List Y) (y x : Y) → weigh w (path_from z ((m ++ (y ∷ [])) ++ (x ∷ []))) ≡ weigh w (path_from z (m ++ (y ∷ []))) + w (y, x)
  from_snoc z [] y x = omega arith
  from_snoc z (v ∷ m) y x = omega (arith, from_snoc v m y x)

  path_snoc : (m : List Y) (y x : Y) → weigh w (path_sides ((m ++ (y ∷ [])) ++ (x ∷ []))) ≡ weigh w (path_sides (m ++ (y ∷ []))) + w (y, x)
  path_snoc [] y x = omega arith
  path_snoc (z ∷ m) y x = from_snoc z m y x

  pub path_reverse : (l : List Y) → weigh w (path_sides (reverse l)) ≡ weigh w (back (path_sides l))
  path_reverse [] = refl
  path_reverse (x ∷ []) = refl
  path_reverse (x ∷ (y ∷ l)) =
      ap (λ m. weigh w (path_sides m)) (reverse-cons x (y ∷ l) ∙ ap (λ m. m ++ (x ∷ [])) (reverse-cons y l))
      ∙ path_snoc (reverse l) y x
      ∙ (let r = ap (λ m. weigh w (path_sides m)) (sym (reverse-cons y l)) ∙ path_reverse (y ∷ l) in
      let z : weigh w (path_sides (reverse l ++ (y ∷ []))) + w (y, x) ≡ w (y, x) + weigh w (back (path_from y l)) = omega arith in z)

-- from p over an edge's vertices, backward, to q: the other way round than from q over them to p
pub backward_is : (p q : ℕ) (l : List ℕ) → p ∷ (reverse l ++ (q ∷ [])) ≡ reverse (q ∷ (l ++ (p ∷ [])))
backward_is p q l =
    sym (reverse-cons q (l ++ (p ∷ [])) ∙ ap (λ m. m ++ (q ∷ [])) (reverse-append l (p ∷ [])))
