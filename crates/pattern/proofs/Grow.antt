-- A step takes the contents of one count to those of the next, and its new vertices are the next free ones.
use mathlib.Core.Path.{refl, ◌∙◌}
use mathlib.Core.List.{[], ◌∷◌, ◌++◌}
use Prim.Native.Nat.{ℕ, suc, ◌≤◌}
use native.Mathlib.Omega.{arith}
use lib.ListN.{length-append}
use Rattle.pattern.specs.Laws.{StepLaw, StepsSound}
use Rattle.pattern.proofs.Occurrences.{occ_alike, occ-++}
use Rattle.pattern.proofs.Sized.{Sized, sized_0, sized_1, sized_2, sized_3, sized_4, sized_more}
use Rattle.pattern.specs.Step.{NumberedContents, None, One, Three, Six, More, view, taken, step, vertices, range, OfCount, of_0, of_1, of_2, of_3, of_4, of_more}
use Rattle.pattern.proofs.Count.{Alike, weigh-++}

pub sized : (n : ℕ) (g : NumberedContents) → OfCount n g → Sized n (view g)
sized n g of_0 = sized_0
sized n g of_1 = sized_1
sized n g of_2 = sized_2
sized n g of_3 = sized_3
sized n g of_4 = sized_4
sized n g (of_more {k = k} {t = t} e r) = sized_more (sized (suc (suc k)) t r)

-- no step is taken from count 0 to 1
pub step_of_count : (h n : ℕ) (g : NumberedContents) → 1 ≤ n → OfCount n g → OfCount (suc n) (step h g)
step_of_count h n g l of_0 = absurd (let z : ⊥ = omega arith in z)
step_of_count h n g l of_1 = of_2
step_of_count h n g l of_2 = of_3
step_of_count h n g l of_3 = of_4
step_of_count h n g l of_4 = of_more refl of_2
step_of_count h n g l (of_more {k = k} {sides = sides} {t = t} e r) =
    of_more (omega (arith, length-append sides (h ∷ suc h ∷ suc (suc h) ∷ []))) (step_of_count (suc (suc (suc h))) (suc (suc k)) t (omega arith) r)

pub step_fresh : (h : ℕ) (g : NumberedContents) → Alike (vertices (step h g)) (vertices g ++ range h (taken g))
step_fresh h None w = refl
step_fresh h (One x) w = refl
step_fresh h (Three a b c) w = refl
step_fresh h (Six a b c ab bc ca) w = refl
step_fresh h (More a b c L sides t) w =
    let r = step_fresh (suc (suc (suc h))) t w in
    omega (
      arith,
      weigh-++ w (sides ++ (h ∷ suc h ∷ suc (suc h) ∷ [])) (vertices (step (suc (suc (suc h))) t)),
      weigh-++ w sides (h ∷ suc h ∷ suc (suc h) ∷ []),
      weigh-++ w (sides ++ vertices t) (range h (suc (suc (suc (taken t))))),
      weigh-++ w sides (vertices t),
      weigh-++ w (vertices t) (range (suc (suc (suc h))) (taken t)),
    )

step_law : (h n : ℕ) (g : NumberedContents) → 1 ≤ n → OfCount n g → StepLaw h n g
step_law h n g l r =
    record {
      next_count = step_of_count h n g l r;
      vertex = λ x.
          occ_alike (vertices (step h g)) (vertices g ++ range h (taken g)) (step_fresh h g) x ∙ occ-++ x (vertices g) (range h (taken g));
    }

pub steps_sound : StepsSound
steps_sound = (step_law, λ h a b c ab bc ca. (refl, refl))
