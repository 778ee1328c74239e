-- A list copied element after element.
use Rattle.std.proofs.Common.{◌≡◌, ℕ, ◌+◌, List, [], ◌∷◌, ◌++◌, take, Some, sym, ap, ◌∙◌}
use Rattle.std.proofs.lemmas.List.{take_more}
use Rattle.shape.specs.Lists.{At}

pub one_more :
    {X : Type 0} (l m n : List X) (i : ℕ) (x : X) → At l i (Some x) → m ≡ take i l → n ≡ m ++ (x ∷ []) → n ≡ take (i + 1) l
one_more l m n i x h e f =
    f ∙ ap (λ k. k ++ (x ∷ [])) e ∙ ap (λ y. take i l ++ (y ∷ [])) (sym h.1) ∙ sym (take_more l i x h.0)
