-- The first triangle at which a question is answered no, as a recursion that carries the triangles before it.
use Rattle.std.proofs.Common.{◌≡◌, ℕ, ◌+◌, Bool, true, false, cond, not, List, [], ◌∷◌, ◌++◌, length, take, Some, None, Option, sym, refl, ap, ◌∙◌, append_assoc, arith, length-append}
use Rattle.std.specs.List.{position_from, enumerate_from}
use Rattle.std.proofs.Math.Seq.{take-append_seam}
use Rattle.std.proofs.lemmas.Iterator.Adapters.{position_from-zero}
use Rattle.shape.specs.declared.triangle.Triangle.{Triangle}
use Rattle.questions.specs.declared.question.Question.{Question}
use Rattle.questions.specs.Tests.{passes, first_no}

-- the first of the triangles behind l, which passed
abbrev pub first_no_from : Question → List Triangle → List Triangle → Option ℕ
first_no_from q l [] = None
first_no_from q l (x ∷ xs) = cond (passes q l x) (first_no_from q (l ++ x ∷ []) xs) (Some (length l))

cond_not : {A : Type 0} (b : Bool) (x y : A) → cond (not b) x y ≡ cond b y x
cond_not true x y = refl
cond_not false x y = refl

module _ (q : Question) (ts : List Triangle) where
  fails : ℕ × Triangle → Bool
  fails p = not (passes q (take p.0 ts) p.1)

  from_there : (l xs : List Triangle) (i : ℕ) → i ≡ length l → ts ≡ l ++ xs → position_from fails i (enumerate_from i xs) ≡ first_no_from q l xs
  unfolding fails
  from_there l [] i e h = refl
  from_there l (x ∷ xs) i e h =
      let before : take i ts ≡ l = ap (λ n. take n ts) e ∙ ap (take (length l)) h ∙ take-append_seam l (x ∷ xs) in
      let more : i + 1 ≡ length (l ++ x ∷ []) = omega (arith, length-append l (x ∷ [])) in
      ap (λ m. cond (not (passes q m x)) (Some i) (position_from fails (i + 1) (enumerate_from (i + 1) xs))) before
      ∙ cond_not (passes q l x) (Some i) (position_from fails (i + 1) (enumerate_from (i + 1) xs))
      ∙ ap (λ r. cond (passes q l x) r (Some i)) (from_there (l ++ x ∷ []) xs (i + 1) more (h ∙ sym (append_assoc l (x ∷ []) xs)))
      ∙ ap (λ n. cond (passes q l x) (first_no_from q (l ++ x ∷ []) xs) (Some n)) e

  pub is_first_no : first_no q ts ≡ first_no_from q [] ts
  unfolding fails
  is_first_no = position_from-zero fails (enumerate_from 0 ts) ∙ from_there [] ts 0 refl refl
