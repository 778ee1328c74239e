-- A question that is asked triangle by triangle: the first no, and that there is no other.
use Rattle.std.proofs.Common.{◌≡◌, ℕ, suc, ◌<◌, ◌≤◌, Bool, true, false, cond, T, ◌⊎◌, List, [], ◌∷◌, ◌++◌, length, take, drop, Some, None, Option, sym, refl, ap, ◌∙◌, subst, inl, inr, append_assoc, append-nil, arith, length-append, take-append-drop}
use native.Mathlib.Decide.{dec_le}
use lib.Seq.{take-append-le}
use Rattle.shape.specs.declared.triangle.Triangle.{Triangle}
use Rattle.shape.specs.Lists.{Each}
use Rattle.shape.specs.Verdict.{FailsFirstAt}
use Rattle.questions.specs.declared.question.Question.{Question}
use Rattle.questions.specs.Tests.{passes, first_no}
use Rattle.questions.proofs.FirstNo.{first_no_from, is_first_no}

pub order : (s t : ℕ) → (s < t) ⊎ ((s ≡ t) ⊎ (t < s))
order s t = go (dec_le (suc s) t) (dec_le (suc t) s)
  where
    go : Dec (suc s ≤ t) → Dec (suc t ≤ s) → (s < t) ⊎ ((s ≡ t) ⊎ (t < s))
    go (yes p) d = inl (omega arith)
    go (no f) (yes p) = inr (inr (omega arith))
    go (no f) (no g) = inr (inl (omega arith))

-- Q of one triangle more: exactly if the test passes, where D is known of every triangle
pub record Stepwise (Q : List Triangle → Type 0) (D : Triangle → Type 0) (test : List Triangle → Triangle → Bool) : Type 0 where
  pub start : Q []
  pub adds : (l : List Triangle) (x : Triangle) → Each D l → D x → Q l → T (test l x) → Q (l ++ x ∷ [])
  pub needs : (l : List Triangle) (x : Triangle) → Each D l → D x → Q (l ++ x ∷ []) → T (test l x)
  pub keeps : (l : List Triangle) (x : Triangle) → Q (l ++ x ∷ []) → Q l

abbrev pub FirstAnswer : (List Triangle → Type 0) → List Triangle → Option ℕ → Type 0
FirstAnswer Q ts None = Q ts
FirstAnswer Q ts (Some t) = FailsFirstAt Q ts t

module _ {X : Type 0} (D : X → Type 0) where
  pub each_left : (l m : List X) → Each D (l ++ m) → Each D l
  each_left [] m e = tt
  each_left (x ∷ l) m e = (e.0, each_left l m e.1)

  pub each_right : (l m : List X) → Each D (l ++ m) → Each D m
  each_right [] m e = e
  each_right (x ∷ l) m e = each_right l m e.1

  pub each_join : (l m : List X) → Each D l → Each D m → Each D (l ++ m)
  each_join [] m d e = e
  each_join (x ∷ l) m d e = (d.0, each_join l m d.1 e)

module _ {Q : List Triangle → Type 0} {D : Triangle → Type 0} (q : Question) (S : Stepwise Q D (passes q)) where
  take_front : (s : ℕ) (l m : List Triangle) → s < length l → take (suc s) (l ++ m) ≡ take (suc s) l
  take_front s l m h = let k : suc s ≤ length l = omega arith in take-append-le (suc s) l m k

  take_last : (l : List Triangle) (x : Triangle) (m : List Triangle) → take (suc (length l)) (l ++ x ∷ m) ≡ l ++ x ∷ []
  take_last [] x m = refl
  take_last (y ∷ l) x m = ap (λ v. y ∷ v) (take_last l x m)

  -- Q of each beginning of l that is not empty
  abbrev Begins : List Triangle → Type 0
  Begins l = (s : ℕ) → s < length l → Q (take (suc s) l)

  begins_more : (l : List Triangle) (x : Triangle) → Begins l → Q (l ++ x ∷ []) → Begins (l ++ x ∷ [])
  begins_more l x b k s h = go (order s (length l))
    where
      go : (s < length l) ⊎ ((s ≡ length l) ⊎ (length l < s)) → Q (take (suc s) (l ++ x ∷ []))
      go (inl m) = subst Q (sym (take_front s l (x ∷ []) m)) (b s m)
      go (inr (inl e)) = subst Q (sym (ap (λ n. take (suc n) (l ++ x ∷ [])) e ∙ take_last l x [])) k
      go (inr (inr m)) = absurd (let z : ⊥ = omega (arith, length-append l (x ∷ [])) in z)

  found : (l xs : List Triangle) → Each D (l ++ xs) → Q l → Begins l → FirstAnswer Q (l ++ xs) (first_no_from q l xs)
  found l [] d k b = subst Q (sym (append-nil l)) k
  found l (x ∷ xs) d k b = go (passes q l x) refl (found (l ++ x ∷ []) xs)
    where
      e : (l ++ x ∷ []) ++ xs ≡ l ++ x ∷ xs
      e = append_assoc l (x ∷ []) xs

      dx : D x
      dx = (each_right D l (x ∷ xs) d).0

      dl : Each D l
      dl = each_left D l (x ∷ xs) d

      go :
          (b? : Bool) → passes q l x ≡ b?
          → (Each D ((l ++ x ∷ []) ++ xs) → Q (l ++ x ∷ []) → Begins (l ++ x ∷ []) → FirstAnswer Q ((l ++ x ∷ []) ++ xs) (first_no_from q (l ++ x ∷ []) xs))
          → FirstAnswer Q (l ++ x ∷ xs) (cond b? (first_no_from q (l ++ x ∷ []) xs) (Some (length l)))
      go true p rest =
          let more : Q (l ++ x ∷ []) = S.adds l x dl dx k (subst T (sym p) tt) in
          subst (λ (m : List Triangle). FirstAnswer Q m (first_no_from q (l ++ x ∷ []) xs)) e
          (rest (subst (Each D) (sym e) d) more (begins_more l x b more))
      go false p rest =
          record {
            there = omega (arith, length-append l (x ∷ xs));
            fails = λ y. subst T p (S.needs l x dl dx (subst Q (take_last l x xs) y));
            not_before = λ s h. subst Q (sym (take_front s l (x ∷ xs) h)) (b s h);
          }

  pub first_no_lem : (ts : List Triangle) → Each D ts → FirstAnswer Q ts (first_no q ts)
  first_no_lem ts d =
      subst (FirstAnswer Q ts) (sym (is_first_no q ts)) (found [] ts d S.start (λ s h. absurd (let z : ⊥ = omega arith in z)))

  drops : (l xs : List Triangle) → Q (l ++ xs) → Q l
  drops l [] k = subst Q (append-nil l) k
  drops l (x ∷ xs) k = S.keeps l x (drops (l ++ x ∷ []) xs (subst Q (sym (append_assoc l (x ∷ []) xs)) k))

  front : (s : ℕ) (ts : List Triangle) → Q ts → Q (take s ts)
  front s ts k = drops (take s ts) (drop s ts) (subst Q (sym (take-append-drop s ts)) k)

  same_first : (ts : List Triangle) (s t : ℕ) → FailsFirstAt Q ts s → FailsFirstAt Q ts t → s ≡ t
  same_first ts s t f g = go (order s t)
    where
      go : (s < t) ⊎ ((s ≡ t) ⊎ (t < s)) → s ≡ t
      go (inl h) = absurd (f.fails (g.not_before s h))
      go (inr (inl e)) = e
      go (inr (inr h)) = absurd (g.fails (f.not_before t h))

  pub one_answer : (ts : List Triangle) (o p : Option ℕ) → FirstAnswer Q ts o → FirstAnswer Q ts p → o ≡ p
  one_answer ts None None f g = refl
  one_answer ts None (Some t) f g = absurd (g.fails (front (suc t) ts f))
  one_answer ts (Some s) None f g = absurd (f.fails (front (suc s) ts g))
  one_answer ts (Some s) (Some t) f g = ap Some (same_first ts s t f g)
