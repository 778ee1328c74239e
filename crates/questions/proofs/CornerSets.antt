-- Question 8: all triangles have different sets of corners.
use Rattle.std.proofs.Common.{◌≡◌, ℕ, not, ◌&&◌, ◌||◌, T, eqb, ◌⊎◌, List, [], ◌∷◌, ◌++◌, sym, refl, subst, inl, inr, eqb→eq, T_not}
use lib.Dec.{not_T}
use Rattle.shape.specs.declared.triangle.Triangle.{Triangle}
use Rattle.shape.specs.Lists.{In, Each, Pairs}
use Rattle.shape.specs.Sides.{corners}
use Rattle.shape.specs.Questions.{Differ, DifferentSets}
use Rattle.questions.specs.declared.question.Question.TheVariants.{DifferentSets as AsksSets}
use Rattle.questions.specs.Tests.{has_corner, covered, same_corners, pair, passes}
use Rattle.questions.proofs.Tests.{and_left, and_right, and_in, or_out, or_left, or_right, eq→eqb, every_at, every_in}
use Rattle.questions.proofs.Stepwise.{Stepwise}

corner_sound : (t : Triangle) (x : ℕ) → T (has_corner t x) → In x (corners (t ∷ []))
corner_sound t x h = go (or_out (eqb x t.a) (eqb x t.b || eqb x t.c) h)
  where
    next : T (eqb x t.b) ⊎ T (eqb x t.c) → In x (corners (t ∷ []))
    next (inl k) = inr (inl (eqb→eq x t.b k))
    next (inr k) = inr (inr (inl (eqb→eq x t.c k)))

    go : T (eqb x t.a) ⊎ T (eqb x t.b || eqb x t.c) → In x (corners (t ∷ []))
    go (inl k) = inl (eqb→eq x t.a k)
    go (inr k) = next (or_out (eqb x t.b) (eqb x t.c) k)

corner_complete : (t : Triangle) (x : ℕ) → In x (corners (t ∷ [])) → T (has_corner t x)
corner_complete t x (inl e) = or_left (eqb x t.a) (eqb x t.b || eqb x t.c) (eq→eqb x t.a e)
corner_complete t x (inr (inl e)) =
    or_right (eqb x t.a) (eqb x t.b || eqb x t.c) (or_left (eqb x t.b) (eqb x t.c) (eq→eqb x t.b e))
corner_complete t x (inr (inr (inl e))) =
    or_right (eqb x t.a) (eqb x t.b || eqb x t.c) (or_right (eqb x t.b) (eqb x t.c) (eq→eqb x t.c e))
corner_complete t x (inr (inr (inr z))) = absurd z

-- every corner of s is one of t
abbrev Within : Triangle → Triangle → Type 0
Within s t = (x : ℕ) → In x (corners (s ∷ [])) → In x (corners (t ∷ []))

covered_sound : (s t : Triangle) → T (covered s t) → Within s t
covered_sound s t h x i = go i
  where
    k : T (has_corner t s.b && has_corner t s.c)
    k = and_right (has_corner t s.a) (has_corner t s.b && has_corner t s.c) h

    its : (y : ℕ) → x ≡ y → T (has_corner t y) → In x (corners (t ∷ []))
    its y e c = corner_sound t x (subst (λ (z : ℕ). T (has_corner t z)) (sym e) c)

    go : In x (corners (s ∷ [])) → In x (corners (t ∷ []))
    go (inl e) = its s.a e (and_left (has_corner t s.a) (has_corner t s.b && has_corner t s.c) h)
    go (inr (inl e)) = its s.b e (and_left (has_corner t s.b) (has_corner t s.c) k)
    go (inr (inr (inl e))) = its s.c e (and_right (has_corner t s.b) (has_corner t s.c) k)
    go (inr (inr (inr z))) = absurd z

covered_complete : (s t : Triangle) → Within s t → T (covered s t)
covered_complete s t w =
    and_in (has_corner t s.a) (has_corner t s.b && has_corner t s.c) (corner_complete t s.a (w s.a (inl refl)))
    (and_in (has_corner t s.b) (has_corner t s.c) (corner_complete t s.b (w s.b (inr (inl refl)))) (corner_complete t s.c (w s.c (inr (inr (inl refl))))))

differ_sound : (s t : Triangle) → T (not (same_corners s t)) → Differ s t
differ_sound s t h f =
    T_not (same_corners s t) h (and_in (covered s t) (covered t s) (covered_complete s t (λ x. (f x).0)) (covered_complete t s (λ x. (f x).1)))

differ_complete : (s t : Triangle) → Differ s t → T (not (same_corners s t))
differ_complete s t d =
    not_T (same_corners s t)
    (λ h. d (λ x. (covered_sound s t (and_left (covered s t) (covered t s) h) x, covered_sound t s (and_right (covered s t) (covered t s) h) x)))

-- ---- each two of a list with one more
module _ {X : Type 0} (R : X → X → Type 0) where
  each_snoc : (y x : X) (l : List X) → Each (R y) l → R y x → Each (R y) (l ++ x ∷ [])
  each_snoc y x [] e r = (r, tt)
  each_snoc y x (z ∷ l) e r = (e.0, each_snoc y x l e.1 r)

  each_init : (y x : X) (l : List X) → Each (R y) (l ++ x ∷ []) → Each (R y) l × R y x
  each_init y x [] e = (tt, e.0)
  each_init y x (z ∷ l) e = let k = each_init y x l e.1 in ((e.0, k.0), k.1)

  pairs-snoc : (l : List X) (x : X) → Pairs R l → ((s : X) → In s l → R s x) → Pairs R (l ++ x ∷ [])
  pairs-snoc [] x p f = (tt, tt)
  pairs-snoc (y ∷ l) x p f = (each_snoc y x l p.0 (f y (inl refl)), pairs-snoc l x p.1 (λ s i. f s (inr i)))

  pairs_last : (l : List X) (x : X) → Pairs R (l ++ x ∷ []) → (s : X) → In s l → R s x
  pairs_last [] x p s i = absurd i
  pairs_last (y ∷ l) x p s (inl e) = subst (λ z. R z x) (sym e) (each_init y x l p.0).1
  pairs_last (y ∷ l) x p s (inr i) = pairs_last l x p.1 s i

  pairs_init : (l : List X) (x : X) → Pairs R (l ++ x ∷ []) → Pairs R l
  pairs_init [] x p = tt
  pairs_init (y ∷ l) x p = ((each_init y x l p.0).0, pairs_init l x p.1)

pub sets_stepwise : Stepwise DifferentSets (λ _. Unit {0}) (passes AsksSets)
sets_stepwise =
    record {
      start = tt;
      adds = λ l x _ _ k t. pairs-snoc Differ l x k (λ s i. differ_sound s x (every_at (λ s. pair AsksSets s x) l t s i));
      needs = λ l x _ _ k. every_in (λ s. pair AsksSets s x) l (λ s i. differ_complete s x (pairs_last Differ l x k s i));
      keeps = λ l x k. pairs_init Differ l x k;
    }
