-- Weights of lists, and counts as weights.
use mathlib.Core.Path.{◌≡◌, refl, sym, ◌∙◌, ap, ap₂}
use mathlib.Core.List.{List, [], ◌∷◌, ◌++◌}
use mathlib.Core.Bool.{Bool, true, false}
use Prim.Native.Nat.{ℕ, ◌+◌}
use native.Mathlib.Nat.{zero-add, add_assoc}
use native.Mathlib.Omega.{arith}
use lib.Dec.{T}
use Rattle.pattern.specs.Sides.{Side, same, count, joins, back}
use Rattle.shape.specs.Sides.{both, tick}

module _ {Y : Type 0} where
  abbrev pub weigh : (Y → ℕ) → List Y → ℕ
  weigh w [] = 0
  weigh w (s ∷ l) = w s + weigh w l

  -- the same sides, each as often
  abbrev pub Alike : List Y → List Y → Type 0
  Alike l m = (w : Y → ℕ) → weigh w l ≡ weigh w m

  pub weigh-++ : (w : Y → ℕ) (l m : List Y) → weigh w (l ++ m) ≡ weigh w l + weigh w m
  weigh-++ w [] m = sym (zero-add (weigh w m))
  weigh-++ w (s ∷ l) m = ap (λ n. w s + n) (weigh-++ w l m) ∙ sym (add_assoc (w s) (weigh w l) (weigh w m))

  abbrev pub every : (Y → Bool) → List Y → Bool
  every f [] = true
  every f (s ∷ l) = both (f s) (every f l)

  abbrev pub two_ways : List (Side Y) → List (Side Y)
  two_ways l = l ++ back l

pub both_left : (a b : Bool) → T (both a b) → T a
both_left true b t = tt
both_left false b t = t

pub both_right : (a b : Bool) → T (both a b) → T b
both_right true b t = t
both_right false b t = absurd t

pub both_in : (a b : Bool) → T a → T b → T (both a b)
both_in true true s t = tt
both_in true false s t = t
both_in false b s t = s

both_comm : (a b : Bool) → both a b ≡ both b a
both_comm true true = refl
both_comm true false = refl
both_comm false true = refl
both_comm false false = refl

pub tick_add : (b : Bool) (n : ℕ) → tick b n ≡ tick b 0 + n
tick_add true n = omega arith
tick_add false n = omega arith

module _ {X : Type 0} (eq : X → X → Bool) where
  abbrev pub hit : X → X → Side X → ℕ
  hit p q s = tick (same eq p q s) 0

  pub count_weigh : (p q : X) (l : List (Side X)) → count eq p q l ≡ weigh (hit p q) l
  count_weigh p q [] = refl
  count_weigh p q (s ∷ l) = tick_add (same eq p q s) (count eq p q l) ∙ ap (λ n. hit p q s + n) (count_weigh p q l)

  pub count_alike : (l m : List (Side X)) → Alike l m → (p q : X) → count eq p q l ≡ count eq p q m
  count_alike l m e p q = count_weigh p q l ∙ e (hit p q) ∙ sym (count_weigh p q m)

  pub count-++ : (p q : X) (l m : List (Side X)) → count eq p q (l ++ m) ≡ count eq p q l + count eq p q m
  count-++ p q l m =
      count_weigh p q (l ++ m) ∙ weigh-++ (hit p q) l m
      ∙ ap₂ (λ x y. x + y) (sym (count_weigh p q l)) (sym (count_weigh p q m))

  pub count_back : (p q : X) (l : List (Side X)) → count eq p q (back l) ≡ count eq q p l
  count_back p q [] = refl
  count_back p q (s ∷ l) = ap₂ tick (both_comm (eq p s.1) (eq q s.0)) (count_back p q l)

  pub count_two_ways : (p q : X) (l : List (Side X)) → count eq p q (two_ways l) ≡ joins eq p q l
  count_two_ways p q l = count-++ p q l (back l) ∙ ap (λ n. count eq p q l + n) (count_back p q l)
