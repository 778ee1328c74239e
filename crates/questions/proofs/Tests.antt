-- Tests that compute, and what it means that one passes.
use Rattle.std.proofs.Common.{◌≡◌, ℕ, Bool, true, false, not, ◌&&◌, ◌||◌, T, eqb, ◌⊎◌, List, [], ◌∷◌, sym, refl, subst, inl, inr, eqb→eq, T_not}
use Rattle.std.specs.List.{list_all}
use lib.Dec.{eqb_refl, not_T}
use Rattle.shape.specs.Lists.{In}

pub and_left : (a b : Bool) → T (a && b) → T a
and_left true b t = tt
and_left false b t = t

pub and_right : (a b : Bool) → T (a && b) → T b
and_right true b t = t
and_right false b t = absurd t

pub and_in : (a b : Bool) → T a → T b → T (a && b)
and_in true b s t = t
and_in false b s t = s

pub or_out : (a b : Bool) → T (a || b) → T a ⊎ T b
or_out true b t = inl tt
or_out false b t = inr t

pub or_left : (a b : Bool) → T a → T (a || b)
or_left true b t = tt
or_left false b t = absurd t

pub or_right : (a b : Bool) → T b → T (a || b)
or_right true b t = tt
or_right false b t = t

pub is_true : (b : Bool) → T b → b ≡ true
is_true true t = refl
is_true false t = absurd t

pub is_false : (b : Bool) → (T b → ⊥) → b ≡ false
is_false true f = absurd (f tt)
is_false false f = refl

pub eq→eqb : (x y : ℕ) → x ≡ y → T (eqb x y)
eq→eqb x y e = subst (λ (z : ℕ). T (eqb x z)) e (eqb_refl x)

pub apart : (x y : ℕ) → T (not (eqb x y)) → x ≡ y → ⊥
apart x y t e = T_not (eqb x y) t (eq→eqb x y e)

pub unequal : (x y : ℕ) → (x ≡ y → ⊥) → T (not (eqb x y))
unequal x y f = not_T (eqb x y) (λ t. f (eqb→eq x y t))

module _ {X : Type 0} (f : X → Bool) where
  pub every_at : (l : List X) → T (list_all f l) → (x : X) → In x l → T (f x)
  every_at [] t x i = absurd i
  every_at (y ∷ l) t x (inl e) = subst (λ z. T (f z)) (sym e) (and_left (f y) (list_all f l) t)
  every_at (y ∷ l) t x (inr i) = every_at l (and_right (f y) (list_all f l) t) x i

  pub every_in : (l : List X) → ((x : X) → In x l → T (f x)) → T (list_all f l)
  every_in [] h = tt
  every_in (x ∷ l) h = and_in (f x) (list_all f l) (h x (inl refl)) (every_in l (λ y i. h y (inr i)))

-- a test that passes exactly where P holds
pub record Decides {X : Type 0} (f : X → Bool) (P : X → Type 0) : Type 0 where
  pub sound : (x : X) → T (f x) → P x
  pub complete : (x : X) → P x → T (f x)
