-- From spots to vertices: how often a side of vertices occurs is how often the side of spots does.
use mathlib.Core.Path.{◌≡◌, refl, sym, ◌∙◌, ap, ap₂, subst}
use mathlib.Core.List.{List, [], ◌∷◌, map}
use mathlib.Core.Bool.{Bool, true, false}
use Prim.Native.Nat.{ℕ, ◌+◌, ◌≤◌}
use native.Mathlib.Omega.{arith}
use lib.Dec.{T, eqb, eqb→eq, eqb_refl}
use Rattle.pattern.specs.Sides.{Side, same, count, map_side}
use Rattle.shape.specs.Sides.{both, tick}
use Rattle.pattern.specs.Spot.{Spot, eq_spot, is_spot, ends}
use Rattle.pattern.proofs.Meeting.{Apart}
use Rattle.pattern.proofs.Count.{weigh, Alike, every, both_left, both_right, both_in}
use Rattle.pattern.proofs.Sort.{eq_spot→eq}

-- ---- an equation of lists, up to order, goes over to the renamed lists, whatever the names
pub weigh_map : {X Y : Type 0} (g : X → Y) (w : Y → ℕ) (l : List X) → weigh w (map g l) ≡ weigh (λ x. w (g x)) l
weigh_map g w [] = refl
weigh_map g w (x ∷ l) = ap (λ n. w (g x) + n) (weigh_map g w l)

pub alike_map : {X Y : Type 0} (g : X → Y) (l m : List X) → Alike l m → Alike (map g l) (map g m)
alike_map g l m e w = weigh_map g w l ∙ e (λ x. w (g x)) ∙ sym (weigh_map g w m)

eq_spot_refl : (p : Spot) → T (eq_spot p p)
eq_spot_refl p =
    both_in (eqb p.2 p.2) (both (eqb p.1 p.1) (eqb p.0 p.0)) (eqb_refl p.2)
    (both_in (eqb p.1 p.1) (eqb p.0 p.0) (eqb_refl p.1) (eqb_refl p.0))

-- ---- where the names are different at different spots, the counts are the same
bool_path : (a b : Bool) → (T a → T b) → (T b → T a) → a ≡ b
bool_path true true f g = refl
bool_path true false f g = absurd (f tt)
bool_path false true f g = absurd (g tt)
bool_path false false f g = refl

module _ (n : ℕ) (f : Spot → ℕ) (inj : Apart n f) where
  eqb_map : (p q : Spot) → T (is_spot n p) → T (is_spot n q) → eqb (f p) (f q) ≡ eq_spot p q
  eqb_map p q i j =
      bool_path (eqb (f p) (f q)) (eq_spot p q)
      (λ t. subst (λ (x : Spot). T (eq_spot p x)) (inj p q i j (eqb→eq (f p) (f q) t)) (eq_spot_refl p))
      (λ t. subst (λ (x : Spot). T (eqb (f p) (f x))) (eq_spot→eq p q t) (eqb_refl (f p)))

  pub count_map :
      (p q : Spot) → T (is_spot n p) → T (is_spot n q) → (l : List (Side Spot)) → T (every (ends n) l)
      → count eqb (f p) (f q) (map (map_side f) l) ≡ count eq_spot p q l
  count_map p q i j [] t = refl
  count_map p q i j (s ∷ l) t =
      let h : T (ends n s) = both_left (ends n s) (every (ends n) l) t in
      ap₂ tick
      (ap₂ both (eqb_map p s.0 i (both_left (is_spot n s.0) (is_spot n s.1) h))
      (eqb_map q s.1 j (both_right (is_spot n s.0) (is_spot n s.1) h)))
      (count_map p q i j l (both_right (ends n s) (every (ends n) l) t))

-- ---- a side of the renamed list comes from one of the list
pub record From (f : Spot → ℕ) (P Q : ℕ) (l : List (Side Spot)) : Type 0 where
  pub p : Spot
  pub q : Spot
  pub is_P : P ≡ f p
  pub is_Q : Q ≡ f q
  pub occurs : 1 ≤ count eq_spot p q l

tick_true : (b : Bool) (n : ℕ) → T b → 1 ≤ tick b n
tick_true true n t = omega arith
tick_true false n t = absurd t

tick_more : (b : Bool) (n : ℕ) → 1 ≤ n → 1 ≤ tick b n
tick_more true n h = omega arith
tick_more false n h = h

same_refl : (s : Side Spot) → T (same eq_spot s.0 s.1 s)
same_refl s = both_in (eq_spot s.0 s.0) (eq_spot s.1 s.1) (eq_spot_refl s.0) (eq_spot_refl s.1)

same_vertex→eq : (P Q : ℕ) (s : Side ℕ) → T (same eqb P Q s) → (P, Q) ≡ s
same_vertex→eq P Q s t =
    ap₂ (λ x y. (x, y)) (eqb→eq P s.0 (both_left (eqb P s.0) (eqb Q s.1) t))
    (eqb→eq Q s.1 (both_right (eqb P s.0) (eqb Q s.1) t))

from_step :
    (f : Spot → ℕ) (P Q : ℕ) (s : Side Spot) (l : List (Side Spot)) (b : Bool) (m : ℕ)
    → (T b → (P, Q) ≡ map_side f s) → (1 ≤ m → From f P Q l) → 1 ≤ tick b m → From f P Q (s ∷ l)
from_step f P Q s l true m e r h =
    record {
      p = s.0;
      q = s.1;
      is_P = ap (λ u. u.0) (e tt);
      is_Q = ap (λ u. u.1) (e tt);
      occurs = tick_true (same eq_spot s.0 s.1 s) (count eq_spot s.0 s.1 l) (same_refl s);
    }
from_step f P Q s l false m e r h =
    let o : From f P Q l = r h in
    record { p = o.p; q = o.q; is_P = o.is_P; is_Q = o.is_Q; occurs = tick_more (same eq_spot o.p o.q s) (count eq_spot o.p o.q l) o.occurs }

pub from : (f : Spot → ℕ) (P Q : ℕ) (l : List (Side Spot)) → 1 ≤ count eqb P Q (map (map_side f) l) → From f P Q l
from f P Q [] h = absurd (let z : ⊥ = omega arith in z)
from f P Q (s ∷ l) h =
    from_step f P Q s l (same eqb P Q (map_side f s)) (count eqb P Q (map (map_side f) l)) (same_vertex→eq P Q (map_side f s)) (from f P Q l) h
