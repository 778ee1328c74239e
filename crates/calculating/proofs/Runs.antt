-- Writes in turn, and writes that are the same under other names.
use Rattle.std.proofs.Common.{◌≡◌, ℕ, zero, suc, ◌+◌, ◌<◌, ◌≤◌, true, cond, ltb, leb, List, [], ◌∷◌, ◌++◌, length, get_or, take, drop, set, Bor, sym, refl, ap, ◌∙◌, ap₂, subst, add-zero, zero-add, add-one, append_assoc, take-append-drop, length-set, arith}
use Rattle.std.proofs.lemmas.List.{take_more_set, drop-set-lt}
use lib.Ieee.{Float}
use Rattle.point.specs.declared.Vec3A.{Vec3A}
use Rattle.points.specs.Calculating.{Meaning, Write, put, middle, along, at, run, point_writes}
use Rattle.points.proofs.Listed.{along_stands}
use Rattle.shape.specs.Listing.{share, placed, all_below, listable}
use Rattle.shape.specs.Listing as listing
use Rattle.shape.specs.Lists.{Each}
use Rattle.calculating.specs.declared.calculation.Calculation.{Calculation}
use Rattle.calculating.specs.Calculating.{Makes}
use Rattle.calculating.specs.Rules.{no_point, rules, wrote}

module _ (between : Vec3A → Vec3A → Float → Vec3A) (half : Vec3A → Vec3A → Vec3A) where
  pub wrote-++ : (ws vs : List (Write Vec3A)) (f : List Vec3A) → wrote between half (ws ++ vs) f ≡ wrote between half vs (wrote between half ws f)
  wrote-++ [] vs f = refl
  wrote-++ (put x p ∷ ws) vs f = wrote-++ ws vs (wrote between half (put x p ∷ []) f)
  wrote-++ (middle x p q ∷ ws) vs f = wrote-++ ws vs (wrote between half (middle x p q ∷ []) f)
  wrote-++ (along m xs p q ∷ ws) vs f = wrote-++ ws vs (wrote between half (along m xs p q ∷ []) f)

  -- the points along a list are those that `interpolate_multiple` gives
  pub listed :
      (l : List ℕ) (p q : ℕ) (f new : List Vec3A) → listable l (length f) ≡ true
      → new ≡ cond (listable l (length f)) (listing.along (between (at no_point f p) (at no_point f q)) l f) f
      → new ≡ wrote between half (along (length l) (λ i. get_or l i 0) p q ∷ []) f
  listed l p q f new t e =
      e ∙ ap (λ b. cond b (listing.along (between (at no_point f p) (at no_point f q)) l f) f) t
      ∙ sym (along_stands Vec3A Float share no_point (rules between half) l p q f)

module _ {S : Type 0} {between : S → Vec3A → Vec3A → Float → Vec3A} {half : S → Vec3A → Vec3A → Vec3A} where
  -- first ws, then vs
  pub then :
      {ws vs : List (Write Vec3A)} {old mid new : Calculation S} → Makes between half ws old mid → Makes between half vs mid new
      → Makes between half (ws ++ vs) old new
  then {ws = ws} {vs = vs} {old = old} {mid = mid} v w =
      let b = old.base.now in
      record {
        points_are =
            w.points_are ∙ ap (λ (c : Bor S). wrote (between c.now) (half c.now) vs mid.points.now) v.same_base
            ∙ ap (wrote (between b) (half b) vs) v.points_are ∙ sym (wrote-++ (between b) (half b) ws vs old.points.now);
        as_many = w.as_many ∙ v.as_many;
        same_base = w.same_base ∙ v.same_base;
        same_points = w.same_points ∙ v.same_points;
      }

  -- the same writes under another name
  pub renamed : {ws vs : List (Write Vec3A)} {old new : Calculation S} → ws ≡ vs → Makes between half ws old new → Makes between half vs old new
  renamed {old = old} {new = new} e v = subst (λ (l : List (Write Vec3A)). Makes between half l old new) e v

  -- writes that give the same
  pub alike :
      {ws vs : List (Write Vec3A)} {old new : Calculation S}
      → wrote (between old.base.now) (half old.base.now) ws old.points.now ≡ wrote (between old.base.now) (half old.base.now) vs old.points.now
      → Makes between half ws old new → Makes between half vs old new
  alike e v = record { points_are = v.points_are ∙ e; as_many = v.as_many; same_base = v.same_base; same_points = v.same_points }

all_yes : (l : List ℕ) (n : ℕ) → ((i : ℕ) → get_or l i 0 < n) → all_below l n ≡ true
all_yes [] n h = refl
all_yes (x ∷ l) n h = let z : ltb x n ≡ true = let y : x < n = h 0 in grind arith in rw (z, all_yes l n (λ i. h (suc i)))

pub can_list : (l : List ℕ) (n : ℕ) → length l ≤ 12 → ((i : ℕ) → get_or l i 0 < n) → listable l n ≡ true
can_list l n few h = let z : leb (length l) 3360 ≡ true = grind arith in rw (z, all_yes l n h)

-- points put in a row
put_in_row :
    (M : Meaning Vec3A Float) (i : ℕ) (ps f : List Vec3A) → i + length ps ≤ length f
    → run share no_point M (point_writes i ps) f ≡ take i f ++ (ps ++ drop (i + length ps) f)
put_in_row M i [] f h = sym (ap (λ j. take i f ++ drop j f) (add-zero i) ∙ take-append-drop i f)
put_in_row M i (p ∷ ps) f h =
    let n : ℕ = length ps in
    let lt : i < length f = omega arith in
    let k : suc i + n ≡ i + suc n = omega arith in
    put_in_row M (suc i) ps (set f i p) (omega (arith, length-set f i p))
    ∙ ap₂ (λ x y. x ++ (ps ++ y)) (ap (λ j. take j (set f i p)) (sym (add-one i)) ∙ take_more_set f i p lt)
    (drop-set-lt (suc i + n) f i p (omega arith) ∙ ap (λ j. drop j f) k)
    ∙ append_assoc (take i f) (p ∷ []) (ps ++ drop (i + suc n) f)

pub base_points : (M : Meaning Vec3A Float) (ps f : List Vec3A) → length ps ≤ length f → run share no_point M (point_writes 0 ps) f ≡ ps ++ drop (length ps) f
base_points M ps f h = put_in_row M 0 ps f (omega arith) ∙ ap (λ j. ps ++ drop j f) (zero-add (length ps))

-- what holds of each holds at every place
pub at_place : {X : Type 0} (P : X → Type 0) (xs : List X) (i : ℕ) (d : X) → i < length xs → Each P xs → P (get_or xs i d)
at_place P [] i d h e = absurd (omega arith)
at_place P (x ∷ xs) zero d h e = e.0
at_place P (x ∷ xs) (suc i) d h e = at_place P xs i d (omega arith) e.1
