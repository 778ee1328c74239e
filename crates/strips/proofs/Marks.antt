-- A table in which a mark stands for a break, one place longer.
use Rattle.std.proofs.Common.{◌≡◌, ℕ, suc, ◌+◌, ◌-◌, ◌<◌, Bool, true, false, cond, T, eqb, leb, List, [], ◌∷◌, ◌++◌, length, take, set, Ok, Err, refl, ap, ◌∙◌, arith, le→leb, leb→le, le-leb, length-set}
use Rattle.std.proofs.lemmas.List.{take_more_set}
use Rattle.refusal.specs.declared.Refusal.TheVariants.{SinkFull}
use Rattle.mesh.specs.Sinks.{Pushed, Broken}
use Rattle.strips.specs.Marks.{in_front, split_at_marks, mark_sink}
use Rattle.strips.specs.Taking.{taken_or_full}

abbrev Split : Type 0
Split = List (List ℕ) × List ℕ

front_push : (y x : ℕ) (p : Split) → in_front y (p.0, p.1 ++ (x ∷ [])) ≡ ((in_front y p).0, (in_front y p).1 ++ (x ∷ []))
front_push y x ([], o) = refl
front_push y x (s ∷ ss, o) = refl

front_break : (y : ℕ) (p : Split) → in_front y (p.0 ++ (p.1 ∷ []), []) ≡ ((in_front y p).0 ++ ((in_front y p).1 ∷ []), [])
front_break y ([], o) = refl
front_break y (s ∷ ss, o) = refl

abbrev One : Bool → ℕ → Split → Split
One b y p = cond b ([] ∷ p.0, p.1) (in_front y p)

one_push : (b : Bool) (y x : ℕ) (p : Split) → One b y (p.0, p.1 ++ (x ∷ [])) ≡ ((One b y p).0, (One b y p).1 ++ (x ∷ []))
one_push true y x p = refl
one_push false y x p = front_push y x p

one_break : (b : Bool) (y : ℕ) (p : Split) → One b y (p.0 ++ (p.1 ∷ []), []) ≡ ((One b y p).0 ++ ((One b y p).1 ∷ []), [])
one_break true y p = refl
one_break false y p = front_break y p

split_push : (xs : List ℕ) (x : ℕ) → eqb x 4294967295 ≡ false → split_at_marks (xs ++ (x ∷ [])) ≡ ((split_at_marks xs).0, (split_at_marks xs).1 ++ (x ∷ []))
split_push [] x e = ap (λ b. One b x ([], [])) e
split_push (y ∷ xs) x e = ap (One (eqb y 4294967295) y) (split_push xs x e) ∙ one_push (eqb y 4294967295) y x (split_at_marks xs)

split_break : (xs : List ℕ) → split_at_marks (xs ++ (4294967295 ∷ [])) ≡ ((split_at_marks xs).0 ++ ((split_at_marks xs).1 ∷ []), [])
split_break [] = refl
split_break (y ∷ xs) = ap (One (eqb y 4294967295) y) (split_break xs) ∙ one_break (eqb y 4294967295) y (split_at_marks xs)

one_less : (n j k u m : ℕ) → m ≡ n → j ≡ suc k → T (leb j (n - u)) → T (leb k (m - (u + 1)))
one_less n j k u m e f t = let z = leb→le j (n - u) t in le→leb k (m - (u + 1)) (omega arith)

-- one place more takes a number, or a break
pub mark_takes : (u : ℕ) (xs : List ℕ) (p b : ℕ) → p + b ≡ 1 → u < length xs → taken_or_full (mark_sink u xs) p b ≡ Ok tt
mark_takes u xs p b e h = ap (λ t. cond t (Ok tt) (Err (SinkFull p b))) (le-leb (p + b) (length xs - u) (omega arith))

pub mark_push : (u : ℕ) (xs : List ℕ) (x : ℕ) → u < length xs → eqb x 4294967295 ≡ false → Pushed x (mark_sink u xs) (mark_sink (u + 1) (set xs u x))
mark_push u xs x h n =
    let e = ap split_at_marks (take_more_set xs u x h) ∙ split_push (take u xs) x n in
    record {
      closed_is = ap (λ p. p.0) e;
      last_is = ap (λ p. p.1) e;
      takes_still = λ p b t. one_less (length xs) (suc p + b) (p + b) u (length (set xs u x)) (length-set xs u x) (omega arith) t;
    }

pub mark_break : (u : ℕ) (xs : List ℕ) → u < length xs → Broken (mark_sink u xs) (mark_sink (u + 1) (set xs u 4294967295))
mark_break u xs h =
    let e = ap split_at_marks (take_more_set xs u 4294967295 h) ∙ split_break (take u xs) in
    record {
      closed_is = ap (λ p. p.0) e;
      last_is = ap (λ p. p.1) e;
      takes_still = λ p b t. one_less (length xs) (p + suc b) (p + b) u (length (set xs u 4294967295)) (length-set xs u 4294967295) (omega arith) t;
    }
