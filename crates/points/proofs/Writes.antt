-- What a list of writes leaves, where no place is written twice and each write reads only what was written before.
use Rattle.std.proofs.Common.{◌≡◌, ℕ, zero, suc, ◌+◌, ◌<◌, ◌≤◌, List, [], ◌∷◌, ◌++◌, length, get_or, set, sym, refl, ap, ◌∙◌, subst, ap₂, arith, length-set, get_or-set_other, get_or-set_same}
use Rattle.pattern.specs.Ring.{up}
use Rattle.pattern.specs.Sides.{occ}
use Rattle.shape.specs.Listing.{placed}
use Rattle.shape.specs.Lists.{Each}
use Rattle.pattern.proofs.Occurrences.{hits_yes, Same?, is, isnt, same?, occ-cons, occ-++}
use Rattle.points.specs.Calculating.{Meaning, Write, put, middle, along, written, run}

-- the places xs i, xs (i + 1), .., k of them
abbrev pub run_of : (ℕ → ℕ) → ℕ → ℕ → List ℕ
run_of xs i k = up i k (λ j. xs j ∷ [])

pub in_run : (xs : ℕ → ℕ) (i k j : ℕ) → i ≤ j → j < i + k → 1 ≤ occ (xs j) (run_of xs i k)
in_run xs i zero j l m = absurd (let z : ⊥ = omega arith in z)
in_run xs i (suc k) j l m = go (same? j i) (in_run xs (suc i) k j)
  where
    go : Same? j i → (suc i ≤ j → j < suc i + k → 1 ≤ occ (xs j) (run_of xs (suc i) k)) → 1 ≤ occ (xs j) (run_of xs i (suc k))
    go (is e d) r = omega (arith, occ-cons (xs j) (xs i) (run_of xs (suc i) k), hits_yes (xs j) (xs i) (ap xs e))
    go (isnt e d) r =
        let a : suc i ≤ j = omega arith in
        let b : j < suc i + k = omega arith in
        omega (arith, occ-cons (xs j) (xs i) (run_of xs (suc i) k), r a b)

module _ {Point : Type 0} where
  abbrev pub places : Write Point → List ℕ
  places (put x p) = x ∷ []
  places (middle x p q) = x ∷ []
  places (along m xs p q) = run_of xs 0 m

  abbrev pub sources : Write Point → List ℕ
  sources (put x p) = []
  sources (middle x p q) = p ∷ q ∷ []
  sources (along m xs p q) = p ∷ q ∷ []

  abbrev pub all_places : List (Write Point) → List ℕ
  all_places [] = []
  all_places (w ∷ ws) = places w ++ all_places ws

  -- each reads only what is seen, or was written before it
  abbrev pub Ready : List ℕ → List (Write Point) → Type 0
  Ready seen [] = Unit {0}
  Ready seen (w ∷ ws) = Each (λ x. 1 ≤ occ x seen) (sources w) × Ready (places w ++ seen) ws

module _ {Point Frac : Type 0} (share : ℕ → ℕ → Frac) (blank : Point) (M : Meaning Point Frac) where
  abbrev on : List Point → ℕ → Point
  on f x = get_or f x blank

  -- what the write says, of the buffer F
  abbrev pub Holds : List Point → Write Point → Type 0
  Holds F (put x p) = get_or F x blank ≡ p
  Holds F (middle x p q) = get_or F x blank ≡ M.half (get_or F p blank) (get_or F q blank)
  Holds F (along m xs p q) =
      (i : ℕ) → i < m → get_or F (xs i) blank ≡ M.between (get_or F p blank) (get_or F q blank) (share i m)

  not_one : (x y : ℕ) (l : List ℕ) → occ x (y ∷ l) ≡ 0 → (x ≡ y → ⊥)
  not_one x y l h e = let z : ⊥ = omega (arith, occ-cons x y l, hits_yes x y e) in z

  placed_other :
      (g : ℕ → Point) (xs : ℕ → ℕ) (i k : ℕ) (f : List Point) (x : ℕ) → occ x (run_of xs i k) ≡ 0 → on (placed g i (run_of xs i k) f) x ≡ on f x
  placed_other g xs i zero f x h = refl
  placed_other g xs i (suc k) f x h =
      placed_other g xs (suc i) k (set f (xs i) (g i)) x (omega (arith, occ-cons x (xs i) (run_of xs (suc i) k)))
      ∙ get_or-set_other f (xs i) x (g i) blank (not_one x (xs i) (run_of xs (suc i) k) h)

  placed_long : (g : ℕ → Point) (xs : ℕ → ℕ) (i k : ℕ) (f : List Point) → length (placed g i (run_of xs i k) f) ≡ length f
  placed_long g xs i zero f = refl
  placed_long g xs i (suc k) f = placed_long g xs (suc i) k (set f (xs i) (g i)) ∙ length-set f (xs i) (g i)

  placed_at :
      (g : ℕ → Point) (xs : ℕ → ℕ) (i k : ℕ) (f : List Point) → ((x : ℕ) → occ x (run_of xs i k) ≤ 1)
      → ((x : ℕ) → 1 ≤ occ x (run_of xs i k) → x < length f) → (j : ℕ) → i ≤ j → j < i + k → on (placed g i (run_of xs i k) f) (xs j) ≡ g j
  placed_at g xs i zero f once low j l m = absurd (let z : ⊥ = omega arith in z)
  placed_at g xs i (suc k) f once low j l m =
      go (same? j i)
      (placed_at g xs (suc i) k (set f (xs i) (g i)) (λ x. omega (arith, once x, occ-cons x (xs i) (run_of xs (suc i) k)))
      (λ x c. let a : 1 ≤ occ x (run_of xs i (suc k)) = omega (arith, occ-cons x (xs i) (run_of xs (suc i) k)) in
      omega (arith, low x a, length-set f (xs i) (g i))) j)
    where
      go :
          Same? j i → (suc i ≤ j → j < suc i + k → on (placed g (suc i) (run_of xs (suc i) k) (set f (xs i) (g i))) (xs j) ≡ g j)
          → on (placed g (suc i) (run_of xs (suc i) k) (set f (xs i) (g i))) (xs j) ≡ g j
      go (is e d) r =
          let one : 1 ≤ occ (xs i) (run_of xs i (suc k)) = in_run xs i (suc k) i (omega arith) (omega arith) in
          subst (λ (v : ℕ). on (placed g (suc i) (run_of xs (suc i) k) (set f (xs i) (g i))) (xs v) ≡ g v) (sym e)
          (placed_other g xs (suc i) k (set f (xs i) (g i)) (xs i)
          (omega (arith, once (xs i), occ-cons (xs i) (xs i) (run_of xs (suc i) k), hits_yes (xs i) (xs i) refl))
          ∙ get_or-set_same f (xs i) (g i) blank (low (xs i) one))
      go (isnt e d) r = r (omega arith) (omega arith)

  written_other : (w : Write Point) (f : List Point) (x : ℕ) → occ x (places w) ≡ 0 → on (written share blank M w f) x ≡ on f x
  written_other (put y p) f x h = get_or-set_other f y x p blank (not_one x y [] h)
  written_other (middle y p q) f x h = get_or-set_other f y x (M.half (on f p) (on f q)) blank (not_one x y [] h)
  written_other (along m xs p q) f x h = placed_other (λ i. M.between (on f p) (on f q) (share i m)) xs 0 m f x h

  written_long : (w : Write Point) (f : List Point) → length (written share blank M w f) ≡ length f
  written_long (put y p) f = length-set f y p
  written_long (middle y p q) f = length-set f y (M.half (on f p) (on f q))
  written_long (along m xs p q) f = placed_long (λ i. M.between (on f p) (on f q) (share i m)) xs 0 m f

  pub run_other : (ws : List (Write Point)) (f : List Point) (x : ℕ) → occ x (all_places ws) ≡ 0 → on (run share blank M ws f) x ≡ on f x
  run_other [] f x h = refl
  run_other (w ∷ ws) f x h =
      run_other ws (written share blank M w f) x (omega (arith, occ-++ x (places w) (all_places ws)))
      ∙ written_other w f x (omega (arith, occ-++ x (places w) (all_places ws)))

  pub run_long : (ws : List (Write Point)) (f : List Point) → length (run share blank M ws f) ≡ length f
  run_long [] f = refl
  run_long (w ∷ ws) f = run_long ws (written share blank M w f) ∙ written_long w f

  module _ (ws : List (Write Point)) (f : List Point) where
    first :
        (w : Write Point) → ((x : ℕ) → occ x (places w) + occ x (all_places ws) ≤ 1) → ((x : ℕ) → 1 ≤ occ x (places w) → x < length f)
        → Each (λ x. occ x (places w) + occ x (all_places ws) ≡ 0) (sources w) → Holds (run share blank M ws (written share blank M w f)) w
    first (put x p) once low old =
        let one : occ x (x ∷ []) ≡ 1 = omega (arith, occ-cons x x [], hits_yes x x refl) in
        run_other ws (set f x p) x (omega (arith, once x)) ∙ get_or-set_same f x p blank (low x (omega arith))
    first (middle x p q) once low old =
        let one : occ x (x ∷ []) ≡ 1 = omega (arith, occ-cons x x [], hits_yes x x refl) in
        let w : Write Point = middle x p q in
        let kept : (y : ℕ) → occ y (places w) + occ y (all_places ws) ≡ 0 → on f y ≡ on (run share blank M ws (written share blank M w f)) y
        = λ y h. sym (run_other (w ∷ ws) f y (omega (arith, occ-++ y (places w) (all_places ws)))) in
        run_other ws (written share blank M w f) x (omega (arith, once x))
        ∙ get_or-set_same f x (M.half (on f p) (on f q)) blank (low x (omega arith))
        ∙ ap₂ M.half (kept p old.0) (kept q old.1.0)
    first (along m xs p q) once low old =
        λ i l.
        let w : Write Point = along m xs p q in
        let one : 1 ≤ occ (xs i) (run_of xs 0 m) = in_run xs 0 m i (omega arith) (omega arith) in
        let kept : (y : ℕ) → occ y (places w) + occ y (all_places ws) ≡ 0 → on f y ≡ on (run share blank M ws (written share blank M w f)) y
        = λ y h. sym (run_other (w ∷ ws) f y (omega (arith, occ-++ y (places w) (all_places ws)))) in
        run_other ws (written share blank M w f) (xs i) (omega (arith, once (xs i)))
        ∙ placed_at (λ j. M.between (on f p) (on f q) (share j m)) xs 0 m f (λ x. omega (arith, once x)) low i (omega arith) (omega arith)
        ∙ ap₂ (λ a b. M.between a b (share i m)) (kept p old.0) (kept q old.1.0)

  unseen : (seen l : List ℕ) (xs : List ℕ) → ((x : ℕ) → occ x seen + occ x l ≤ 1) → Each (λ x. 1 ≤ occ x seen) xs → Each (λ x. occ x l ≡ 0) xs
  unseen seen l [] once r = tt
  unseen seen l (x ∷ xs) once r = (let a = r.0 in omega (arith, once x), unseen seen l xs once r.1)

  each_map : {X : Type 0} (A B : X → Type 0) (l : List X) → ((x : X) → A x → B x) → Each A l → Each B l
  each_map A B [] h e = tt
  each_map A B (x ∷ l) h e = (h x e.0, each_map A B l h e.1)

  -- what each write says holds in the end
  pub holds :
      (seen : List ℕ) (ws : List (Write Point)) (f : List Point) → Ready seen ws → ((x : ℕ) → occ x seen + occ x (all_places ws) ≤ 1)
      → ((x : ℕ) → 1 ≤ occ x (all_places ws) → x < length f) → Each (Holds (run share blank M ws f)) ws
  holds seen [] f r once low = tt
  holds seen (w ∷ ws) f r once low = (
    first ws f w (λ x. omega (arith, once x, occ-++ x (places w) (all_places ws)))
        (λ x c. low x (omega (arith, occ-++ x (places w) (all_places ws))))
        (each_map (λ x. occ x (places w ++ all_places ws) ≡ 0) (λ x. occ x (places w) + occ x (all_places ws) ≡ 0) (sources w)
        (λ x h. sym (occ-++ x (places w) (all_places ws)) ∙ h) (unseen seen (places w ++ all_places ws) (sources w) once r.0)),
    holds (places w ++ seen) ws (written share blank M w f) r.1
        (λ x. omega (arith, once x, occ-++ x (places w) (all_places ws), occ-++ x (places w) seen))
        (λ x c. let a : x < length f = low x (omega (arith, occ-++ x (places w) (all_places ws))) in omega (arith, written_long w f)),
  )
