-- Question 9: every edge is used, and every point is a corner; else the first that is not.
use Rattle.std.proofs.Common.{◌≡◌, not, ℕ, zero, suc, ◌+◌, ◌<◌, ◌≤◌, Bool, true, false, cond, ◌||◌, T, eqb, ◌⊎◌, List, [], ◌∷◌, Some, None, Option, sym, refl, ap, subst, inl, inr, zero-add, arith, eqb→eq}
use borrow.Author.Count.{below_more}
use Rattle.std.specs.List.{list_any, find, range_with_len}
use Rattle.shape.specs.declared.triangle.Triangle.{Triangle}
use Rattle.shape.specs.Lists.{In}
use Rattle.shape.specs.Sides.{uses, corners, use_count, tick}
use Rattle.shape.specs.Verdict.{FirstLacking, EdgeUsed, PointUsed}
use Rattle.questions.specs.declared.used.Part.TheVariants.{Edge, Point}
use Rattle.questions.specs.Tests.{touches, is_used, first_lack}
use Rattle.questions.proofs.Tests.{or_out, or_left, or_right, eq→eqb, Decides}
use Rattle.questions.proofs.Sides.{tick_yes}
use Rattle.questions.proofs.Stepwise.{order}

abbrev pub Lacking : ℕ → (ℕ → Type 0) → Option ℕ → Type 0
Lacking count P None = (n : ℕ) → n < count → P n
Lacking count P (Some n) = FirstLacking count P n

module _ {f : ℕ → Bool} {P : ℕ → Type 0} (d : Decides f P) where
  lack_from : (i k : ℕ) → ((m : ℕ) → m < i → P m) → Lacking (i + k) P (find (λ j. not (f j)) (range_with_len i k))
  lack_from i zero b = λ n h. b n (omega arith)
  lack_from i (suc k) b = go (f i) refl (lack_from (i + 1) k)
    where
      e : i + 1 + k ≡ i + suc k
      e = omega arith

      go :
          (c : Bool) → f i ≡ c → (((m : ℕ) → m < i + 1 → P m) → Lacking (i + 1 + k) P (find (λ j. not (f j)) (range_with_len (i + 1) k)))
          → Lacking (i + suc k) P (cond (not c) (Some i) (find (λ j. not (f j)) (range_with_len (i + 1) k)))
      go true p rest = subst (λ (n : ℕ). Lacking n P (find (λ j. not (f j)) (range_with_len (i + 1) k))) e (rest (below_more P i b (d.sound i (subst T (sym p) tt))))
      go false p rest = record { there = omega arith; lacks = λ y. subst T p (d.complete i y); not_before = b }

  pub first_lack_lem : (count : ℕ) → Lacking count P (first_lack f count)
  first_lack_lem count =
      subst (λ (n : ℕ). Lacking n P (first_lack f count)) (zero-add count) (lack_from 0 count (λ m h. absurd (let z : ⊥ = omega arith in z)))

pub one_lack : (count : ℕ) (P : ℕ → Type 0) (o p : Option ℕ) → Lacking count P o → Lacking count P p → o ≡ p
one_lack count P None None f g = refl
one_lack count P None (Some n) f g = absurd (g.lacks (f n g.there))
one_lack count P (Some m) None f g = absurd (f.lacks (g m f.there))
one_lack count P (Some m) (Some n) f g = ap Some (go (order m n))
  where
    go : (m < n) ⊎ ((m ≡ n) ⊎ (n < m)) → m ≡ n
    go (inl h) = absurd (f.lacks (g.not_before m h))
    go (inr (inl e)) = e
    go (inr (inr h)) = absurd (g.lacks (f.not_before n h))

-- ---- an edge that some side lies on
tick_or : (b : Bool) (n : ℕ) → 1 ≤ tick b n → T b ⊎ (1 ≤ n)
tick_or true n h = inl tt
tick_or false n h = inr h

tick_more : (b : Bool) (n : ℕ) → 1 ≤ n → 1 ≤ tick b n
tick_more true n h = omega arith
tick_more false n h = h

edge_sound : (ts : List Triangle) (e : ℕ) → T (is_used Edge ts e) → 1 ≤ use_count e (uses ts)
edge_sound [] e t = absurd t
edge_sound (x ∷ ts) e t = go (or_out (touches Edge e x) (list_any (touches Edge e) ts) t) (edge_sound ts e)
  where
    n : ℕ
    n = use_count e (uses ts)

    c : ℕ
    c = tick (eqb e x.ca) n

    b : ℕ
    b = tick (eqb e x.bc) c

    last : T (eqb e x.bc) ⊎ T (eqb e x.ca) → 1 ≤ tick (eqb e x.ab) b
    last (inl h) = tick_more (eqb e x.ab) b (tick_yes (eqb e x.bc) c h)
    last (inr h) = tick_more (eqb e x.ab) b (tick_more (eqb e x.bc) c (tick_yes (eqb e x.ca) n h))

    own : T (eqb e x.ab) ⊎ T (eqb e x.bc || eqb e x.ca) → 1 ≤ tick (eqb e x.ab) b
    own (inl h) = tick_yes (eqb e x.ab) b h
    own (inr h) = last (or_out (eqb e x.bc) (eqb e x.ca) h)

    go : T (touches Edge e x) ⊎ T (list_any (touches Edge e) ts) → (T (is_used Edge ts e) → 1 ≤ use_count e (uses ts)) → 1 ≤ tick (eqb e x.ab) b
    go (inl h) r = own (or_out (eqb e x.ab) (eqb e x.bc || eqb e x.ca) h)
    go (inr h) r = tick_more (eqb e x.ab) b (tick_more (eqb e x.bc) c (tick_more (eqb e x.ca) n (r h)))

edge_complete : (ts : List Triangle) (e : ℕ) → 1 ≤ use_count e (uses ts) → T (is_used Edge ts e)
edge_complete [] e h = absurd (let z : ⊥ = omega arith in z)
edge_complete (x ∷ ts) e h = ab (tick_or (eqb e x.ab) b h) (edge_complete ts e)
  where
    n : ℕ
    n = use_count e (uses ts)

    c : ℕ
    c = tick (eqb e x.ca) n

    b : ℕ
    b = tick (eqb e x.bc) c

    own : T (touches Edge e x) → T (touches Edge e x || list_any (touches Edge e) ts)
    own t = or_left (touches Edge e x) (list_any (touches Edge e) ts) t

    Rest : Type 0
    Rest = 1 ≤ n → T (is_used Edge ts e)

    ca : T (eqb e x.ca) ⊎ (1 ≤ n) → Rest → T (touches Edge e x || list_any (touches Edge e) ts)
    ca (inl t) r = own (or_right (eqb e x.ab) (eqb e x.bc || eqb e x.ca) (or_right (eqb e x.bc) (eqb e x.ca) t))
    ca (inr k) r = or_right (touches Edge e x) (list_any (touches Edge e) ts) (r k)

    bc : T (eqb e x.bc) ⊎ (1 ≤ c) → Rest → T (touches Edge e x || list_any (touches Edge e) ts)
    bc (inl t) r = own (or_right (eqb e x.ab) (eqb e x.bc || eqb e x.ca) (or_left (eqb e x.bc) (eqb e x.ca) t))
    bc (inr k) r = ca (tick_or (eqb e x.ca) n k) r

    ab : T (eqb e x.ab) ⊎ (1 ≤ b) → Rest → T (touches Edge e x || list_any (touches Edge e) ts)
    ab (inl t) r = own (or_left (eqb e x.ab) (eqb e x.bc || eqb e x.ca) t)
    ab (inr k) r = bc (tick_or (eqb e x.bc) c k) r

-- ---- a point that is a corner
point_sound : (ts : List Triangle) (p : ℕ) → T (is_used Point ts p) → In p (corners ts)
point_sound [] p t = absurd t
point_sound (x ∷ ts) p t = go (or_out (touches Point p x) (list_any (touches Point p) ts) t) (point_sound ts p)
  where
    last : T (eqb p x.b) ⊎ T (eqb p x.c) → In p (corners (x ∷ ts))
    last (inl h) = inr (inl (eqb→eq p x.b h))
    last (inr h) = inr (inr (inl (eqb→eq p x.c h)))

    own : T (eqb p x.a) ⊎ T (eqb p x.b || eqb p x.c) → In p (corners (x ∷ ts))
    own (inl h) = inl (eqb→eq p x.a h)
    own (inr h) = last (or_out (eqb p x.b) (eqb p x.c) h)

    go : T (touches Point p x) ⊎ T (list_any (touches Point p) ts) → (T (is_used Point ts p) → In p (corners ts)) → In p (corners (x ∷ ts))
    go (inl h) r = own (or_out (eqb p x.a) (eqb p x.b || eqb p x.c) h)
    go (inr h) r = inr (inr (inr (r h)))

point_complete : (ts : List Triangle) (p : ℕ) → In p (corners ts) → T (is_used Point ts p)
point_complete [] p i = absurd i
point_complete (x ∷ ts) p (inl e) =
    or_left (touches Point p x) (list_any (touches Point p) ts) (or_left (eqb p x.a) (eqb p x.b || eqb p x.c) (eq→eqb p x.a e))
point_complete (x ∷ ts) p (inr (inl e)) =
    or_left (touches Point p x) (list_any (touches Point p) ts)
    (or_right (eqb p x.a) (eqb p x.b || eqb p x.c) (or_left (eqb p x.b) (eqb p x.c) (eq→eqb p x.b e)))
point_complete (x ∷ ts) p (inr (inr (inl e))) =
    or_left (touches Point p x) (list_any (touches Point p) ts)
    (or_right (eqb p x.a) (eqb p x.b || eqb p x.c) (or_right (eqb p x.b) (eqb p x.c) (eq→eqb p x.c e)))
point_complete (x ∷ ts) p (inr (inr (inr i))) = or_right (touches Point p x) (list_any (touches Point p) ts) (point_complete ts p i)

pub edges_decide : (P E : ℕ) (ts : List Triangle) → Decides (is_used Edge ts) (EdgeUsed P E ts)
edges_decide P E ts = record { sound = edge_sound ts; complete = edge_complete ts }

pub points_decide : (P E : ℕ) (ts : List Triangle) → Decides (is_used Point ts) (PointUsed P E ts)
points_decide P E ts = record { sound = point_sound ts; complete = point_complete ts }
