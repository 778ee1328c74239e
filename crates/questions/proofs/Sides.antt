-- The sides of a list of triangles, and the triangle that each comes from.
use Rattle.std.proofs.Common.{◌≡◌, ℕ, ◌+◌, ◌≤◌, Bool, true, false, T, eqb, ◌⊎◌, List, [], ◌∷◌, ◌++◌, sym, refl, ap, ◌∙◌, subst, inl, inr, suc-add, zero-add, arith, eqb→eq}
use Rattle.shape.specs.declared.triangle.Triangle.{Triangle}
use Rattle.shape.specs.Lists.{In}
use Rattle.shape.specs.Sides.{Use, uses, both, tick, way_count}
use Rattle.questions.proofs.Tests.{eq→eqb}

module _ {X : Type 0} where
  pub in_left : (x : X) (l m : List X) → In x l → In x (l ++ m)
  in_left x [] m i = absurd i
  in_left x (y ∷ l) m (inl e) = inl e
  in_left x (y ∷ l) m (inr i) = inr (in_left x l m i)

  pub in_right : (x : X) (l m : List X) → In x m → In x (l ++ m)
  in_right x [] m i = i
  in_right x (y ∷ l) m i = inr (in_right x l m i)

  pub in_split : (x : X) (l m : List X) → In x (l ++ m) → In x l ⊎ In x m
  in_split x [] m i = inr i
  in_split x (y ∷ l) m (inl e) = inl (inl e)
  in_split x (y ∷ l) m (inr i) = go (in_split x l m i)
    where
      go : In x l ⊎ In x m → In x (y ∷ l) ⊎ In x m
      go (inl j) = inl (inr j)
      go (inr j) = inr j

pub uses-append : (l m : List Triangle) → uses (l ++ m) ≡ uses l ++ uses m
uses-append [] m = refl
uses-append (t ∷ l) m = ap (λ us. uses (t ∷ []) ++ us) (uses-append l m)

-- a triangle of the list that has the side
pub record Owner (u : Use) (l : List Triangle) : Type 0 where
  pub s : Triangle
  pub there : In s l
  pub side : In u (uses (s ∷ []))

pub owner : (u : Use) (l : List Triangle) → In u (uses l) → Owner u l
owner u [] i = absurd i
owner u (t ∷ l) i = go (in_split u (uses (t ∷ [])) (uses l) i) (owner u l)
  where
    go : In u (uses (t ∷ [])) ⊎ In u (uses l) → (In u (uses l) → Owner u l) → Owner u (t ∷ l)
    go (inl j) r = record { s = t; there = inl refl; side = j }
    go (inr j) r = let o = r j in record { s = o.s; there = inr o.there; side = o.side }

pub owned : (u : Use) (s : Triangle) (l : List Triangle) → In s l → In u (uses (s ∷ [])) → In u (uses l)
owned u s [] i j = absurd i
owned u s (t ∷ l) (inl e) j = in_left u (uses (t ∷ [])) (uses l) (subst (λ (x : Triangle). In u (uses (x ∷ []))) e j)
owned u s (t ∷ l) (inr i) j = in_right u (uses (t ∷ [])) (uses l) (owned u s l i j)

-- ---- how many sides walk an edge one way
tick_add : (b : Bool) (m n : ℕ) → tick b (m + n) ≡ tick b m + n
tick_add true m n = sym (suc-add m n)
tick_add false m n = refl

pub tick_yes : (b : Bool) (n : ℕ) → T b → 1 ≤ tick b n
tick_yes true n t = omega arith
tick_yes false n t = absurd t

module _ (e p q : ℕ) where
  pub way_append : (us vs : List Use) → way_count e p q (us ++ vs) ≡ way_count e p q us + way_count e p q vs
  way_append [] vs = sym (zero-add (way_count e p q vs))
  way_append (u ∷ us) vs =
      let b = both (eqb e u.edge) (both (eqb p u.start) (eqb q u.stop)) in
      ap (tick b) (way_append us vs) ∙ tick_add b (way_count e p q us) (way_count e p q vs)

  -- a side that walks e from p to q
  pub record Walks (u : Use) : Type 0 where
    pub edge_is : e ≡ u.edge
    pub start_is : p ≡ u.start
    pub stop_is : q ≡ u.stop

  both_out : (a b : Bool) → T (both a b) → T a × T b
  both_out true b t = (tt, t)
  both_out false b t = absurd t

  both_in : (a b : Bool) → T a → T b → T (both a b)
  both_in true b s t = t
  both_in false b s t = s

  pub walks_out : (u : Use) → T (both (eqb e u.edge) (both (eqb p u.start) (eqb q u.stop))) → Walks u
  walks_out u t =
      let x = both_out (eqb e u.edge) (both (eqb p u.start) (eqb q u.stop)) t in
      let y = both_out (eqb p u.start) (eqb q u.stop) x.1 in
      record { edge_is = eqb→eq e u.edge x.0; start_is = eqb→eq p u.start y.0; stop_is = eqb→eq q u.stop y.1 }

  walks_in : (u : Use) → Walks u → T (both (eqb e u.edge) (both (eqb p u.start) (eqb q u.stop)))
  walks_in u w =
      both_in (eqb e u.edge) (both (eqb p u.start) (eqb q u.stop)) (eq→eqb e u.edge w.edge_is)
      (both_in (eqb p u.start) (eqb q u.stop) (eq→eqb p u.start w.start_is) (eq→eqb q u.stop w.stop_is))

  pub record Walked (us : List Use) : Type 0 where
    pub u : Use
    pub there : In u us
    pub walks : Walks u

  pub walked : (us : List Use) → 1 ≤ way_count e p q us → Walked us
  walked [] h = absurd (let z : ⊥ = omega arith in z)
  walked (u ∷ us) h = go (both (eqb e u.edge) (both (eqb p u.start) (eqb q u.stop))) (λ t. t) (walked us) h
    where
      go :
          (b : Bool) → (T b → T (both (eqb e u.edge) (both (eqb p u.start) (eqb q u.stop)))) → (1 ≤ way_count e p q us → Walked us)
          → 1 ≤ tick b (way_count e p q us) → Walked (u ∷ us)
      go true f r k = record { u = u; there = inl refl; walks = walks_out u (f tt) }
      go false f r k = let o = r k in record { u = o.u; there = inr o.there; walks = o.walks }

  tick_more : (b : Bool) (n : ℕ) → n ≤ tick b n
  tick_more true n = omega arith
  tick_more false n = omega arith

  pub way_counted : (us : List Use) (u : Use) → In u us → Walks u → 1 ≤ way_count e p q us
  way_counted [] u i w = absurd i
  way_counted (v ∷ us) u (inl d) w =
      tick_yes (both (eqb e v.edge) (both (eqb p v.start) (eqb q v.stop))) (way_count e p q us) (walks_in v (subst Walks d w))
  way_counted (v ∷ us) u (inr i) w =
      omega (arith, tick_more (both (eqb e v.edge) (both (eqb p v.start) (eqb q v.stop))) (way_count e p q us), way_counted us u i w)
