-- Question 7: each edge is used at most once in each direction.
use Rattle.std.proofs.Common.{◌≡◌, ℕ, ◌+◌, ◌≤◌, Bool, true, false, ◌&&◌, T, eqb, List, [], ◌∷◌, ◌++◌, sym, refl, ◌∙◌, subst, arith, eqb→eq, T_not}
use Rattle.std.specs.List.{list_all}
use native.Mathlib.Decide.{dec_le}
use lib.Dec.{not_T}
use Rattle.shape.specs.declared.triangle.Triangle.{Triangle}
use Rattle.shape.specs.Sides.{Use, walk, uses, both, tick, way_count}
use Rattle.shape.specs.Questions.{OneWayEach, ThreeCorners}
use Rattle.questions.specs.declared.question.Question.TheVariants.{OneWayEach as AsksWays}
use Rattle.questions.specs.Tests.{same_way, agree, pair, passes}
use Rattle.questions.proofs.Tests.{and_left, and_right, and_in, eq→eqb, every_at, every_in}
use Rattle.questions.proofs.Sides.{uses-append, owner, owned, way_append, Walks, walks_out, walked, way_counted}
use Rattle.questions.proofs.Stepwise.{Stepwise}

same_way_lem : (u v : Use) → u.edge ≡ v.edge → u.start ≡ v.start → u.stop ≡ v.stop → T (same_way u v)
same_way_lem u v a b c =
    and_in (eqb u.edge v.edge) (eqb u.start v.start && eqb u.stop v.stop) (eq→eqb u.edge v.edge a)
    (and_in (eqb u.start v.start) (eqb u.stop v.stop) (eq→eqb u.start v.start b) (eq→eqb u.stop v.stop c))

-- v walks as u does
walks_as : (u v : Use) → T (same_way u v) → Walks u.edge u.start u.stop v
walks_as u v t =
    let b = eqb u.start v.start && eqb u.stop v.stop in
    let k = and_right (eqb u.edge v.edge) b t in
    record {
      edge_is = eqb→eq u.edge v.edge (and_left (eqb u.edge v.edge) b t);
      start_is = eqb→eq u.start v.start (and_left (eqb u.start v.start) (eqb u.stop v.stop) k);
      stop_is = eqb→eq u.stop v.stop (and_right (eqb u.start v.start) (eqb u.stop v.stop) k);
    }

-- ---- a triangle with three different corners
at_most_one : (a b c : Bool) → (T a → T b → ⊥) → (T b → T c → ⊥) → (T a → T c → ⊥) → tick a (tick b (tick c 0)) ≤ 1
at_most_one true true c f g h = absurd (f tt tt)
at_most_one true false true f g h = absurd (h tt tt)
at_most_one true false false f g h = omega arith
at_most_one false true true f g h = absurd (g tt tt)
at_most_one false true false f g h = omega arith
at_most_one false false true f g h = omega arith
at_most_one false false false f g h = omega arith

own_ways : (x : Triangle) → ThreeCorners x → (e p q : ℕ) → way_count e p q (uses (x ∷ [])) ≤ 1
own_ways x c e p q =
    at_most_one (on ab) (on bc) (on ca) (λ s t. c.ab (sym (starts ab s) ∙ starts bc t)) (λ s t. c.bc (sym (starts bc s) ∙ starts ca t))
    (λ s t. c.ca (sym (starts ca t) ∙ starts ab s))
  where
    ab : Use
    ab = walk x.ab x.a x.b

    bc : Use
    bc = walk x.bc x.b x.c

    ca : Use
    ca = walk x.ca x.c x.a

    on : Use → Bool
    on u = both (eqb e u.edge) (both (eqb p u.start) (eqb q u.stop))

    starts : (u : Use) → T (on u) → p ≡ u.start
    starts u t = (walks_out e p q u t).start_is

-- ---- one triangle more
adds : (l : List Triangle) (x : Triangle) → ThreeCorners x → OneWayEach l → T (passes AsksWays l x) → (e p q : ℕ) → way_count e p q (uses l ++ uses (x ∷ [])) ≤ 1
adds l x c k t e p q = go (dec_le 1 (way_count e p q (uses l))) (dec_le 1 (way_count e p q (uses (x ∷ []))))
  where
    sum : way_count e p q (uses l ++ uses (x ∷ [])) ≡ way_count e p q (uses l) + way_count e p q (uses (x ∷ []))
    sum = way_append e p q (uses l) (uses (x ∷ []))

    clash : 1 ≤ way_count e p q (uses l) → 1 ≤ way_count e p q (uses (x ∷ [])) → ⊥
    clash a b =
        let u = walked e p q (uses l) a in
        let v = walked e p q (uses (x ∷ [])) b in
        let o = owner u.u l u.there in
        T_not (same_way u.u v.u)
        (every_at (agree AsksWays u.u) (uses (x ∷ []))
        (every_at (λ w. list_all (agree AsksWays w) (uses (x ∷ []))) (uses (o.s ∷ [])) (every_at (λ s. pair AsksWays s x) l t o.s o.there) u.u o.side) v.u v.there)
        (same_way_lem u.u v.u (sym u.walks.edge_is ∙ v.walks.edge_is) (sym u.walks.start_is ∙ v.walks.start_is) (sym u.walks.stop_is ∙ v.walks.stop_is))

    go : Dec (1 ≤ way_count e p q (uses l)) → Dec (1 ≤ way_count e p q (uses (x ∷ []))) → way_count e p q (uses l ++ uses (x ∷ [])) ≤ 1
    go (yes a) (yes b) = absurd (clash a b)
    go (yes a) (no b) = omega (arith, sum, k e p q)
    go (no a) d = omega (arith, sum, own_ways x c e p q)

needs : (l : List Triangle) (x : Triangle) → ((e p q : ℕ) → way_count e p q (uses l ++ uses (x ∷ [])) ≤ 1) → T (passes AsksWays l x)
needs l x k =
    every_in (λ s. pair AsksWays s x) l
    (λ s there. every_in (λ w. list_all (agree AsksWays w) (uses (x ∷ []))) (uses (s ∷ []))
    (λ u i. every_in (agree AsksWays u) (uses (x ∷ []))
    (λ v j. not_T (same_way u v)
    (λ t. let e = u.edge in
    let p = u.start in
    let q = u.stop in
    let a = way_counted e p q (uses l) u (owned u s l there i) (record { edge_is = refl; start_is = refl; stop_is = refl }) in
    let b = way_counted e p q (uses (x ∷ [])) v j (walks_as u v t) in
    let z : ⊥ = omega (arith, way_append e p q (uses l) (uses (x ∷ [])), k e p q) in
    z))))

abbrev Ways : List Use → Type 0
Ways us = (e p q : ℕ) → way_count e p q us ≤ 1

pub ways_stepwise : Stepwise OneWayEach ThreeCorners (passes AsksWays)
ways_stepwise =
    record {
      start = λ e p q. omega arith;
      adds = λ l x _ c k t. subst Ways (sym (uses-append l (x ∷ []))) (adds l x c k t);
      needs = λ l x _ _ k. needs l x (subst Ways (uses-append l (x ∷ [])) k);
      keeps = λ l x k e p q.
          let a = subst Ways (uses-append l (x ∷ [])) k e p q in
          omega (arith, way_append e p q (uses l) (uses (x ∷ [])));
    }
