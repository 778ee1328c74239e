-- Question 6: each edge number joins one pair of corners, and each pair has one edge number.
use Rattle.std.proofs.Common.{◌≡◌, Bool, true, false, ◌&&◌, T, eqb, ◌⊎◌, List, [], ◌∷◌, ◌++◌, sym, subst, inl, inr, eqb→eq}
use Rattle.std.specs.List.{list_all}
use Rattle.shape.specs.declared.triangle.Triangle.{Triangle}
use Rattle.shape.specs.Lists.{In}
use Rattle.shape.specs.Sides.{Use, uses, SameEnds}
use Rattle.shape.specs.Questions.{EdgesMatch}
use Rattle.questions.specs.declared.question.Question.TheVariants.{EdgesMatch as AsksEdges}
use Rattle.questions.specs.Tests.{same_bool, same_ends, matches, agree, sides_agree, pair, passes}
use Rattle.questions.proofs.Tests.{and_left, and_right, and_in, or_out, or_left, or_right, eq→eqb, every_at, every_in}
use Rattle.questions.proofs.Sides.{in_left, in_right, in_split, uses-append, owner, owned}
use Rattle.questions.proofs.Stepwise.{Stepwise}

ends_sound : (u v : Use) → T (same_ends u v) → SameEnds u v
ends_sound u v t = go (or_out x y t)
  where
    x : Bool
    x = eqb u.start v.start && eqb u.stop v.stop

    y : Bool
    y = eqb u.start v.stop && eqb u.stop v.start

    go : T x ⊎ T y → SameEnds u v
    go (inl h) =
        inl (
          eqb→eq u.start v.start (and_left (eqb u.start v.start) (eqb u.stop v.stop) h),
          eqb→eq u.stop v.stop (and_right (eqb u.start v.start) (eqb u.stop v.stop) h),
        )
    go (inr h) =
        inr (
          eqb→eq u.start v.stop (and_left (eqb u.start v.stop) (eqb u.stop v.start) h),
          eqb→eq u.stop v.start (and_right (eqb u.start v.stop) (eqb u.stop v.start) h),
        )

ends_complete : (u v : Use) → SameEnds u v → T (same_ends u v)
ends_complete u v (inl h) =
    or_left (eqb u.start v.start && eqb u.stop v.stop) (eqb u.start v.stop && eqb u.stop v.start)
    (and_in (eqb u.start v.start) (eqb u.stop v.stop) (eq→eqb u.start v.start h.0) (eq→eqb u.stop v.stop h.1))
ends_complete u v (inr h) =
    or_right (eqb u.start v.start && eqb u.stop v.stop) (eqb u.start v.stop && eqb u.stop v.start)
    (and_in (eqb u.start v.stop) (eqb u.stop v.start) (eq→eqb u.start v.stop h.0) (eq→eqb u.stop v.start h.1))

-- one edge number exactly if one pair of corners
record Match (u v : Use) : Type 0 where
  pub pair_is : u.edge ≡ v.edge → SameEnds u v
  pub edge_is : SameEnds u v → u.edge ≡ v.edge

same_out : (a b : Bool) → T (same_bool a b) → (T a → T b) × (T b → T a)
same_out true true t = (λ x. x, λ x. x)
same_out true false t = absurd t
same_out false true t = absurd t
same_out false false t = (λ x. x, λ x. x)

same_in : (a b : Bool) → (T a → T b) → (T b → T a) → T (same_bool a b)
same_in true b f g = f tt
same_in false true f g = g tt
same_in false false f g = tt

match_sound : (u v : Use) → T (matches u v) → Match u v
match_sound u v t =
    let x = same_out (eqb u.edge v.edge) (same_ends u v) t in
    record {
      pair_is = λ e. ends_sound u v (x.0 (eq→eqb u.edge v.edge e));
      edge_is = λ s. eqb→eq u.edge v.edge (x.1 (ends_complete u v s));
    }

match_complete : (u v : Use) → Match u v → T (matches u v)
match_complete u v m =
    same_in (eqb u.edge v.edge) (same_ends u v) (λ t. ends_complete u v (m.pair_is (eqb→eq u.edge v.edge t)))
    (λ t. eq→eqb u.edge v.edge (m.edge_is (ends_sound u v t)))

ends_turned : (u v : Use) → SameEnds u v → SameEnds v u
ends_turned u v (inl h) = inl (sym h.0, sym h.1)
ends_turned u v (inr h) = inr (sym h.1, sym h.0)

turned : (u v : Use) → Match u v → Match v u
turned u v m = record { pair_is = λ e. ends_turned u v (m.pair_is (sym e)); edge_is = λ s. sym (m.edge_is (ends_turned v u s)) }

-- every two sides of a list match
abbrev AllMatch : List Use → Type 0
AllMatch us = (u v : Use) → In u us → In v us → Match u v

to_all : (ts : List Triangle) → EdgesMatch ts → AllMatch (uses ts)
to_all ts k u v i j = record { pair_is = k.one_pair u v i j; edge_is = k.one_edge u v i j }

from_all : (ts : List Triangle) → AllMatch (uses ts) → EdgesMatch ts
from_all ts k = record { one_pair = λ u v i j. (k u v i j).pair_is; one_edge = λ u v i j. (k u v i j).edge_is }

sides_sound : (s t : Triangle) → T (sides_agree AsksEdges s t) → (u v : Use) → In u (uses (s ∷ [])) → In v (uses (t ∷ [])) → Match u v
sides_sound s t h u v i j =
    match_sound u v
    (every_at (agree AsksEdges u) (uses (t ∷ [])) (every_at (λ w. list_all (agree AsksEdges w) (uses (t ∷ []))) (uses (s ∷ [])) h u i) v j)

sides_complete : (s t : Triangle) → ((u v : Use) → In u (uses (s ∷ [])) → In v (uses (t ∷ [])) → Match u v) → T (sides_agree AsksEdges s t)
sides_complete s t k =
    every_in (λ w. list_all (agree AsksEdges w) (uses (t ∷ []))) (uses (s ∷ []))
    (λ u i. every_in (agree AsksEdges u) (uses (t ∷ [])) (λ v j. match_complete u v (k u v i j)))

adds : (l : List Triangle) (x : Triangle) → AllMatch (uses l) → T (passes AsksEdges l x) → AllMatch (uses l ++ uses (x ∷ []))
adds l x k t u v i j = go (in_split u (uses l) (uses (x ∷ [])) i) (in_split v (uses l) (uses (x ∷ [])) j)
  where
    own : T (sides_agree AsksEdges x x)
    own = and_left (sides_agree AsksEdges x x) (list_all (λ s. pair AsksEdges s x) l) t

    across : (w z : Use) → In w (uses l) → In z (uses (x ∷ [])) → Match w z
    across w z a b =
        let o = owner w l a in
        sides_sound o.s x
        (every_at (λ s. pair AsksEdges s x) l (and_right (sides_agree AsksEdges x x) (list_all (λ s. pair AsksEdges s x) l) t) o.s o.there) w z o.side b

    go : In u (uses l) ⊎ In u (uses (x ∷ [])) → In v (uses l) ⊎ In v (uses (x ∷ [])) → Match u v
    go (inl a) (inl b) = k u v a b
    go (inl a) (inr b) = across u v a b
    go (inr a) (inl b) = turned v u (across v u b a)
    go (inr a) (inr b) = sides_sound x x own u v a b

needs : (l : List Triangle) (x : Triangle) → AllMatch (uses l ++ uses (x ∷ [])) → T (passes AsksEdges l x)
needs l x k =
    and_in (sides_agree AsksEdges x x) (list_all (λ s. pair AsksEdges s x) l)
    (sides_complete x x (λ u v i j. k u v (in_right u (uses l) (uses (x ∷ [])) i) (in_right v (uses l) (uses (x ∷ [])) j)))
    (every_in (λ s. pair AsksEdges s x) l
    (λ s there. sides_complete s x
    (λ u v i j. k u v (in_left u (uses l) (uses (x ∷ [])) (owned u s l there i)) (in_right v (uses l) (uses (x ∷ [])) j))))

pub matching_stepwise : Stepwise EdgesMatch (λ _. Unit {0}) (passes AsksEdges)
matching_stepwise =
    record {
      start = from_all [] (λ u v i j. absurd i);
      adds = λ l x _ _ k t. from_all (l ++ x ∷ []) (subst AllMatch (sym (uses-append l (x ∷ []))) (adds l x (to_all l k) t));
      needs = λ l x _ _ k. needs l x (subst AllMatch (uses-append l (x ∷ [])) (to_all (l ++ x ∷ []) k));
      keeps = λ l x k.
          let a = subst AllMatch (uses-append l (x ∷ [])) (to_all (l ++ x ∷ []) k) in
          from_all l (λ u v i j. a u v (in_left u (uses l) (uses (x ∷ [])) i) (in_left v (uses l) (uses (x ∷ [])) j));
    }
