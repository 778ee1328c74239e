-- The computed answer is the verdict, and there is no other.
use Rattle.std.proofs.Common.{◌≡◌, ℕ, Bool, true, false, cond, ◌&&◌, T, leb, List, [], ◌∷◌, length, Some, None, Ok, Err, Option, sym, refl, ap, ◌∙◌, subst, le→leb, leb→le}
use Rattle.refusal.specs.declared.Refusal.{Refusal}
use Rattle.refusal.specs.declared.Refusal.TheVariants.{TriangleCount, PointOrEdgeCount, OutOfRange, RepeatedCorner, EdgeMismatch, EdgeDirection, RepeatedTriangle, Unused, TooManySubdivisions, TooManyVertices, SubdividedTooOften, NoTriangle, BufferTooShort, NumberTooLarge, SinkFull, InvalidListing, DataTooShort}
use Rattle.refusal.specs.declared.Unused.TheVariants.{Edge as UnusedEdge, Point as UnusedPoint}
use Rattle.shape.specs.declared.triangle.Triangle.{Triangle}
use Rattle.shape.specs.Lists.{Each}
use Rattle.shape.specs.Questions.{FewTriangles, FewPointsAndEdges, InRange, DifferentCorners, EdgesMatch, OneWayEach, DifferentSets}
use Rattle.shape.specs.Verdict.{FailsFirstAt, EdgeUsed, PointUsed, YesTo3, YesTo4, YesTo5, YesTo6, YesTo7, YesTo8, Verdict}
use Rattle.questions.specs.declared.question.Question.TheVariants.{InRange as AsksRange, DifferentCorners as AsksCorners, EdgesMatch as AsksEdges, OneWayEach as AsksWays, DifferentSets as AsksSets}
use Rattle.questions.specs.declared.used.Part.TheVariants.{Edge, Point}
use Rattle.questions.specs.Tests.{first_no, is_used, first_lack}
use Rattle.questions.specs.Answer.{Answer, unless, and_then, few, sized, counts_answer, used_answer, list_answer, answer}
use Rattle.questions.proofs.Tests.{and_left, and_right, and_in, is_true, is_false}
use Rattle.questions.proofs.Stepwise.{FirstAnswer, first_no_lem, one_answer}
use Rattle.questions.proofs.RangeAndCorners.{range_stepwise, corners_stepwise}
use Rattle.questions.proofs.Matching.{matching_stepwise}
use Rattle.questions.proofs.OneWay.{ways_stepwise}
use Rattle.questions.proofs.CornerSets.{sets_stepwise}
use Rattle.questions.proofs.UsedParts.{Lacking, first_lack_lem, one_lack, edges_decide, points_decide}

each_unit : (ts : List Triangle) → Each (λ _. Unit {0}) ts
each_unit [] = tt
each_unit (t ∷ ts) = (tt, each_unit ts)

few_sound : (ts : List Triangle) → T (few (length ts)) → FewTriangles ts
few_sound ts t =
    record {
      some = leb→le 1 (length ts) (and_left (leb 1 (length ts)) (leb (length ts) 32) t);
      few = leb→le (length ts) 32 (and_right (leb 1 (length ts)) (leb (length ts) 32) t);
    }

few_complete : (ts : List Triangle) → FewTriangles ts → T (few (length ts))
few_complete ts f = and_in (leb 1 (length ts)) (leb (length ts) 32) (le→leb 1 (length ts) f.some) (le→leb (length ts) 32 f.few)

sized_sound : (P E : ℕ) → T (sized P E) → FewPointsAndEdges P E
sized_sound P E t =
    let e = leb 3 E && leb E 96 in
    let p = leb P 96 && e in
    let h = and_right (leb 3 P) p t in
    let k = and_right (leb P 96) e h in
    record {
      points = (leb→le 3 P (and_left (leb 3 P) p t), leb→le P 96 (and_left (leb P 96) e h));
      edges = (leb→le 3 E (and_left (leb 3 E) (leb E 96) k), leb→le E 96 (and_right (leb 3 E) (leb E 96) k));
    }

sized_complete : (P E : ℕ) → FewPointsAndEdges P E → T (sized P E)
sized_complete P E s =
    and_in (leb 3 P) (leb P 96 && (leb 3 E && leb E 96)) (le→leb 3 P s.points.0)
    (and_in (leb P 96) (leb 3 E && leb E 96) (le→leb P 96 s.points.1)
    (and_in (leb 3 E) (leb E 96) (le→leb 3 E s.edges.0) (le→leb E 96 s.edges.1)))

module _ (P E : ℕ) (ts : List Triangle) where
  -- a question on the way: a refusal at the first no, else what comes after
  chain :
      {Q : List Triangle → Type 0} (o : Option ℕ) (f : ℕ → Refusal) (next last : Answer) → FirstAnswer Q ts o
      → ((t : ℕ) → FailsFirstAt Q ts t → Verdict P E ts (Err (f t))) → (Q ts → Verdict P E ts (and_then next last))
      → Verdict P E ts (and_then (unless o f next) last)
  chain None f next last a refuse go = go a
  chain (Some t) f next last a refuse go = refuse t a

  lacks :
      {U : ℕ → Type 0} (count : ℕ) (o : Option ℕ) (f : ℕ → Refusal) (next : Answer) → Lacking count U o
      → ((n : ℕ) → Lacking count U (Some n) → Verdict P E ts (Err (f n))) → (Lacking count U None → Verdict P E ts next)
      → Verdict P E ts (unless o f next)
  lacks count None f next a refuse go = go a
  lacks count (Some n) f next a refuse go = refuse n a

  abbrev after8 : Answer
  after8 = Ok tt

  abbrev after7 : Answer
  after7 = unless (first_no AsksSets ts) RepeatedTriangle after8

  abbrev after6 : Answer
  after6 = unless (first_no AsksWays ts) EdgeDirection after7

  abbrev after5 : Answer
  after5 = unless (first_no AsksEdges ts) EdgeMismatch after6

  abbrev after4 : Answer
  after4 = unless (first_no AsksCorners ts) RepeatedCorner after5

  used_verdict : YesTo8 P E ts → Verdict P E ts (used_answer P E ts)
  used_verdict y =
      lacks E (first_lack (is_used Edge ts) E) (λ e. Unused (UnusedEdge e)) (unless (first_lack (is_used Point ts) P) (λ p. Unused (UnusedPoint p)) (Ok tt))
      (first_lack_lem (edges_decide P E ts) E) (λ e l. (y, l))
      (λ all. lacks P (first_lack (is_used Point ts) P) (λ p. Unused (UnusedPoint p)) (Ok tt) (first_lack_lem (points_decide P E ts) P) (λ p l. (y, (all, l)))
      (λ list_all. record {
        triangles = y.0.0.0.0.0.0;
        sizes = y.0.0.0.0.0.1;
        below = y.0.0.0.0.1;
        three = y.0.0.0.1;
        matching = y.0.0.1;
        each_way = y.0.1;
        differ = y.1;
        used = record { edges = all; points = list_all };
      }))

  list_verdict : YesTo3 P E ts → Verdict P E ts (list_answer P E ts)
  list_verdict y3 =
      chain (first_no (AsksRange P E) ts) OutOfRange after4 (used_answer P E ts) (first_no_lem (AsksRange P E) (range_stepwise P E) ts (each_unit ts)) (λ t f. (y3, f))
      (λ a4. let y4 : YesTo4 P E ts = (y3, a4) in
      chain (first_no AsksCorners ts) RepeatedCorner after5 (used_answer P E ts) (first_no_lem AsksCorners corners_stepwise ts (each_unit ts)) (λ t f. (y4, f))
      (λ a5. let y5 : YesTo5 P E ts = (y4, a5) in
      chain (first_no AsksEdges ts) EdgeMismatch after6 (used_answer P E ts) (first_no_lem AsksEdges matching_stepwise ts (each_unit ts)) (λ t f. (y5, f))
      (λ a6. let y6 : YesTo6 P E ts = (y5, a6) in
      chain (first_no AsksWays ts) EdgeDirection after7 (used_answer P E ts) (first_no_lem AsksWays ways_stepwise ts a5) (λ t f. (y6, f))
      (λ a7. let y7 : YesTo7 P E ts = (y6, a7) in
      chain (first_no AsksSets ts) RepeatedTriangle after8 (used_answer P E ts) (first_no_lem AsksSets sets_stepwise ts (each_unit ts)) (λ t f. (y7, f))
      (λ a8. used_verdict (y7, a8))))))

  pub answer_verdict : Verdict P E ts (answer P E ts)
  answer_verdict = go (few (length ts)) refl (sized P E) refl
    where
      go :
          (f : Bool) → few (length ts) ≡ f → (s : Bool) → sized P E ≡ s
          → Verdict P E ts (and_then (cond f (cond s (Ok tt) (Err (PointOrEdgeCount P E))) (Err (TriangleCount (length ts)))) (list_answer P E ts))
      go true e true d = list_verdict (few_sound ts (subst T (sym e) tt), sized_sound P E (subst T (sym d) tt))
      go true e false d = (refl, refl, few_sound ts (subst T (sym e) tt), λ k. subst T d (sized_complete P E k))
      go false e s d = (refl, λ k. subst T e (few_complete ts k))

  -- ---- and there is no other
  abbrev total : (f s : Bool) (o4 o5 o6 o7 o8 oe op : Option ℕ) → Answer
  total f s o4 o5 o6 o7 o8 oe op =
      and_then (cond f (cond s (Ok tt) (Err (PointOrEdgeCount P E))) (Err (TriangleCount (length ts))))
      (and_then
      (unless o4 OutOfRange
      (unless o5 RepeatedCorner (unless o6 EdgeMismatch (unless o7 EdgeDirection (unless o8 RepeatedTriangle (Ok tt))))))
      (unless oe (λ e. Unused (UnusedEdge e)) (unless op (λ p. Unused (UnusedPoint p)) (Ok tt))))

  abbrev F : Bool
  F = few (length ts)

  abbrev S : Bool
  S = sized P E

  abbrev O4 : Option ℕ
  O4 = first_no (AsksRange P E) ts

  abbrev O5 : Option ℕ
  O5 = first_no AsksCorners ts

  abbrev O6 : Option ℕ
  O6 = first_no AsksEdges ts

  abbrev O7 : Option ℕ
  O7 = first_no AsksWays ts

  abbrev O8 : Option ℕ
  O8 = first_no AsksSets ts

  abbrev OE : Option ℕ
  OE = first_lack (is_used Edge ts) E

  abbrev OP : Option ℕ
  OP = first_lack (is_used Point ts) P

  e2 : FewTriangles ts → true ≡ F
  e2 k = sym (is_true F (few_complete ts k))

  e3 : FewPointsAndEdges P E → true ≡ S
  e3 k = sym (is_true S (sized_complete P E k))

  e4 : (o : Option ℕ) → FirstAnswer (InRange P E) ts o → o ≡ O4
  e4 o a = one_answer (AsksRange P E) (range_stepwise P E) ts o O4 a (first_no_lem (AsksRange P E) (range_stepwise P E) ts (each_unit ts))

  e5 : (o : Option ℕ) → FirstAnswer DifferentCorners ts o → o ≡ O5
  e5 o a = one_answer AsksCorners corners_stepwise ts o O5 a (first_no_lem AsksCorners corners_stepwise ts (each_unit ts))

  e6 : (o : Option ℕ) → FirstAnswer EdgesMatch ts o → o ≡ O6
  e6 o a = one_answer AsksEdges matching_stepwise ts o O6 a (first_no_lem AsksEdges matching_stepwise ts (each_unit ts))

  e7 : DifferentCorners ts → (o : Option ℕ) → FirstAnswer OneWayEach ts o → o ≡ O7
  e7 c o a = one_answer AsksWays ways_stepwise ts o O7 a (first_no_lem AsksWays ways_stepwise ts c)

  e8 : (o : Option ℕ) → FirstAnswer DifferentSets ts o → o ≡ O8
  e8 o a = one_answer AsksSets sets_stepwise ts o O8 a (first_no_lem AsksSets sets_stepwise ts (each_unit ts))

  unused_edge_is : (o : Option ℕ) → Lacking E (EdgeUsed P E ts) o → o ≡ OE
  unused_edge_is o a = one_lack E (EdgeUsed P E ts) o OE a (first_lack_lem (edges_decide P E ts) E)

  unused_point_is : (o : Option ℕ) → Lacking P (PointUsed P E ts) o → o ≡ OP
  unused_point_is o a = one_lack P (PointUsed P E ts) o OP a (first_lack_lem (points_decide P E ts) P)

  -- all tests on the way to question 4, .., 9 pass
  after_3 : YesTo3 P E ts → (o4 : Option ℕ) → o4 ≡ O4 → total true true o4 O5 O6 O7 O8 OE OP ≡ answer P E ts
  after_3 y o4 e = λ i. total (e2 y.0 i) (e3 y.1 i) (e i) O5 O6 O7 O8 OE OP

  after_4 : YesTo4 P E ts → (o5 : Option ℕ) → o5 ≡ O5 → total true true None o5 O6 O7 O8 OE OP ≡ answer P E ts
  after_4 y o5 e = (λ i. total true true (e4 None y.1 i) (e i) O6 O7 O8 OE OP) ∙ after_3 y.0 O4 refl

  after_5 : YesTo5 P E ts → (o6 : Option ℕ) → o6 ≡ O6 → total true true None None o6 O7 O8 OE OP ≡ answer P E ts
  after_5 y o6 e = (λ i. total true true None (e5 None y.1 i) (e i) O7 O8 OE OP) ∙ after_4 y.0 O5 refl

  after_6 : YesTo6 P E ts → (o7 : Option ℕ) → o7 ≡ O7 → total true true None None None o7 O8 OE OP ≡ answer P E ts
  after_6 y o7 e = (λ i. total true true None None (e6 None y.1 i) (e i) O8 OE OP) ∙ after_5 y.0 O6 refl

  after_7 : YesTo7 P E ts → (o8 : Option ℕ) → o8 ≡ O8 → total true true None None None None o8 OE OP ≡ answer P E ts
  after_7 y o8 e = (λ i. total true true None None None (e7 y.0.0.1 None y.1 i) (e i) OE OP) ∙ after_6 y.0 O7 refl

  after_8 : YesTo8 P E ts → (oe op : Option ℕ) → oe ≡ OE → op ≡ OP → total true true None None None None None oe op ≡ answer P E ts
  after_8 y oe op e p = (λ i. total true true None None None None (e8 None y.1 i) (e i) (p i)) ∙ after_7 y.0 O8 refl

  pub only_verdict : (r : Answer) → Verdict P E ts r → r ≡ answer P E ts
  only_verdict (Ok u) a =
      let y : YesTo8 P E ts = ((((((a.triangles, a.sizes), a.below), a.three), a.matching), a.each_way), a.differ) in
      after_8 y None None (unused_edge_is None a.used.edges) (unused_point_is None a.used.points)
  only_verdict (Err (TriangleCount n)) v =
      ap (λ m. Err (TriangleCount m)) v.0 ∙ (λ i. total (sym (is_false F (λ t. v.1 (few_sound ts t))) i) S O4 O5 O6 O7 O8 OE OP)
  only_verdict (Err (PointOrEdgeCount p e)) v =
      (λ i. Err (PointOrEdgeCount (v.0 i) (v.1 i)))
      ∙ (λ i. total (e2 v.2 i) (sym (is_false S (λ t. v.3 (sized_sound P E t))) i) O4 O5 O6 O7 O8 OE OP)
  only_verdict (Err (OutOfRange t)) v = after_3 v.0 (Some t) (e4 (Some t) v.1)
  only_verdict (Err (RepeatedCorner t)) v = after_4 v.0 (Some t) (e5 (Some t) v.1)
  only_verdict (Err (EdgeMismatch t)) v = after_5 v.0 (Some t) (e6 (Some t) v.1)
  only_verdict (Err (EdgeDirection t)) v = after_6 v.0 (Some t) (e7 v.0.0.1 (Some t) v.1)
  only_verdict (Err (RepeatedTriangle t)) v = after_7 v.0 (Some t) (e8 (Some t) v.1)
  only_verdict (Err (Unused (UnusedEdge e))) v = after_8 v.0 (Some e) OP (unused_edge_is (Some e) v.1) refl
  only_verdict (Err (Unused (UnusedPoint p))) v = after_8 v.0 None (Some p) (unused_edge_is None v.1.0) (unused_point_is (Some p) v.1.1)
  only_verdict (Err (TooManySubdivisions n)) v = absurd v
  only_verdict (Err (TooManyVertices n)) v = absurd v
  only_verdict (Err (SubdividedTooOften n k)) v = absurd v
  only_verdict (Err (NoTriangle t n)) v = absurd v
  only_verdict (Err (BufferTooShort n l)) v = absurd v
  only_verdict (Err (NumberTooLarge x)) v = absurd v
  only_verdict (Err (SinkFull p b)) v = absurd v
  only_verdict (Err (InvalidListing n l)) v = absurd v
  only_verdict (Err (DataTooShort n l)) v = absurd v

-- the counts pass, and then the list is asked: counts p, e, n and a list l that are the base's
pub list_settles :
    (P E : ℕ) (ts : List Triangle) (p e n : ℕ) (l : List Triangle) (u : Unit {0}) (r : Answer) → p ≡ P → e ≡ E → n ≡ length ts → l ≡ ts
    → Ok u ≡ counts_answer p e n → r ≡ list_answer p e l → Verdict P E ts r
list_settles P E ts p e n l u r ep ee en el c a =
    let k : Ok u ≡ counts_answer P E (length ts) = c ∙ (λ i. counts_answer (ep i) (ee i) (en i)) in
    let q : r ≡ answer P E ts = a ∙ (λ i. list_answer (ep i) (ee i) (el i)) ∙ (λ i. and_then (k i) (list_answer P E ts)) in
    subst (Verdict P E ts) (sym q) (answer_verdict P E ts)
