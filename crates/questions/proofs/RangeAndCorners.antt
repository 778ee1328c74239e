-- The questions 4 and 5, which each triangle answers alone.
use Rattle.std.proofs.Common.{ℕ, Bool, true, not, ◌&&◌, eqb, ltb, [], ◌∷◌, ltb→lt, lt→ltb}
use Rattle.std.specs.List.{list_all}
use Rattle.shape.specs.declared.triangle.Triangle.{Triangle}
use Rattle.shape.specs.Lists.{Each}
use Rattle.shape.specs.Questions.{Below, ThreeCorners, InRange, DifferentCorners}
use Rattle.questions.specs.declared.question.Question.TheVariants.{InRange as AsksRange, DifferentCorners as AsksCorners}
use Rattle.questions.specs.Tests.{below, three, passes}
use Rattle.questions.proofs.Tests.{and_left, and_right, and_in, apart, unequal, every_in, Decides}
use Rattle.questions.proofs.Stepwise.{Stepwise, each_left, each_right, each_join}

alone_stepwise : (R : Triangle → Type 0) (f : Triangle → Bool) → Decides f R → Stepwise (Each R) (λ _. Unit {0}) (λ l x. f x && list_all (λ _. true) l)
alone_stepwise R f d =
    record {
      start = tt;
      adds = λ l x _ _ k t. each_join R l (x ∷ []) k (d.sound x (and_left (f x) (list_all (λ _. true) l) t), tt);
      needs = λ l x _ _ k. and_in (f x) (list_all (λ _. true) l) (d.complete x (each_right R l (x ∷ []) k).0) (every_in (λ _. true) l (λ y i. tt));
      keeps = λ l x k. each_left R l (x ∷ []) k;
    }

below_decides : (P E : ℕ) → Decides (below P E) (Below P E)
below_decides P E =
    record {
      sound = λ t h.
          let b = ltb t.bc E && ltb t.ca E in
          let c = ltb t.ab E && b in
          let d = ltb t.c P && c in
          let e = ltb t.b P && d in
          let h1 = and_right (ltb t.a P) e h in
          let h2 = and_right (ltb t.b P) d h1 in
          let h3 = and_right (ltb t.c P) c h2 in
          let h4 = and_right (ltb t.ab E) b h3 in
          record {
            a<P = ltb→lt t.a P (and_left (ltb t.a P) e h);
            b<P = ltb→lt t.b P (and_left (ltb t.b P) d h1);
            c<P = ltb→lt t.c P (and_left (ltb t.c P) c h2);
            ab<E = ltb→lt t.ab E (and_left (ltb t.ab E) b h3);
            bc<E = ltb→lt t.bc E (and_left (ltb t.bc E) (ltb t.ca E) h4);
            ca<E = ltb→lt t.ca E (and_right (ltb t.bc E) (ltb t.ca E) h4);
          };
      complete = λ t k.
          let b = ltb t.bc E && ltb t.ca E in
          let c = ltb t.ab E && b in
          let d = ltb t.c P && c in
          let e = ltb t.b P && d in
          and_in (ltb t.a P) e (lt→ltb t.a P k.a<P)
          (and_in (ltb t.b P) d (lt→ltb t.b P k.b<P)
          (and_in (ltb t.c P) c (lt→ltb t.c P k.c<P)
          (and_in (ltb t.ab E) b (lt→ltb t.ab E k.ab<E)
          (and_in (ltb t.bc E) (ltb t.ca E) (lt→ltb t.bc E k.bc<E) (lt→ltb t.ca E k.ca<E)))));
    }

three_decides : Decides three ThreeCorners
three_decides =
    record {
      sound = λ t h.
          let b = not (eqb t.b t.c) && not (eqb t.c t.a) in
          let k = and_right (not (eqb t.a t.b)) b h in
          record {
            ab = apart t.a t.b (and_left (not (eqb t.a t.b)) b h);
            bc = apart t.b t.c (and_left (not (eqb t.b t.c)) (not (eqb t.c t.a)) k);
            ca = apart t.c t.a (and_right (not (eqb t.b t.c)) (not (eqb t.c t.a)) k);
          };
      complete = λ t c.
          let b = not (eqb t.b t.c) && not (eqb t.c t.a) in
          and_in (not (eqb t.a t.b)) b (unequal t.a t.b c.ab)
          (and_in (not (eqb t.b t.c)) (not (eqb t.c t.a)) (unequal t.b t.c c.bc) (unequal t.c t.a c.ca));
    }

pub range_stepwise : (P E : ℕ) → Stepwise (InRange P E) (λ _. Unit {0}) (passes (AsksRange P E))
range_stepwise P E = alone_stepwise (Below P E) (below P E) (below_decides P E)

pub corners_stepwise : Stepwise DifferentCorners (λ _. Unit {0}) (passes AsksCorners)
corners_stepwise = alone_stepwise ThreeCorners three three_decides
