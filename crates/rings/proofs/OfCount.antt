-- Contents that go with edges of m vertices are those of count m.
use Rattle.std.proofs.Common.{◌≡◌, ℕ, zero, suc, ◌+◌, ◌≤◌, List, sym, subst, arith}
use Rattle.pattern.specs.Ring.{Contents, one, three, six, more}
use Rattle.pattern.proofs.Sized.{Sized, sized_0, sized_1, sized_2, sized_3, sized_4, sized_more}
use Rattle.rings.specs.declared.contents.Ring.{Ring}
use Rattle.rings.specs.declared.contents.TriangleContents.{TriangleContents}
use Rattle.rings.specs.declared.contents.TriangleContents.TheVariants as kind
use Rattle.rings.specs.Held.{held_view, Fits, ring_at}
use Rattle.rings.specs.Sides.{side_len}

pub sized : (rs : List Ring) (d m : ℕ) (t : TriangleContents) → Fits rs d m t → Sized m (held_view rs d t)
sized rs d zero kind.None h = sized_0
sized rs d (suc zero) kind.None h = sized_1
sized rs d (suc (suc m)) kind.None h = absurd (omega arith)
sized rs d m (kind.One x) h = subst (λ (n : ℕ). Sized n (one x)) (sym h) sized_2
sized rs d m (kind.Three a b c) h = subst (λ (n : ℕ). Sized n (three a b c)) (sym h) sized_3
sized rs d m (kind.Six a b c ab bc ca) h = subst (λ (n : ℕ). Sized n (six a b c ab bc ca)) (sym h) sized_4
sized rs zero m (kind.More i) h = absurd h
sized rs (suc d) m (kind.More i) h = around (side_len (ring_at rs i)) h.1 h.2 (sized rs d (side_len (ring_at rs i)) (ring_at rs i).inner h.4)
  where
    around :
        {a b c : ℕ} {ab bc ca : ℕ → ℕ} {t : Contents ℕ} (L : ℕ) → m ≡ 3 + L → 2 ≤ L → Sized L t
        → Sized m (more a b c L ab bc ca t)
    around zero e l z = absurd (omega arith)
    around (suc zero) e l z = absurd (omega arith)
    around {a = a} {b = b} {c = c} {ab = ab} {bc = bc} {ca = ca} {t = t} (suc (suc k)) e l z =
        let q : suc (suc (suc (suc (suc k)))) ≡ m = omega arith in
        subst (λ (n : ℕ). Sized n (more a b c (suc (suc k)) ab bc ca t)) q (sized_more z)
