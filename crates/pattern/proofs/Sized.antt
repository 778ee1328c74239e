-- The kind of contents that each count has.
use Prim.Native.Nat.{ℕ, suc}
use Rattle.pattern.specs.Ring.{Contents, none, one, three, six, more}

-- the contents are of the kind that count n has
pub data Sized {X : Type 0} : ℕ → Contents X → Type 0 where
  sized_0 : Sized 0 none
  sized_1 : Sized 1 none
  sized_2 : {x : X} → Sized 2 (one x)
  sized_3 : {a b c : X} → Sized 3 (three a b c)
  sized_4 : {a b c ab bc ca : X} → Sized 4 (six a b c ab bc ca)
  sized_more :
      {k : ℕ} {a b c : X} {ab bc ca : ℕ → X} {t : Contents X} → Sized (suc (suc k)) t
      → Sized (suc (suc (suc (suc (suc k))))) (more a b c (suc (suc k)) ab bc ca t)
