-- The vertex at each spot of a triangle, given its corners, edge readings and contents.
use Rattle.std.specs.Prelude.{ℕ, zero, suc}
use Rattle.pattern.specs.Ring.{pick, Contents, none, one, three, six, more}
use Rattle.pattern.specs.Spot.{Spot}

module _ {X : Type 0} where
  abbrev pub on_ring : (a b c : X) (ab bc ca : ℕ → X) (s i : ℕ) → X
  on_ring a b c ab bc ca s zero = pick s a b c
  on_ring a b c ab bc ca s (suc i) = pick s (ab i) (bc i) (ca i)

  -- ring d of the contents, counted from 0; x where there is none
  abbrev pub vertex_in : X → Contents X → ℕ → ℕ → ℕ → X
  vertex_in x none d s i = x
  vertex_in x (one y) d s i = y
  vertex_in x (three a b c) d s i = pick s a b c
  vertex_in x (six a b c ab bc ca) d s i = on_ring a b c (λ j. ab) (λ j. bc) (λ j. ca) s i
  vertex_in x (more a b c L ab bc ca t) zero s i = on_ring a b c ab bc ca s i
  vertex_in x (more a b c L ab bc ca t) (suc d) s i = vertex_in x t d s i

  abbrev pub vertex_at : (a b c : X) (ab bc ca : ℕ → X) → Contents X → ℕ → ℕ → ℕ → X
  vertex_at a b c ab bc ca t zero s i = on_ring a b c ab bc ca s i
  vertex_at a b c ab bc ca t (suc d) s i = vertex_in a t d s i

  abbrev pub vertex_of : (a b c : X) (ab bc ca : ℕ → X) → Contents X → Spot → X
  vertex_of a b c ab bc ca t p = vertex_at a b c ab bc ca t p.0 p.1 p.2
