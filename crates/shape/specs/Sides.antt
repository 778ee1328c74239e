-- The sides and corners of a base's triangles.
use Rattle.std.specs.Prelude.{◌≡◌, ℕ, suc, Bool, true, false, ◌⊎◌, List, [], ◌∷◌, ◌==◌}
use Rattle.shape.specs.declared.triangle.Triangle.{Triangle}

-- a triangle's side: an edge, walked from one corner to the next
pub record Use : Type 0 where
  pub edge : ℕ
  pub start : ℕ
  pub stop : ℕ

abbrev pub walk : ℕ → ℕ → ℕ → Use
walk e p q = record { edge = e; start = p; stop = q }

-- every side of every triangle, in triangle order, there ab, bc, ca
abbrev pub uses : List Triangle → List Use
uses [] = []
uses (t ∷ ts) = walk t.ab t.a t.b ∷ walk t.bc t.b t.c ∷ walk t.ca t.c t.a ∷ uses ts

-- every corner of every triangle
abbrev pub corners : List Triangle → List ℕ
corners [] = []
corners (t ∷ ts) = t.a ∷ t.b ∷ t.c ∷ corners ts

-- u and v join one pair of corners, in the same direction or in opposite ones
abbrev pub SameEnds : Use → Use → Type 0
SameEnds u v = ((u.start ≡ v.start) × (u.stop ≡ v.stop)) ⊎ ((u.start ≡ v.stop) × (u.stop ≡ v.start))

abbrev pub both : Bool → Bool → Bool
both true b = b
both false b = false

-- one more, where the test holds
abbrev pub tick : Bool → ℕ → ℕ
tick true n = suc n
tick false n = n

-- how many sides lie on edge e
abbrev pub use_count : ℕ → List Use → ℕ
use_count e [] = 0
use_count e (u ∷ us) = tick (e == u.edge) (use_count e us)

-- how many sides walk edge e from p to q
abbrev pub way_count : ℕ → ℕ → ℕ → List Use → ℕ
way_count e p q [] = 0
way_count e p q (u ∷ us) = tick (both (e == u.edge) (both (p == u.start) (q == u.stop))) (way_count e p q us)
