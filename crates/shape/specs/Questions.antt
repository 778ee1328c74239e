-- The questions put to a base of P points, E edges and the triangles ts, under their numbers.
use Rattle.std.specs.Prelude.{◌≡◌, ℕ, ◌<◌, ◌≤◌, List, [], ◌∷◌, length}
use Rattle.shape.specs.declared.triangle.Triangle.{Triangle}
use Rattle.shape.specs.Lists.{In, Each, Pairs}
use Rattle.shape.specs.Sides.{Use, uses, corners, SameEnds, use_count, way_count}

-- 2: 1 to 32 triangles
pub record FewTriangles (ts : List Triangle) : Type 0 where
  pub some : 1 ≤ length ts
  pub few : length ts ≤ 32

-- 3: 3 to 96 points and 3 to 96 edges
pub record FewPointsAndEdges (P E : ℕ) : Type 0 where
  pub points : (3 ≤ P) × (P ≤ 96)
  pub edges : (3 ≤ E) × (E ≤ 96)

pub record Below (P E : ℕ) (t : Triangle) : Type 0 where
  pub a<P : t.a < P
  pub b<P : t.b < P
  pub c<P : t.c < P
  pub ab<E : t.ab < E
  pub bc<E : t.bc < E
  pub ca<E : t.ca < E

-- 4: every corner below the point count, every edge number below the edge count
abbrev pub InRange : ℕ → ℕ → List Triangle → Type 0
InRange P E ts = Each (Below P E) ts

pub record ThreeCorners (t : Triangle) : Type 0 where
  pub ab : t.a ≡ t.b → ⊥
  pub bc : t.b ≡ t.c → ⊥
  pub ca : t.c ≡ t.a → ⊥

-- 5: each triangle has three different corners
abbrev pub DifferentCorners : List Triangle → Type 0
DifferentCorners ts = Each ThreeCorners ts

-- 6: each edge number joins one pair of corners, and each pair has one edge number
pub record EdgesMatch (ts : List Triangle) : Type 0 where
  pub one_pair : (u v : Use) → In u (uses ts) → In v (uses ts) → u.edge ≡ v.edge → SameEnds u v
  pub one_edge : (u v : Use) → In u (uses ts) → In v (uses ts) → SameEnds u v → u.edge ≡ v.edge

-- 7: each edge is used at most once in each direction
abbrev pub OneWayEach : List Triangle → Type 0
OneWayEach ts = (e p q : ℕ) → way_count e p q (uses ts) ≤ 1

-- t and u do not have one set of corners
abbrev pub Differ : Triangle → Triangle → Type 0
Differ t u =
    ((x : ℕ) → (In x (corners (t ∷ [])) → In x (corners (u ∷ []))) × (In x (corners (u ∷ [])) → In x (corners (t ∷ [])))) → ⊥

-- 8: all triangles have different sets of corners
abbrev pub DifferentSets : List Triangle → Type 0
DifferentSets ts = Pairs Differ ts

-- 9: every edge is used, and every point is a corner
pub record AllUsed (P E : ℕ) (ts : List Triangle) : Type 0 where
  pub edges : (e : ℕ) → e < E → 1 ≤ use_count e (uses ts)
  pub points : (p : ℕ) → p < P → In p (corners ts)

-- all questions are answered yes: a mesh can be made over the base
pub record Accepted (P E : ℕ) (ts : List Triangle) : Type 0 where
  pub triangles : FewTriangles ts
  pub sizes : FewPointsAndEdges P E
  pub below : InRange P E ts
  pub three : DifferentCorners ts
  pub matching : EdgesMatch ts
  pub each_way : OneWayEach ts
  pub differ : DifferentSets ts
  pub used : AllUsed P E ts
