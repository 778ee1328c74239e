-- How the buffer of points is calculated: the writes in their order.
use Rattle.std.specs.Prelude.{◌≡◌, ℕ, suc, ◌-◌, cond, List, [], ◌∷◌, ◌++◌, length, slice_index, slice_index_or, slice_set}
use Rattle.pattern.specs.Place.{next_side, Patch, reading}
use Rattle.pattern.specs.Ring.{up, Contents, none, one, three, six, more}
use Rattle.pattern.specs.Step.{view}
use Rattle.shape.specs.Listing.{placed}
use Rattle.shape.specs.declared.triangle.Triangle.{Triangle}
use Rattle.mesh.specs.Numbering.{Numbering, edge_of}
use Rattle.mesh.specs.Faces.{patches}

-- What a base means: its points, its triangles, how many edges it has, and its two rules, over points of any kind and
-- fractions of any kind.
pub record Meaning (Point Frac : Type 0) : Type 0 where
  pub points : List Point
  pub triangles : List Triangle
  pub edges : ℕ
  pub between : Point → Point → Frac → Point
  pub half : Point → Point → Point

-- what is written: a point at x; at x the half of what p and q hold;
-- at xs 0 to xs (m - 1) in turn the points between what p and q hold
pub data Write (Point : Type 0) : Type 0 where
  put : (x : ℕ) (p : Point) → Write Point
  middle : (x p q : ℕ) → Write Point
  along : (m : ℕ) (xs : ℕ → ℕ) (p q : ℕ) → Write Point

module _ {Point : Type 0} where
  -- the base's points, at i, i + 1, ..
  abbrev pub point_writes : ℕ → List Point → List (Write Point)
  point_writes i [] = []
  point_writes i (p ∷ ps) = put i p ∷ point_writes (suc i) ps

  -- the corners of contents within edges of length m
  abbrev pub tip_writes : ℕ → (ab bc ca : ℕ → ℕ) (a b c : ℕ) → List (Write Point)
  tip_writes m ab bc ca a b c = middle a (ab 1) (ca (m - 2)) ∷ middle b (ab (m - 2)) (bc 1) ∷ middle c (bc (m - 2)) (ca 1) ∷ []

  -- the contents within edges of length m
  abbrev pub contents_writes : ℕ → (ab bc ca : ℕ → ℕ) → Contents ℕ → List (Write Point)
  contents_writes m ab bc ca none = []
  contents_writes m ab bc ca (one x) = middle x (ab 0) (bc 1) ∷ []
  contents_writes m ab bc ca (three a b c) = middle a (ab 1) (ca 1) ∷ middle b (bc 1) (ab 1) ∷ middle c (ca 1) (bc 1) ∷ []
  contents_writes m ab bc ca (six a b c sab sbc sca) =
      tip_writes m ab bc ca a b c ++ (middle sab a b ∷ middle sbc b c ∷ middle sca c a ∷ [])
  contents_writes m ab bc ca (more a b c L sab sbc sca s) =
      tip_writes m ab bc ca a b c ++ (along L sab a b ∷ along L sbc b c ∷ along L sca c a ∷ contents_writes L sab sbc sca s)

  -- side k's edge, where the triangle is the first to reach it
  abbrev pub edge_writes : ℕ → (ℕ → List ℕ) → Patch → ℕ → List (Write Point)
  edge_writes n E t k =
      cond (t.forth k) (along n (λ i. slice_index (E (t.tri.edge k)) i) (t.tri.corner k) (t.tri.corner (next_side k)) ∷ []) []

  -- a triangle's edges ab, bc, ca, then its contents
  abbrev pub patch_writes : ℕ → (ℕ → List ℕ) → Patch → List (Write Point)
  patch_writes n E t =
      edge_writes n E t 0 ++ (edge_writes n E t 1 ++ (edge_writes n E t 2
      ++ contents_writes n (reading n E t 0) (reading n E t 1) (reading n E t 2) (view t.inner)))

  abbrev pub patches_writes : ℕ → (ℕ → List ℕ) → List Patch → List (Write Point)
  patches_writes n E [] = []
  patches_writes n E (t ∷ ts) = patch_writes n E t ++ patches_writes n E ts

-- the point at place x, and blank where the list has no such place
abbrev pub at : {Point : Type 0} → Point → List Point → ℕ → Point
at blank f x = slice_index_or f x blank

-- share k n is the fraction (k + 1) / (n + 1)
module _ {Point Frac : Type 0} (share : ℕ → ℕ → Frac) (blank : Point) (M : Meaning Point Frac) where
  abbrev pub written : Write Point → List Point → List Point
  written (put x p) f = slice_set f x p
  written (middle x p q) f = slice_set f x (M.half (at blank f p) (at blank f q))
  written (along m xs p q) f = placed (λ i. M.between (at blank f p) (at blank f q) (share i m)) 0 (up 0 m (λ i. xs i ∷ [])) f

  abbrev pub run : List (Write Point) → List Point → List Point
  run [] f = f
  run (w ∷ ws) f = run ws (written w f)

  -- all writes of a mesh over the base, in their order
  abbrev pub writes : Numbering → List (Write Point)
  writes N = point_writes 0 M.points ++ patches_writes N.n (edge_of N) (patches M.triangles N)

  -- the points buffer as calculating leaves it
  abbrev pub calculated : Numbering → List Point → List Point
  calculated N f = run (writes N) f

  -- along a list of vertices the points stand that `interpolate_multiple` gives for that list
  abbrev pub AlongListed : Type 0
  AlongListed =
      (l : List ℕ) (p q : ℕ) (f : List Point)
      → written (along (length l) (λ i. slice_index l i) p q) f ≡ placed (λ i. M.between (at blank f p) (at blank f q) (share i (length l))) 0 l f

abbrev pub AlongStands : Type 0 → Type 0 → Type 0
AlongStands Point Frac = (share : ℕ → ℕ → Frac) (blank : Point) (M : Meaning Point Frac) → AlongListed share blank M
