-- The faces and the strips of one triangle, over any kind X of name for a vertex.
use Rattle.std.specs.Prelude.{List, [], ◌∷◌, ◌++◌, ℕ, zero, suc, ◌-◌, cond, leb}

abbrev pub Face : Type 0 → Type 0
Face X = X × X × X

-- The contents of a triangle: what lies inside its edges. `more` is a ring of corners a, b, c and three sides of L each,
-- read at positions counted from 0, around contents of its own.
pub data Contents (X : Type 0) : Type 0 where
  none : Contents X
  one : (x : X) → Contents X
  three : (a b c : X) → Contents X
  six : (a b c ab bc ca : X) → Contents X
  more : (a b c : X) (L : ℕ) (ab bc ca : ℕ → X) → Contents X → Contents X

-- What is read to write one ring of faces or one strip: the corners and the edges of a triangle, or of a `more`, as it reads
-- them, and the positions AB, BC, CA of its contents, seen from outside.
pub record Ring (X : Type 0) : Type 0 where
  pub a : X
  pub b : X
  pub c : X
  pub ab : ℕ → X
  pub bc : ℕ → X
  pub ca : ℕ → X
  pub AB : ℕ → X
  pub BC : ℕ → X
  pub CA : ℕ → X

-- f at i, i + 1, .., k of them
abbrev pub up : {Y : Type 0} → ℕ → ℕ → (ℕ → List Y) → List Y
up i zero f = []
up i (suc k) f = f i ++ up (suc i) k f

-- f at k, k - 1, .., 1
abbrev pub down : {Y : Type 0} → ℕ → (ℕ → List Y) → List Y
down zero f = []
down (suc k) f = f (suc k) ++ down k f

module _ {X : Type 0} where
  -- the one of side s
  abbrev pub pick : ℕ → X → X → X → X
  pick zero x y z = x
  pick (suc zero) x y z = y
  pick (suc (suc s)) x y z = z

  -- b, c, a for a, b, c in every name
  abbrev pub turn : Ring X → Ring X
  turn r = record { a = r.b; b = r.c; c = r.a; ab = r.bc; bc = r.ca; ca = r.ab; AB = r.BC; BC = r.CA; CA = r.AB }

  -- a formula and its two turns
  abbrev pub turns : {Y : Type 0} → (Ring X → List Y) → Ring X → List Y
  turns f r = f r ++ (f (turn r) ++ f (turn (turn r)))

  -- position i of a side that runs from p over the L vertices of s to q
  abbrev pub on_side : X → ℕ → (ℕ → X) → X → ℕ → X
  on_side p L s q zero = p
  on_side p L s q (suc i) = cond (leb (suc i) L) (s i) q

  -- how many positions each side of the contents has, seen from outside
  abbrev pub positions : Contents X → ℕ
  positions none = 0
  positions (one x) = 1
  positions (three a b c) = 2
  positions (six a b c ab bc ca) = 3
  positions (more a b c L ab bc ca s) = suc (suc L)

  -- the positions of the contents: side AB, BC, CA; d is read where there are no contents, and no formula reads beyond the last position
  abbrev pub pos_ab : X → Contents X → ℕ → X
  pos_ab d none i = d
  pos_ab d (one x) i = x
  pos_ab d (three a b c) i = on_side a 0 (λ j. a) b i
  pos_ab d (six a b c ab bc ca) i = on_side a 1 (λ j. ab) b i
  pos_ab d (more a b c L ab bc ca s) i = on_side a L ab b i

  abbrev pub pos_bc : X → Contents X → ℕ → X
  pos_bc d none i = d
  pos_bc d (one x) i = x
  pos_bc d (three a b c) i = on_side b 0 (λ j. b) c i
  pos_bc d (six a b c ab bc ca) i = on_side b 1 (λ j. bc) c i
  pos_bc d (more a b c L ab bc ca s) i = on_side b L bc c i

  abbrev pub pos_ca : X → Contents X → ℕ → X
  pos_ca d none i = d
  pos_ca d (one x) i = x
  pos_ca d (three a b c) i = on_side c 0 (λ j. c) a i
  pos_ca d (six a b c ab bc ca) i = on_side c 1 (λ j. ca) a i
  pos_ca d (more a b c L ab bc ca s) i = on_side c L ca a i

  abbrev pub ring_of : (a b c : X) (ab bc ca : ℕ → X) → Contents X → Ring X
  ring_of a b c ab bc ca s =
      record { a = a; b = b; c = c; ab = ab; bc = bc; ca = ca; AB = pos_ab a s; BC = pos_bc a s; CA = pos_ca a s }

  -- a ring whose edges have 3 vertices or more, the last of them numbered z: the tip of each corner, the heel behind each tip,
  -- the pairs along each edge, and the end of each edge
  abbrev pub tips : ℕ → Ring X → List (Face X)
  tips z r = turns (λ t. (t.a, t.ab 0, t.ca z) ∷ []) r

  abbrev pub heels : ℕ → Ring X → List (Face X)
  heels z r = turns (λ t. (t.ab 0, t.AB 0, t.ca z) ∷ []) r

  abbrev pub pairs : ℕ → Ring X → List (Face X)
  pairs i r = turns (λ t. (t.ab i, t.ab (suc i), t.AB i) ∷ (t.ab (suc i), t.AB (suc i), t.AB i) ∷ []) r

  -- where z is k + 2
  abbrev pub ends : ℕ → Ring X → List (Face X)
  ends k r = turns (λ t. (t.ab (suc (suc k)), t.AB (suc k), t.ab (suc k)) ∷ []) r

  -- the faces of a ring whose edges have m vertices each
  abbrev pub ring_faces : ℕ → Ring X → List (Face X)
  ring_faces zero r = (r.a, r.b, r.c) ∷ []
  ring_faces (suc zero) r =
      turns (λ t. (t.a, t.ab 0, t.ca 0) ∷ []) r ++ ((r.ab 0, r.bc 0, r.ca 0) ∷ [])
  ring_faces (suc (suc zero)) r =
      turns (λ t. (t.a, t.ab 0, t.ca 1) ∷ []) r
      ++ turns (λ t. (t.ab 1, t.AB 0, t.ab 0) ∷ []) r
      ++ turns (λ t. (t.ab 0, t.AB 0, t.ca 1) ∷ []) r
  ring_faces (suc (suc (suc k))) r = tips (suc (suc k)) r ++ heels (suc (suc k)) r ++ up 0 (suc k) (λ i. pairs i r) ++ ends k r

  abbrev pub contents_faces : Contents X → List (Face X)
  contents_faces none = []
  contents_faces (one x) = []
  contents_faces (three a b c) = (a, b, c) ∷ []
  contents_faces (six a b c ab bc ca) = (a, ab, ca) ∷ (ab, b, bc) ∷ (bc, c, ca) ∷ (ab, bc, ca) ∷ []
  contents_faces (more a b c L ab bc ca s) = ring_faces L (ring_of a b c ab bc ca s) ++ contents_faces s

  -- the faces of one triangle: its own ring, then its contents
  abbrev pub triangle_faces : ℕ → (a b c : X) (ab bc ca : ℕ → X) → Contents X → List (Face X)
  triangle_faces m a b c ab bc ca s = ring_faces m (ring_of a b c ab bc ca s) ++ contents_faces s

  -- every name of a ring, then of its contents
  abbrev pub ring_list : ℕ → (a b c : X) (ab bc ca : ℕ → X) → List X
  ring_list m a b c ab bc ca =
      a ∷ b ∷ c ∷ (up 0 m (λ i. ab i ∷ []) ++ (up 0 m (λ i. bc i ∷ []) ++ up 0 m (λ i. ca i ∷ [])))

  abbrev pub contents_list : Contents X → List X
  contents_list none = []
  contents_list (one x) = x ∷ []
  contents_list (three a b c) = a ∷ b ∷ c ∷ []
  contents_list (six a b c ab bc ca) = a ∷ b ∷ c ∷ ab ∷ bc ∷ ca ∷ []
  contents_list (more a b c L ab bc ca s) = ring_list L a b c ab bc ca ++ contents_list s

  -- down one edge, to and fro between it and the contents
  abbrev pub zigzag : ℕ → (ℕ → X) → (ℕ → X) → List X
  zigzag r s S = down r (λ i. s i ∷ S (i - 1) ∷ []) ++ (s 0 ∷ [])

  -- the strip of a writing whose edges have m vertices each
  abbrev pub ring_strip : ℕ → Ring X → List X
  ring_strip zero r = []
  ring_strip (suc zero) r = r.ab 0 ∷ r.bc 0 ∷ r.ca 0 ∷ r.ab 0 ∷ []
  ring_strip (suc (suc zero)) r =
      let x : X = r.AB 0 in
      x ∷ r.ab 1 ∷ r.bc 0 ∷ x ∷ r.bc 1 ∷ r.ca 0 ∷ x ∷ r.ca 1 ∷ r.ab 0 ∷ x ∷ []
  ring_strip (suc (suc (suc k))) r =
      up 0 (suc k) (λ i. r.AB i ∷ []) ++ up 0 (suc k) (λ i. r.BC i ∷ []) ++ up 0 (suc k) (λ i. r.CA i ∷ [])
      ++ (r.AB 0 ∷ r.ab 0 ∷ [])
      ++ zigzag (suc (suc k)) r.ca r.CA ++ zigzag (suc (suc k)) r.bc r.BC ++ zigzag (suc (suc k)) r.ab r.AB

  abbrev pub contents_strips : Contents X → List (List X)
  contents_strips none = []
  contents_strips (one x) = []
  contents_strips (three a b c) = []
  contents_strips (six a b c ab bc ca) = ring_strip 1 (ring_of a b c (λ i. ab) (λ i. bc) (λ i. ca) none) ∷ []
  contents_strips (more a b c L ab bc ca s) = ring_strip L (ring_of a b c ab bc ca s) ∷ contents_strips s

  -- the strips of one triangle, a break after each
  abbrev pub triangle_strips : ℕ → (a b c : X) (ab bc ca : ℕ → X) → Contents X → List (List X)
  triangle_strips m a b c ab bc ca s = ring_strip m (ring_of a b c ab bc ca s) ∷ contents_strips s

  -- the closing side of a writing whose edges have 3 vertices or more: between ab0 and AB(0)
  abbrev pub ring_closing : ℕ → Ring X → List (X × X)
  ring_closing zero r = []
  ring_closing (suc zero) r = []
  ring_closing (suc (suc zero)) r = []
  ring_closing (suc (suc (suc k))) r = (r.ab 0, r.AB 0) ∷ []

  abbrev pub contents_closing : Contents X → List (X × X)
  contents_closing none = []
  contents_closing (one x) = []
  contents_closing (three a b c) = []
  contents_closing (six a b c ab bc ca) = []
  contents_closing (more a b c L ab bc ca s) = ring_closing L (ring_of a b c ab bc ca s) ++ contents_closing s

  -- the closing sides of one triangle's writings
  abbrev pub triangle_closing : ℕ → (a b c : X) (ab bc ca : ℕ → X) → Contents X → List (X × X)
  triangle_closing m a b c ab bc ca s = ring_closing m (ring_of a b c ab bc ca s) ++ contents_closing s

-- the same with each name x replaced by f x
module _ {X Y : Type 0} (f : X → Y) where
  abbrev pub map_face : Face X → Face Y
  map_face t = (f t.0, f t.1, f t.2)

  abbrev pub map_contents : Contents X → Contents Y
  map_contents none = none
  map_contents (one x) = one (f x)
  map_contents (three a b c) = three (f a) (f b) (f c)
  map_contents (six a b c ab bc ca) = six (f a) (f b) (f c) (f ab) (f bc) (f ca)
  map_contents (more a b c L ab bc ca s) =
      more (f a) (f b) (f c) L (λ i. f (ab i)) (λ i. f (bc i)) (λ i. f (ca i)) (map_contents s)

  abbrev pub map_ring : Ring X → Ring Y
  map_ring r =
      record {
        a = f r.a;
        b = f r.b;
        c = f r.c;
        ab = λ i. f (r.ab i);
        bc = λ i. f (r.bc i);
        ca = λ i. f (r.ca i);
        AB = λ i. f (r.AB i);
        BC = λ i. f (r.BC i);
        CA = λ i. f (r.CA i);
      }
