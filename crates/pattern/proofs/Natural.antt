-- The faces and the strips of renamed vertices are the renamed faces and strips.
use mathlib.Core.Path.{◌≡◌, refl, sym, ◌∙◌, ap, ap₂}
use mathlib.Core.List.{List, [], ◌∷◌, ◌++◌, map, map-append}
use mathlib.Core.Bool.{Bool, true, false, cond}
use Prim.Native.Nat.{ℕ, zero, suc, ◌-◌}
use lib.Dec.{leb}
use Rattle.pattern.specs.Ring.{Face, Contents, none, one, three, six, more, Ring, up, down, on_side, pos_ab, pos_bc, pos_ca, ring_of, tips, heels, pairs, ends, ring_faces, contents_faces, triangle_faces, zigzag, ring_strip, contents_strips, triangle_strips, ring_closing, contents_closing, triangle_closing, map_face, map_contents, map_ring}
use Rattle.pattern.specs.Sides.{Side, face_sides, path_from, path_sides, shown_by, back, map_side}

pub up-map : {Y Z : Type 0} (g : Y → Z) (i k : ℕ) (h : ℕ → List Y) → up i k (λ j. map g (h j)) ≡ map g (up i k h)
up-map g i zero h = refl
up-map g i (suc k) h = ap (λ l. map g (h i) ++ l) (up-map g (suc i) k h) ∙ sym (map-append g (h i) (up (suc i) k h))

down-map : {Y Z : Type 0} (g : Y → Z) (k : ℕ) (h : ℕ → List Y) → down k (λ j. map g (h j)) ≡ map g (down k h)
down-map g zero h = refl
down-map g (suc k) h = ap (λ l. map g (h (suc k)) ++ l) (down-map g k h) ∙ sym (map-append g (h (suc k)) (down k h))

pub join : {Y Z : Type 0} (g : Y → Z) (l m : List Y) (l' m' : List Z) → l' ≡ map g l → m' ≡ map g m → l' ++ m' ≡ map g (l ++ m)
join g l m l' m' d e = ap₂ (λ x y. x ++ y) d e ∙ sym (map-append g l m)

module _ {X Y : Type 0} (f : X → Y) where
  cond_map : (b : Bool) (x y : X) → cond b (f x) (f y) ≡ f (cond b x y)
  cond_map true x y = refl
  cond_map false x y = refl

  side-map : (p : X) (L : ℕ) (s : ℕ → X) (q : X) (i : ℕ) → on_side (f p) L (λ j. f (s j)) (f q) i ≡ f (on_side p L s q i)
  side-map p L s q zero = refl
  side-map p L s q (suc i) = cond_map (leb (suc i) L) (s i) q

  AB_map : (d : X) (s : Contents X) (i : ℕ) → pos_ab (f d) (map_contents f s) i ≡ f (pos_ab d s i)
  AB_map d none i = refl
  AB_map d (one x) i = refl
  AB_map d (three a b c) i = side-map a 0 (λ j. a) b i
  AB_map d (six a b c ab bc ca) i = side-map a 1 (λ j. ab) b i
  AB_map d (more a b c L ab bc ca s) i = side-map a L ab b i

  BC_map : (d : X) (s : Contents X) (i : ℕ) → pos_bc (f d) (map_contents f s) i ≡ f (pos_bc d s i)
  BC_map d none i = refl
  BC_map d (one x) i = refl
  BC_map d (three a b c) i = side-map b 0 (λ j. b) c i
  BC_map d (six a b c ab bc ca) i = side-map b 1 (λ j. bc) c i
  BC_map d (more a b c L ab bc ca s) i = side-map b L bc c i

  CA_map : (d : X) (s : Contents X) (i : ℕ) → pos_ca (f d) (map_contents f s) i ≡ f (pos_ca d s i)
  CA_map d none i = refl
  CA_map d (one x) i = refl
  CA_map d (three a b c) i = side-map c 0 (λ j. c) a i
  CA_map d (six a b c ab bc ca) i = side-map c 1 (λ j. ca) a i
  CA_map d (more a b c L ab bc ca s) i = side-map c L ca a i

  ring_map :
      (a b c : X) (ab bc ca : ℕ → X) (s : Contents X)
      → ring_of (f a) (f b) (f c) (λ i. f (ab i)) (λ i. f (bc i)) (λ i. f (ca i)) (map_contents f s)
      ≡ map_ring f (ring_of a b c ab bc ca s)
  ring_map a b c ab bc ca s =
      λ i. record {
        a = f a;
        b = f b;
        c = f c;
        ab = λ j. f (ab j);
        bc = λ j. f (bc j);
        ca = λ j. f (ca j);
        AB = λ j. AB_map a s j i;
        BC = λ j. BC_map a s j i;
        CA = λ j. CA_map a s j i;
      }

  ring_faces-map : (m : ℕ) (r : Ring X) → ring_faces m (map_ring f r) ≡ map (map_face f) (ring_faces m r)
  ring_faces-map zero r = refl
  ring_faces-map (suc zero) r = refl
  ring_faces-map (suc (suc zero)) r = refl
  ring_faces-map (suc (suc (suc k))) r =
      let g : Face X → Face Y = map_face f in
      let z : ℕ = suc (suc k) in
      let P : ℕ → List (Face X) = λ i. pairs i r in
      let H : List (Face X) = tips z r ++ heels z r in
      join g (H ++ up 0 (suc k) P) (ends k r) (map g H ++ up 0 (suc k) (λ i. pairs i (map_ring f r))) (ends k (map_ring f r))
      (join g H (up 0 (suc k) P) (map g H) (up 0 (suc k) (λ i. pairs i (map_ring f r))) refl (up-map g 0 (suc k) P))
      refl

  contents_faces-map : (s : Contents X) → contents_faces (map_contents f s) ≡ map (map_face f) (contents_faces s)
  contents_faces-map none = refl
  contents_faces-map (one x) = refl
  contents_faces-map (three a b c) = refl
  contents_faces-map (six a b c ab bc ca) = refl
  contents_faces-map (more a b c L ab bc ca s) =
      ap₂ (λ x y. x ++ y) (ap (ring_faces L) (ring_map a b c ab bc ca s) ∙ ring_faces-map L (ring_of a b c ab bc ca s)) (contents_faces-map s)
      ∙ sym (map-append (map_face f) (ring_faces L (ring_of a b c ab bc ca s)) (contents_faces s))

  pub triangle_faces-map :
      (m : ℕ) (a b c : X) (ab bc ca : ℕ → X) (s : Contents X)
      → triangle_faces m (f a) (f b) (f c) (λ i. f (ab i)) (λ i. f (bc i)) (λ i. f (ca i)) (map_contents f s)
      ≡ map (map_face f) (triangle_faces m a b c ab bc ca s)
  triangle_faces-map m a b c ab bc ca s =
      ap₂ (λ x y. x ++ y) (ap (ring_faces m) (ring_map a b c ab bc ca s) ∙ ring_faces-map m (ring_of a b c ab bc ca s)) (contents_faces-map s)
      ∙ sym (map-append (map_face f) (ring_faces m (ring_of a b c ab bc ca s)) (contents_faces s))

  zigzag-map : (r : ℕ) (s S : ℕ → X) → zigzag r (λ i. f (s i)) (λ i. f (S i)) ≡ map f (zigzag r s S)
  zigzag-map r s S =
      let h : ℕ → List X = λ i. s i ∷ S (i - 1) ∷ [] in
      join f (down r h) (s 0 ∷ []) (down r (λ i. map f (h i))) (f (s 0) ∷ []) (down-map f r h) refl

  ring_strip-map : (m : ℕ) (r : Ring X) → ring_strip m (map_ring f r) ≡ map f (ring_strip m r)
  ring_strip-map zero r = refl
  ring_strip-map (suc zero) r = refl
  ring_strip-map (suc (suc zero)) r = refl
  ring_strip-map (suc (suc (suc k))) r =
      let z : ℕ = suc (suc k) in
      let u : (ℕ → X) → List X = λ s. up 0 (suc k) (λ i. s i ∷ []) in
      let v : (s : ℕ → X) → up 0 (suc k) (λ i. f (s i) ∷ []) ≡ map f (u s) = λ s. up-map f 0 (suc k) (λ i. s i ∷ []) in
      let y : (ℕ → X) → (ℕ → X) → List X = λ s S. zigzag z s S in
      let A : List X = u r.AB in
      let B : List X = A ++ u r.BC in
      let C : List X = B ++ u r.CA in
      let D : List X = C ++ (r.AB 0 ∷ r.ab 0 ∷ []) in
      let E : List X = D ++ y r.ca r.CA in
      let F : List X = E ++ y r.bc r.BC in
      joined F (y r.ab r.AB)
      (joined E (y r.bc r.BC)
      (joined D (y r.ca r.CA)
      (joined C (r.AB 0 ∷ r.ab 0 ∷ [])
      (joined B (u r.CA) (joined A (u r.BC) (v r.AB) (v r.BC)) (v r.CA))
      refl)
      (zigzag-map z r.ca r.CA))
      (zigzag-map z r.bc r.BC))
      (zigzag-map z r.ab r.AB)
    where
      joined : (l m : List X) {l' m' : List Y} → l' ≡ map f l → m' ≡ map f m → l' ++ m' ≡ map f (l ++ m)
      joined l m {l'} {m'} d e = join f l m l' m' d e

  contents_strips-map : (s : Contents X) → contents_strips (map_contents f s) ≡ map (map f) (contents_strips s)
  contents_strips-map none = refl
  contents_strips-map (one x) = refl
  contents_strips-map (three a b c) = refl
  contents_strips-map (six a b c ab bc ca) = refl
  contents_strips-map (more a b c L ab bc ca s) =
      ap₂ (λ x y. x ∷ y) (ap (ring_strip L) (ring_map a b c ab bc ca s) ∙ ring_strip-map L (ring_of a b c ab bc ca s)) (contents_strips-map s)

  pub triangle_strips-map :
      (m : ℕ) (a b c : X) (ab bc ca : ℕ → X) (s : Contents X)
      → triangle_strips m (f a) (f b) (f c) (λ i. f (ab i)) (λ i. f (bc i)) (λ i. f (ca i)) (map_contents f s)
      ≡ map (map f) (triangle_strips m a b c ab bc ca s)
  triangle_strips-map m a b c ab bc ca s =
      ap₂ (λ x y. x ∷ y) (ap (ring_strip m) (ring_map a b c ab bc ca s) ∙ ring_strip-map m (ring_of a b c ab bc ca s)) (contents_strips-map s)

  pub face_sides-map : (l : List (Face X)) → face_sides (map (map_face f) l) ≡ map (map_side f) (face_sides l)
  face_sides-map [] = refl
  face_sides-map (t ∷ l) =
      ap (λ m. (f t.0, f t.1) ∷ (f t.1, f t.2) ∷ (f t.2, f t.0) ∷ m) (face_sides-map l)

  path_from-map : (x : X) (l : List X) → path_from (f x) (map f l) ≡ map (map_side f) (path_from x l)
  path_from-map x [] = refl
  path_from-map x (y ∷ l) = ap (λ m. (f x, f y) ∷ m) (path_from-map y l)

  pub path_sides-map : (l : List X) → path_sides (map f l) ≡ map (map_side f) (path_sides l)
  path_sides-map [] = refl
  path_sides-map (x ∷ l) = path_from-map x l

  pub back-map : (l : List (Side X)) → back (map (map_side f) l) ≡ map (map_side f) (back l)
  back-map [] = refl
  back-map (s ∷ l) = ap (λ m. (f s.1, f s.0) ∷ m) (back-map l)

  pub shown_by-map : (l : List (List X)) → shown_by (map (map f) l) ≡ map (map_side f) (shown_by l)
  shown_by-map [] = refl
  shown_by-map (s ∷ l) = join (map_side f) (path_sides s) (shown_by l) (path_sides (map f s)) (shown_by (map (map f) l)) (path_sides-map s) (shown_by-map l)

  ring_closing-map : (m : ℕ) (r : Ring X) → ring_closing m (map_ring f r) ≡ map (map_side f) (ring_closing m r)
  ring_closing-map zero r = refl
  ring_closing-map (suc zero) r = refl
  ring_closing-map (suc (suc zero)) r = refl
  ring_closing-map (suc (suc (suc k))) r = refl

  contents_closing-map : (s : Contents X) → contents_closing (map_contents f s) ≡ map (map_side f) (contents_closing s)
  contents_closing-map none = refl
  contents_closing-map (one x) = refl
  contents_closing-map (three a b c) = refl
  contents_closing-map (six a b c ab bc ca) = refl
  contents_closing-map (more a b c L ab bc ca s) =
      ap₂ (λ x y. x ++ y) (ap (ring_closing L) (ring_map a b c ab bc ca s) ∙ ring_closing-map L (ring_of a b c ab bc ca s)) (contents_closing-map s)
      ∙ sym (map-append (map_side f) (ring_closing L (ring_of a b c ab bc ca s)) (contents_closing s))

  pub triangle_closing-map :
      (m : ℕ) (a b c : X) (ab bc ca : ℕ → X) (s : Contents X)
      → triangle_closing m (f a) (f b) (f c) (λ i. f (ab i)) (λ i. f (bc i)) (λ i. f (ca i)) (map_contents f s)
      ≡ map (map_side f) (triangle_closing m a b c ab bc ca s)
  triangle_closing-map m a b c ab bc ca s =
      ap₂ (λ x y. x ++ y) (ap (ring_closing m) (ring_map a b c ab bc ca s) ∙ ring_closing-map m (ring_of a b c ab bc ca s)) (contents_closing-map s)
      ∙ sym (map-append (map_side f) (ring_closing m (ring_of a b c ab bc ca s)) (contents_closing s))
