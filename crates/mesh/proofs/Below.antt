-- Every number of a face or a strip is below the total.
use Rattle.std.proofs.Common.{ℕ, zero, suc, ◌+◌, ◌<◌, ◌≤◌, Bool, true, false, eqb, List, [], ◌∷◌, ◌++◌, length, refl, arith}
use native.Mathlib.Decide.{dec_le}
use Rattle.pattern.specs.Place.{Patch, patch_faces, patch_strips, all_faces}
use Rattle.pattern.specs.Ring.{Face}
use Rattle.pattern.specs.Sides.{occ, among}
use Rattle.pattern.specs.Step.{NumberedContents, vertices, range, OfCount}
use Rattle.pattern.proofs.Below.{FaceBelow, faces_below, strips_below}
use Rattle.pattern.proofs.Occurrences.{occ-cons, hits_yes, occ-++, occ_alike, range_in, range_above}
use Rattle.shape.specs.declared.triangle.Triangle.{Triangle}
use Rattle.shape.specs.Lists.{Each}
use Rattle.shape.specs.Questions.{Below, Accepted}
use Rattle.shape.specs.Sides.{Use, uses}
use Rattle.mesh.specs.Faces.{at, patches_from, patches, faces, faces_of, faces_or_none, face_numbers, edge_path}
use Rattle.mesh.specs.Numbering.{Numbering, flat, inners, given, edge_of}
use Rattle.mesh.specs.Strips.{strips_or_none, major_from, unless_seen, major_strips, patches_strips, NumbersAreBelow}
use Rattle.mesh.proofs.Boundary.{Ends, uses_ends}
use Rattle.mesh.proofs.Invariant.{Inv, reached_inv}
use Rattle.mesh.proofs.Placed.{patch, corner_below, edge_below, one_edge, on_edge}

-- ---- lists
each-++ : {X : Type 0} (R : X → Type 0) (l m : List X) → Each R l → Each R m → Each R (l ++ m)
each-++ R [] m a b = b
each-++ R (x ∷ l) m a b = (a.0, each-++ R l m a.1 b)

each_occ : (Z : ℕ) (l : List ℕ) → ((x : ℕ) → 1 ≤ occ x l → x < Z) → Each (λ x. x < Z) l
each_occ Z [] f = tt
each_occ Z (y ∷ l) f =
    (f y (omega (arith, occ-cons y y l, hits_yes y y refl)), each_occ Z l (λ x c. f x (omega (arith, occ-cons x y l))))

numbers : (Z : ℕ) (l : List (Face ℕ)) → Each (FaceBelow Z) l → Each (λ x. x < Z) (face_numbers l)
numbers Z [] a = tt
numbers Z (f ∷ l) a = (a.0.0, (a.0.1, (a.0.2, numbers Z l a.1)))

module _ (P E : ℕ) (ts : List Triangle) (A : Accepted P E ts) (N : Numbering) (I : Inv P E (length ts) N) where
  abbrev Z : ℕ
  Z = N.total

  given_below : (x : ℕ) → 1 ≤ occ x (range 0 P) + occ x (flat N.edges) + occ x (inners N.contents) → x < Z
  given_below x c = go (dec_le N.total x)
    where
      go : Dec (N.total ≤ x) → x < N.total
      go (no l) = omega arith
      go (yes l) =
          absurd (let z : ⊥
          = omega (
            arith,
            occ_alike (given P N) (range 0 N.total) I.all x,
            range_above x 0 N.total (omega arith),
            occ-++ x (range 0 P) (flat N.edges ++ inners N.contents),
            occ-++ x (flat N.edges) (inners N.contents),
          ) in z)

  point_below : (x : ℕ) → x < P → x < Z
  point_below x l = given_below x (omega (arith, range_in x 0 P (omega arith) (omega arith)))

  edge_number : (x e : ℕ) → e < E → 1 ≤ occ x (edge_of N e) → x < Z
  edge_number x e l c = given_below x (omega (arith, one_edge P E ts A N I x e l))

  abbrev Fine : Patch → Type 0
  Fine t = Each (FaceBelow Z) (patch_faces N.n (edge_of N) t) × Each (Each (λ x. x < Z)) (patch_strips N.n (edge_of N) t)

  fine : (seen : List ℕ) (t : Triangle) (g : NumberedContents) → Below P E t → OfCount N.n g → ((x : ℕ) → 1 ≤ occ x (vertices g) → x < Z) → Fine (patch seen t g)
  fine seen t g b r f =
      let corner = λ (k : ℕ) (l : k < 3). point_below ((patch seen t g).tri.corner k) (corner_below P E t b k) in
      let edge = λ (k i : ℕ) (l : k < 3) (m : i < N.n). edge_number _ ((patch seen t g).tri.edge k) (edge_below P E t b k)
      (on_edge P E ts A N I ((patch seen t g).tri.edge k) i (edge_below P E t b k) m) in (
        faces_below N.n I.small (edge_of N) (patch seen t g) r Z corner edge f,
        strips_below N.n I.small (edge_of N) (patch seen t g) r Z corner edge f,
      )

  all_fine :
      (seen : List ℕ) (us : List Triangle) (gs : List NumberedContents) → Each (Below P E) us → Each (OfCount N.n) gs
      → ((x : ℕ) → 1 ≤ occ x (inners gs) → x < Z) → Each Fine (patches_from seen us gs)
  all_fine seen [] gs b r f = tt
  all_fine seen (t ∷ us) [] b r f = tt
  all_fine seen (t ∷ us) (g ∷ gs) b r f = (
    fine seen t g b.0 r.0 (λ x c. f x (omega (arith, occ-++ x (vertices g) (inners gs)))),
    all_fine (t.ca ∷ t.bc ∷ t.ab ∷ seen) us gs b.1 r.1 (λ x c. f x (omega (arith, occ-++ x (vertices g) (inners gs)))),
  )

  faces_all : (fs : List Patch) → Each Fine fs → Each (FaceBelow Z) (all_faces N.n (edge_of N) fs)
  faces_all [] a = tt
  faces_all (t ∷ fs) a =
      each-++ (FaceBelow Z) (patch_faces N.n (edge_of N) t) (all_faces N.n (edge_of N) fs) a.0.0 (faces_all fs a.1)

  strips_all : (fs : List Patch) → Each Fine fs → Each (Each (λ x. x < Z)) (patches_strips N.n (edge_of N) fs)
  strips_all [] a = tt
  strips_all (t ∷ fs) a =
      each-++ (Each (λ x. x < Z)) (patch_strips N.n (edge_of N) t) ([] ∷ patches_strips N.n (edge_of N) fs) a.0.1 (tt, strips_all fs a.1)

  faces_one : (fs : List Patch) → Each Fine fs → (t : ℕ) → Each (FaceBelow Z) (faces_or_none N (at fs t))
  faces_one [] a t = tt
  faces_one (f ∷ fs) a zero = a.0.0
  faces_one (f ∷ fs) a (suc t) = faces_one fs a.1 t

  strips_one : (fs : List Patch) → Each Fine fs → (t : ℕ) → Each (Each (λ x. x < Z)) (strips_or_none N (at fs t))
  strips_one [] a t = tt
  strips_one (f ∷ fs) a zero = a.0.1
  strips_one (f ∷ fs) a (suc t) = strips_one fs a.1 t

  path_below : (u : Use) → Ends P E u → Each (λ x. x < Z) (edge_path N u)
  path_below u d = (
    point_below u.start d.start<P,
    each-++ (λ x. x < Z) (edge_of N u.edge) (u.stop ∷ []) (each_occ Z (edge_of N u.edge) (λ x c. edge_number x u.edge d.edge<E c))
        (point_below u.stop d.stop<P, tt),
  )

  major_all : (seen : List ℕ) (us : List Use) → Each (Ends P E) us → Each (Each (λ x. x < Z)) (major_from seen N us)
  major_all seen [] d = tt
  major_all seen (u ∷ us) d = go (among eqb u.edge seen) (path_below u d.0) (major_all (u.edge ∷ seen) us d.1)
    where
      go :
          (b : Bool) → Each (λ x. x < N.total) (edge_path N u) → Each (Each (λ x. x < N.total)) (major_from (u.edge ∷ seen) N us)
          → Each (Each (λ x. x < N.total)) (unless_seen b (edge_path N u) (major_from (u.edge ∷ seen) N us))
      go true p r = r
      go false p r = (p, r)

pub numbers_below : NumbersAreBelow
numbers_below P E ts A N R =
    record {
      triangle_faces = λ t. numbers N.total (faces_of ts N t) (faces_one P E ts A N I (patches ts N) F t);
      all_faces = numbers N.total (faces ts N) (faces_all P E ts A N I (patches ts N) F);
      triangle_lines = λ t. strips_one P E ts A N I (patches ts N) F t;
      major_lines = M;
      all_lines =
          each-++ (Each (λ x. x < N.total)) (patches_strips N.n (edge_of N) (patches ts N)) (major_strips ts N)
          (strips_all P E ts A N I (patches ts N) F) M;
    }
  where
    I : Inv P E (length ts) N
    I = reached_inv P E ts N R

    F : Each (Fine P E ts A N I) (patches ts N)
    F = all_fine P E ts A N I [] ts N.contents A.below I.right (λ x c. given_below P E ts A N I x (omega arith))

    M : Each (Each (λ x. x < N.total)) (major_strips ts N)
    M = major_all P E ts A N I [] (uses ts) (uses_ends P E ts A.below A.three)
