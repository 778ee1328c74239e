-- How many numbers the face calls write, and how many numbers and breaks the line calls.
use Rattle.std.proofs.Common.{◌≡◌, ℕ, zero, suc, ◌+◌, ◌*◌, ◌<◌, ◌≤◌, Bool, true, false, cond, eqb, List, [], ◌∷◌, ◌++◌, length, Some, sym, refl, ap, ◌∙◌, ap₂, suc-mul, zero-mul, mul-add, arith, length-append}
use Rattle.pattern.specs.Amounts.{lengths, triangle_face_count, triangle_line_numbers, triangle_line_breaks}
use Rattle.pattern.specs.Place.{Patch, patch_faces, patch_strips, all_faces}
use Rattle.pattern.specs.Ring.{Face}
use Rattle.pattern.specs.Sides.{occ, among}
use Rattle.pattern.specs.Step.{NumberedContents, OfCount}
use Rattle.pattern.proofs.Amounts.{amounts}
use Rattle.pattern.proofs.Count.{weigh}
use Rattle.pattern.proofs.Neighbours.{AllPlaced}
use Rattle.shape.specs.declared.triangle.Triangle.{Triangle}
use Rattle.shape.specs.Lists.{Each}
use Rattle.shape.specs.Sides.{Use, uses}
use Rattle.mesh.specs.Faces.{at, patches_from, patches, faces, faces_or_none, face_numbers, edge_path, FacesAreCounted}
use Rattle.mesh.specs.Numbering.{Numbering, edge_of}
use Rattle.mesh.specs.Strips.{strips_or_none, major_from, unless_seen, major_strips, patches_strips, LinesAreCounted}
use Rattle.mesh.proofs.Boundary.{edges_below}
use Rattle.mesh.proofs.Firsts.{firsts, firsts_below, firsts_one}
use Rattle.mesh.proofs.Invariant.{Inv, reached_inv}
use Rattle.mesh.proofs.Placed.{edge_long, all_placed}
use Rattle.mesh.proofs.Sum.{times, sum_to, sum_eq, exchange}

-- ---- one triangle
record There {X : Type 0} (R : X → Type 0) (l : List X) (i : ℕ) : Type 0 where
  pub x : X
  pub is : at l i ≡ Some x
  pub holds : R x

there : {X : Type 0} (R : X → Type 0) (l : List X) → Each R l → (i : ℕ) → i < length l → There R l i
there R [] e i h = absurd (let z : ⊥ = omega arith in z)
there R (x ∷ l) e zero h = record { x = x; is = refl; holds = e.0 }
there R (x ∷ l) e (suc i) h = let r = there R l e.1 i (omega arith) in record { x = r.x; is = r.is; holds = r.holds }

abbrev Full : ℕ → Patch → Type 0
Full n t = OfCount n t.inner

full : (n P : ℕ) (E : ℕ → List ℕ) (ts : List Patch) → AllPlaced n P E ts → Each (Full n) ts
full n P E [] a = tt
full n P E (t ∷ ts) a = (a.0.0, full n P E ts a.2)

pub three_each : (l : List (Face ℕ)) → length (face_numbers l) ≡ 3 * length l
three_each [] = refl
three_each (t ∷ l) = omega (arith, three_each l)

patches_many : (seen : List ℕ) (ts : List Triangle) (gs : List NumberedContents) → length gs ≡ length ts → length (patches_from seen ts gs) ≡ length ts
patches_many seen [] gs e = refl
patches_many seen (t ∷ ts) [] e = absurd (let z : ⊥ = omega arith in z)
patches_many seen (t ∷ ts) (g ∷ gs) e =
    ap suc (patches_many (t.ca ∷ t.bc ∷ t.ab ∷ seen) ts gs (let z : length gs ≡ length ts = omega arith in z))

-- ---- all triangles
all_faces_lem : (n : ℕ) → n ≤ 12 → (E : ℕ → List ℕ) (ts : List Patch) → Each (Full n) ts → length (all_faces n E ts) ≡ length ts * triangle_face_count n
all_faces_lem n h E [] a = sym (zero-mul (triangle_face_count n))
all_faces_lem n h E (t ∷ ts) a =
    length-append (patch_faces n E t) (all_faces n E ts) ∙ ap₂ (λ x y. x + y) (amounts n h E t a.0).faces (all_faces_lem n h E ts a.1)
    ∙ one_more (triangle_face_count n) (length ts)
  where
    one_more : (x k : ℕ) → x + k * x ≡ suc k * x
    one_more x k = omega (arith, suc-mul k x)

pub lengths-++ : (l m : List (List ℕ)) → lengths (l ++ m) ≡ lengths l + lengths m
lengths-++ [] m = omega arith
lengths-++ (x ∷ l) m = omega (arith, lengths-++ l m)

all_numbers_lem : (n : ℕ) → n ≤ 12 → (E : ℕ → List ℕ) (ts : List Patch) → Each (Full n) ts → lengths (patches_strips n E ts) ≡ length ts * triangle_line_numbers n
all_numbers_lem n h E [] a = sym (zero-mul (triangle_line_numbers n))
all_numbers_lem n h E (t ∷ ts) a =
    lengths-++ (patch_strips n E t) ([] ∷ patches_strips n E ts)
    ∙ total (lengths (patch_strips n E t)) (triangle_line_numbers n) (lengths (patches_strips n E ts)) (length ts) (amounts n h E t a.0).numbers (all_numbers_lem n h E ts a.1)
  where
    total : (p x q k : ℕ) → p ≡ x → q ≡ k * x → p + (0 + q) ≡ suc k * x
    total p x q k d e = omega (arith, suc-mul k x)

all_breaks_lem : (n : ℕ) → n ≤ 12 → (E : ℕ → List ℕ) (ts : List Patch) → Each (Full n) ts → length (patches_strips n E ts) ≡ length ts * (triangle_line_breaks n + 1)
all_breaks_lem n h E [] a = sym (zero-mul (triangle_line_breaks n + 1))
all_breaks_lem n h E (t ∷ ts) a =
    length-append (patch_strips n E t) ([] ∷ patches_strips n E ts)
    ∙ total (length (patch_strips n E t)) (triangle_line_breaks n) (length (patches_strips n E ts)) (length ts) (amounts n h E t a.0).breaks (all_breaks_lem n h E ts a.1)
  where
    total : (p x q k : ℕ) → p ≡ x → q ≡ k * (x + 1) → p + suc q ≡ suc k * (x + 1)
    total p x q k d e = omega (arith, suc-mul k (x + 1))

-- ---- the major edges
edge_numbers : (N : Numbering) (u : Use) → length (edge_path N u) ≡ length (edge_of N u.edge) + 2
edge_numbers N u = omega (arith, length-append (edge_of N u.edge) (u.stop ∷ []))

module _ (N : Numbering) (E : ℕ) (long : (e : ℕ) → e < E → length (edge_of N e) ≡ N.n) where
  major_numbers_lem : (seen : List ℕ) (us : List Use) → Each (λ u. u.edge < E) us → lengths (major_from seen N us) ≡ weigh (λ e. N.n + 2) (firsts seen us)
  major_numbers_lem seen [] b = refl
  major_numbers_lem seen (u ∷ us) b =
      step (among eqb u.edge seen) (length (edge_path N u)) (edge_numbers N u ∙ ap (λ x. x + 2) (long u.edge b.0))
      (major_numbers_lem (u.edge ∷ seen) us b.1)
    where
      step :
          (c : Bool) (x : ℕ) → x ≡ N.n + 2 → lengths (major_from (u.edge ∷ seen) N us) ≡ weigh (λ e. N.n + 2) (firsts (u.edge ∷ seen) us)
          → lengths (unless_seen c (edge_path N u) (major_from (u.edge ∷ seen) N us))
          ≡ weigh (λ e. N.n + 2) (cond c (firsts (u.edge ∷ seen) us) (u.edge ∷ firsts (u.edge ∷ seen) us))
      step true x d r = r
      step false x d r = ap₂ (λ p q. p + q) (edge_numbers N u ∙ ap (λ p. p + 2) (long u.edge b.0)) r

  major_breaks_lem : (seen : List ℕ) (us : List Use) → length (major_from seen N us) ≡ weigh (λ e. 1) (firsts seen us)
  major_breaks_lem seen [] = refl
  major_breaks_lem seen (u ∷ us) = step (among eqb u.edge seen) (major_breaks_lem (u.edge ∷ seen) us)
    where
      step :
          (c : Bool) → length (major_from (u.edge ∷ seen) N us) ≡ weigh (λ e. 1) (firsts (u.edge ∷ seen) us)
          → length (unless_seen c (edge_path N u) (major_from (u.edge ∷ seen) N us))
          ≡ weigh (λ e. 1) (cond c (firsts (u.edge ∷ seen) us) (u.edge ∷ firsts (u.edge ∷ seen) us))
      step true r = r
      step false r = omega arith

sum_same : (m c : ℕ) → sum_to m (λ e. c) ≡ m * c
sum_same zero c = sym (zero-mul c)
sum_same (suc m) c = omega (arith, sum_same m c, suc-mul m c)

-- each edge is used first once
firsts_all :
    (E c : ℕ) (us : List Use) → Each (λ u. u.edge < E) us → ((e : ℕ) → e < E → occ e (firsts [] us) ≡ 1)
    → weigh (λ e. c) (firsts [] us) ≡ E * c
firsts_all E c us b one =
    exchange E (λ e. c) (firsts [] us) (firsts_below E [] us b)
    ∙ sum_eq E (λ e. times (occ e (firsts [] us)) c) (λ e. c) (λ e l. ap (λ k. times k c) (one e l) ∙ (let z : c + 0 ≡ c = omega arith in z))
    ∙ sum_same E c

pub faces_counted : FacesAreCounted
faces_counted P E ts A N R =
    record {
      triangle = λ t l.
          let o = there (Full N.n) (patches ts N) F t (let z : t < length (patches ts N) = omega (arith, many) in z) in
          ap (λ p. length (face_numbers (faces_or_none N p))) o.is
          ∙ three_each (patch_faces N.n (edge_of N) o.x)
          ∙ ap (λ k. 3 * k) (amounts N.n I.small (edge_of N) o.x o.holds).faces;
      all =
          three_each (faces ts N)
          ∙ swap (length (faces ts N)) (length ts) (triangle_face_count N.n)
          (all_faces_lem N.n I.small (edge_of N) (patches ts N) F ∙ ap (λ k. k * triangle_face_count N.n) many);
    }
  where
    I : Inv P E (length ts) N
    I = reached_inv P E ts N R

    F : Each (Full N.n) (patches ts N)
    F = full N.n P (edge_of N) (patches ts N) (all_placed P E ts A N I)

    many : length (patches ts N) ≡ length ts
    many = patches_many [] ts N.contents I.contents_count

    swap : (x k c : ℕ) → x ≡ k * c → 3 * x ≡ k * (3 * c)
    swap x k c e = omega (arith, mul-add k c (c + c), mul-add k c c)

pub lines_counted : LinesAreCounted
lines_counted P E ts A N R =
    record {
      triangle_numbers = λ t l.
          let o = at_triangle t l in
          ap (λ p. lengths (strips_or_none N p)) o.is ∙ (amounts N.n I.small (edge_of N) o.x o.holds).numbers;
      triangle_breaks = λ t l.
          let o = at_triangle t l in
          ap (λ p. length (strips_or_none N p)) o.is ∙ (amounts N.n I.small (edge_of N) o.x o.holds).breaks;
      major_numbers_lem = numbers;
      major_breaks_lem = breaks;
      all_numbers_lem =
          lengths-++ (patches_strips N.n (edge_of N) (patches ts N)) (major_strips ts N)
          ∙ ap₂ (λ x y. x + y) (all_numbers_lem N.n I.small (edge_of N) (patches ts N) F ∙ ap (λ k. k * triangle_line_numbers N.n) many) numbers;
      all_breaks_lem =
          length-append (patches_strips N.n (edge_of N) (patches ts N)) (major_strips ts N)
          ∙ ap₂ (λ x y. x + y) (all_breaks_lem N.n I.small (edge_of N) (patches ts N) F ∙ ap (λ k. k * (triangle_line_breaks N.n + 1)) many) breaks;
    }
  where
    I : Inv P E (length ts) N
    I = reached_inv P E ts N R

    F : Each (Full N.n) (patches ts N)
    F = full N.n P (edge_of N) (patches ts N) (all_placed P E ts A N I)

    many : length (patches ts N) ≡ length ts
    many = patches_many [] ts N.contents I.contents_count

    at_triangle : (t : ℕ) → t < length ts → There (Full N.n) (patches ts N) t
    at_triangle t l = there (Full N.n) (patches ts N) F t (let z : t < length (patches ts N) = omega (arith, many) in z)

    once : (e : ℕ) → e < E → occ e (firsts [] (uses ts)) ≡ 1
    once e l = firsts_one e [] (uses ts) refl (A.used.edges e l)

    numbers : lengths (major_strips ts N) ≡ length N.edges * (N.n + 2)
    numbers =
        major_numbers_lem N E (edge_long P E ts A N I) [] (uses ts) (edges_below P E ts A N I)
        ∙ firsts_all E (N.n + 2) (uses ts) (edges_below P E ts A N I) once ∙ ap (λ k. k * (N.n + 2)) (sym I.edge_count)

    breaks : length (major_strips ts N) ≡ length N.edges
    breaks =
        let a : length (major_strips ts N) ≡ E * 1
        = major_breaks_lem N E (edge_long P E ts A N I) [] (uses ts) ∙ firsts_all E 1 (uses ts) (edges_below P E ts A N I) once in
        omega (arith, I.edge_count)
