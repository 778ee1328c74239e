-- The promises hold of every run.
use Rattle.std.proofs.Common.{◌≡◌, ℕ, ◌+◌, ◌-◌, ◌≤◌, T, eqb, List, [], ◌∷◌, ◌++◌, map, length, sym, refl, ap, ◌∙◌, subst, arith}
use lib.Ieee.{Float}
use Rattle.pattern.specs.Ring.{Face}
use Rattle.pattern.specs.Sides.{count, shown_by, face_sides}
use Rattle.point.specs.declared.Vec3A.{Vec3A}
use Rattle.shape.specs.declared.triangle.Triangle.{Triangle}
use Rattle.shape.specs.Listing.{share as float_share}
use Rattle.mesh.specs.Faces.{faces, face_numbers, triples, sides, SideOnce}
use Rattle.mesh.specs.Sinks.{closed_after}
use Rattle.mesh.specs.Strips.{strips, offset_by, shown_less, shown, ShownOnce}
use Rattle.mesh.proofs.Counted.{vertices_once}
use Rattle.mesh.proofs.Sinks.{sinks_filled}
use Rattle.mesh.proofs.Whole.{sides_once, strips_once}
use Rattle.points.specs.Calculating.{calculated}
use Rattle.points.specs.Promises.{Both, BothFace, point_faces, FixedBy, Placed, CountOfRuns, PlacedOfRuns, VerticesOfRuns, FacesOfRuns, StripsOfRuns, PointsOfRuns, Vec3AOfRuns}
use Rattle.points.proofs.Alike.{buffers_like}
use Rattle.points.proofs.Runs.{Kept, kept, counted, reached_count, accepted_base}
use Rattle.points.proofs.Where.{points_placed}

pub vertices_of_runs : (Point Frac : Type 0) → VerticesOfRuns Point Frac
vertices_of_runs Point Frac share blank M N F r =
    vertices_once (length M.points) M.edges M.triangles (accepted_base share blank M N F r) N (kept share blank M N F r).reached

pub count_of_runs : (Point Frac : Type 0) → CountOfRuns Point Frac
count_of_runs Point Frac share blank M N F r =
    (counted share blank M N F r, reached_count (length M.points) M.edges M.triangles N (kept share blank M N F r).reached)

pub placed_of_runs : (Point Frac : Type 0) → PlacedOfRuns Point Frac
placed_of_runs Point Frac share blank M N F r =
    let K : Kept share blank M N F = kept share blank M N F r in
    let l : 3360 ≤ length K.before = let z = K.long in omega arith in
    let c = points_placed Point Frac share blank M N K.before (accepted_base share blank M N F r) K.reached l in
    subst (Placed share blank M N) (sym K.is) (record { long = c.long ∙ K.long; corner = c.corner; spots = c.spots })

-- ---- faces
told : (l : List (Face ℕ)) → triples (face_numbers l) ≡ l
told [] = refl
told (t ∷ l) = ap (λ m. t ∷ m) (told l)

pub faces_of_runs : (Point Frac : Type 0) → FacesOfRuns Point Frac
faces_of_runs Point Frac share blank M N F r room p q h =
    let ts : List Triangle = M.triangles in
    let e : face_sides (triples (face_numbers (faces ts N))) ≡ sides ts N = ap face_sides (told (faces ts N)) in
    subst (λ l. SideOnce ts N l p q) (sym e)
    (sides_once (length M.points) M.edges ts (accepted_base share blank M N F r) N (kept share blank M N F r).reached p q (subst (λ l. 1 ≤ count eqb p q l) e h))

-- ---- strips
less_numbers : (offset : ℕ) (l : List ℕ) → map (λ x. x - offset) (map (λ x. x + offset) l) ≡ l
less_numbers offset [] = refl
less_numbers offset (x ∷ l) = λ i. (let z : x + offset - offset ≡ x = omega arith in z) i ∷ less_numbers offset l i

less_strips : (offset : ℕ) (ls : List (List ℕ)) → map (map (λ x. x - offset)) (offset_by offset ls) ≡ ls
less_strips offset [] = refl
less_strips offset (l ∷ ls) = λ i. less_numbers offset l i ∷ less_strips offset ls i

abbrev tail : {X : Type 0} → List X → List X
tail [] = []
tail (x ∷ l) = l

cancel : {X : Type 0} (c l m : List X) → c ++ l ≡ c ++ m → l ≡ m
cancel [] l m e = e
cancel (x ∷ c) l m e = cancel c l m (ap tail e)

closed_same : (o : List ℕ) (ls : List (List ℕ)) → o ≡ [] → closed_after o ls ≡ ls
closed_same o [] e = refl
closed_same o (l ∷ ls) e = ap (λ x. (x ++ l) ∷ ls) e

pub strips_of_runs : (Point Frac : Type 0) → StripsOfRuns Point Frac
strips_of_runs Point Frac share blank M N F r offset s s' empty w l c p q =
    let ts : List Triangle = M.triangles in
    let ls : List (List ℕ) = offset_by offset (strips ts N) in
    let d : l ≡ ls = cancel s.closed l ls (sym c ∙ (sinks_filled ls s s' w).0.closed_is ∙ ap (λ m. s.closed ++ m) (closed_same s.last ls empty)) in
    let e : shown_less offset l ≡ shown ts N = ap (shown_less offset) d ∙ ap shown_by (less_strips offset (strips ts N)) in
    subst (λ m. ShownOnce ts N m p q) (sym e) (strips_once (length M.points) M.edges ts (accepted_base share blank M N F r) N (kept share blank M N F r).reached p q)

-- ---- points
fixed_by : (Point Frac : Type 0) (share : ℕ → ℕ → Frac) (R : Point → Point → Type 0) → FixedBy Point Frac share R
fixed_by Point Frac share R blank M M' N N' F F' S h h' e =
    let K : Kept share blank M N F = kept share blank M N F h in
    let K' : Kept share blank M' N' F' = kept share blank M' N' F' h' in
    let lf : 3360 ≤ length K.before = let z = K.long in omega arith in
    let lf' : 3360 ≤ length K'.before = let z = K'.long in omega arith in
    subst (λ (G : List Point). Both (BothFace R) (point_faces blank M N G) (point_faces blank M' N' F')) (sym K.is)
    (subst (λ (G : List Point). Both (BothFace R) (point_faces blank M N (calculated share blank M N K.before)) (point_faces blank M' N' G)) (sym K'.is)
    (buffers_like Point Frac R share blank M M' N N' K.before K'.before S (accepted_base share blank M N F h) K.reached K'.reached e lf lf'))

pub points_of_runs : (Point Frac : Type 0) → PointsOfRuns Point Frac
points_of_runs Point Frac = (λ share. fixed_by Point Frac share (λ p q. p ≡ q), λ share same. fixed_by Point Frac share (λ p q. T (same p q)))

pub vec3a_of_runs : Vec3AOfRuns
vec3a_of_runs = fixed_by Vec3A Float float_share (λ p q. p ≡ q)
