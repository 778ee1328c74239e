-- The writes of a view of a triangle of a mesh are the triangle's.
use Rattle.std.proofs.Common.{◌≡◌, ℕ, Bool, cond, List, [], ◌∷◌, ◌++◌, length, get_or, sym, ap, ◌∙◌, ap₂, append_assoc, arith}
use Rattle.pattern.specs.Place.{Patch, reading}
use Rattle.pattern.specs.Step.{view}
use Rattle.points.specs.Calculating.{along, contents_writes, patch_writes}
use Rattle.rings.specs.declared.contents.Side.TheVariants.{Ab, Bc, Ca}
use Rattle.rings.specs.declared.ring_view.RingView.{RingView}
use Rattle.rings.specs.declared.slice.Slice.{Slice}
use Rattle.rings.specs.declared.slice.Slice.TheVariants.{Forward, Backward}
use Rattle.rings.specs.Slices.{read, Reads}
use Rattle.rings.specs.Views.{ShowsPatch, inside}
use Rattle.rings.proofs.Patches.{long_patch, read_patch}
use Rattle.calculating.specs.ViewWrites.{slice_writes, inside_writes, view_writes}
use Rattle.calculating.proofs.Inside.{contents_agree}

-- an edge, which is written where it is read forward
slice_writes_lem :
    (l : List ℕ) (n : ℕ) (b : Bool) (s : Slice) (p p' q q' : ℕ) → length l ≡ n → p ≡ p' → q ≡ q' → Reads l b s
    → slice_writes s p q ≡ cond b (along n (λ i. get_or l i 0) p' q' ∷ []) []
slice_writes_lem l n b (Forward s) p p' q q' e u v h =
    ap (λ x. along (length x) (λ i. get_or x i 0) p q ∷ []) h.1 ∙ ap (λ m. along m (λ i. get_or l i 0) p q ∷ []) e
    ∙ ap₂ (λ x y. along n (λ i. get_or l i 0) x y ∷ []) u v ∙ sym (ap (λ c. cond c (along n (λ i. get_or l i 0) p' q' ∷ []) []) h.0)
slice_writes_lem l n b (Backward s) p p' q q' e u v h = sym (ap (λ c. cond c (along n (λ i. get_or l i 0) p' q' ∷ []) []) h.0)

pub patch_writes_lem : (n : ℕ) (E : ℕ → List ℕ) (t : Patch) (w : RingView) → ShowsPatch n E t w → view_writes w ≡ patch_writes n E t
patch_writes_lem n E t w s =
    let ab : ℕ → ℕ = λ j. get_or (read w.ab) j 0 in
    let bc : ℕ → ℕ = λ j. get_or (read w.bc) j 0 in
    let ca : ℕ → ℕ = λ j. get_or (read w.ca) j 0 in
    let p = slice_writes w.ab w.a w.b in
    let q = slice_writes w.bc w.b w.c in
    let r = slice_writes w.ca w.c w.a in
    let edge : ℕ → List ℕ = λ k. E (t.tri.edge k) in
    let corner : ℕ → ℕ = t.tri.corner in
    let i : inside_writes w ≡ contents_writes n (reading n E t 0) (reading n E t 1) (reading n E t 2) (view t.inner)
    = ap (λ m. contents_writes m ab bc ca (inside w)) (long_patch n E t w s Ab)
    ∙ contents_agree ab bc ca (reading n E t 0) (reading n E t 1) (reading n E t 2) w.rings.now w.depth n w.inner s.goes
    (read_patch n E t w s Ab) (read_patch n E t w s Bc) (read_patch n E t w s Ca)
    ∙ ap (λ g. contents_writes n (reading n E t 0) (reading n E t 1) (reading n E t 2) (view g)) s.inner_is in
    append_assoc p (q ++ r) (inside_writes w) ∙ ap (λ l. p ++ l) (append_assoc q r (inside_writes w))
    ∙ ap₂ (λ x y. x ++ y) (slice_writes_lem (edge 0) n (t.forth 0) w.ab w.a (corner 0) w.b (corner 1) (s.long 0 (omega arith)) s.a_is s.b_is s.on_ab)
    (ap₂ (λ x y. x ++ y) (slice_writes_lem (edge 1) n (t.forth 1) w.bc w.b (corner 1) w.c (corner 2) (s.long 1 (omega arith)) s.b_is s.c_is s.on_bc)
    (ap₂ (λ x y. x ++ y) (slice_writes_lem (edge 2) n (t.forth 2) w.ca w.c (corner 2) w.a (corner 0) (s.long 2 (omega arith)) s.c_is s.a_is s.on_ca) i))
