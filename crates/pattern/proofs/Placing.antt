-- Patches numbered apart meet only where the base has them meet.
use mathlib.Core.Path.{◌≡◌, refl, sym, ◌∙◌, ap, ap₂, subst}
use mathlib.Core.List.{List, [], ◌∷◌, ◌++◌, map}
use mathlib.Core.Logic.{◌⊎◌, inl, inr}
use mathlib.Core.Bool.{Bool, true, false}
use Prim.Native.Nat.{ℕ, suc, ◌-◌, ◌≤◌, ◌<◌}
use native.Mathlib.Omega.{arith}
use Rattle.pattern.proofs.Meeting.{Meet, MeetAll, Numbered, total}
use Rattle.pattern.proofs.Neighbours.{Same, at_corner, on_edge, Placed, PlacedAll, AllPlaced}
use Rattle.pattern.specs.Place.{Patch, turned, reading, patch_vertex, patch_faces, patch_strips, patch_closing, all_faces}
use Rattle.pattern.specs.Ring.{Face}
use Rattle.pattern.specs.Sides.{occ, face_sides, shown_by, map_side}
use Rattle.pattern.specs.Spot.{Spot, spot, spot_sides, spot_faces, spot_strips, shown_sides, closing_sides}
use Rattle.pattern.specs.Step.{view, vertices, OfCount}
use Rattle.pattern.proofs.Fresh.{triangle_apart}
use Rattle.pattern.proofs.Grow.{sized}
use Rattle.pattern.proofs.Link.{faces_of_spots, strips_of_spots, closing_of_spots}
use Rattle.pattern.proofs.Natural.{face_sides-map, shown_by-map}
use Rattle.pattern.proofs.Share.{meet}
use Rattle.pattern.proofs.SpotKinds.{Kind, a_corner, a_border, within, kind, turned_in, vertex_corner, vertex_border, vertex_within}

-- the same place of one edge, read from opposite ends
ends_meet :
    (n i j : ℕ) (b d : Bool) → i < n → j < n → turned n b i ≡ turned n d j → ((b ≡ true) × (d ≡ false)) ⊎ ((b ≡ false) × (d ≡ true))
    → suc j ≡ suc n - suc i
ends_meet n i j b d l m e (inl x) =
    let c : i ≡ n - suc j = subst (λ (v : Bool). turned n true i ≡ turned n v j) x.1 (subst (λ (v : Bool). turned n v i ≡ turned n d j) x.0 e) in
    omega arith
ends_meet n i j b d l m e (inr x) =
    let c : n - suc i ≡ j = subst (λ (v : Bool). turned n false i ≡ turned n v j) x.1 (subst (λ (v : Bool). turned n v i ≡ turned n d j) x.0 e) in
    omega arith

module _ (n : ℕ) (h : n ≤ 12) (P : ℕ) (E : ℕ → List ℕ) (t u : Patch) (A : Placed n P E t u) where
  place_t : (s i : ℕ) → i < n → turned n (t.forth s) i < n
  place_t s i l = turned_in n (t.forth s) i l

  place_u : (s i : ℕ) → i < n → turned n (u.forth s) i < n
  place_u s i l = turned_in n (u.forth s) i l

  by_kind : (p p' : Spot) → patch_vertex n E t p ≡ patch_vertex n E u p' → Kind n p → Kind n p' → Same n t.tri u.tri p p'
  by_kind p p' e (a_corner s a x) (a_corner s' a' x') =
      at_corner s s' a a' x x' (sym (vertex_corner n h E t A.right_t p s a x) ∙ e ∙ vertex_corner n h E u A.right_u p' s' a' x')
  by_kind p p' e (a_corner s a x) (a_border s' i' a' l' x') =
      absurd (let lo = A.point_t s a in
      let hi = A.edge_high_u s' (turned n (u.forth s') i') a' (place_u s' i' l') in
      let d = sym (vertex_corner n h E t A.right_t p s a x) ∙ e ∙ vertex_border n h E u A.right_u p' s' i' a' x' in
      let z : ⊥ = omega arith in z)
  by_kind p p' e (a_corner s a x) (within w') =
      absurd (let lo = A.point_t s a in
      let hi = A.inner_high_u (patch_vertex n E u p') (vertex_within n h E u A.right_u p' w') in
      let d = sym (vertex_corner n h E t A.right_t p s a x) ∙ e in
      let z : ⊥ = omega arith in z)
  by_kind p p' e (a_border s i a l x) (a_corner s' a' x') =
      absurd (let lo = A.point_u s' a' in
      let hi = A.edge_high_t s (turned n (t.forth s) i) a (place_t s i l) in
      let d = sym (vertex_border n h E t A.right_t p s i a x) ∙ e ∙ vertex_corner n h E u A.right_u p' s' a' x' in
      let z : ⊥ = omega arith in z)
  by_kind p p' e (a_border s i a l x) (a_border s' i' a' l' x') =
      let d = sym (vertex_border n h E t A.right_t p s i a x) ∙ e ∙ vertex_border n h E u A.right_u p' s' i' a' x' in
      let c = A.edges_apart s (turned n (t.forth s) i) s' (turned n (u.forth s') i') a a' (place_t s i l) (place_u s' i' l') d in
      let m : suc i' ≡ suc n - suc i = ends_meet n i i' (t.forth s) (u.forth s') l l' c.1 (A.against s s' a a' c.0) in
      on_edge s s' (suc i) a a' (omega arith) l x (x' ∙ ap (λ v. spot 0 s' v) m) c.0
  by_kind p p' e (a_border s i a l x) (within w') =
      absurd (A.edge_inner_u s (turned n (t.forth s) i) a (place_t s i l)
      (subst (λ (v : ℕ). 1 ≤ occ v (vertices u.inner)) (sym e ∙ vertex_border n h E t A.right_t p s i a x) (vertex_within n h E u A.right_u p' w')))
  by_kind p p' e (within w) (a_corner s' a' x') =
      absurd (let lo = A.point_u s' a' in
      let hi = A.inner_high_t (patch_vertex n E t p) (vertex_within n h E t A.right_t p w) in
      let d = e ∙ vertex_corner n h E u A.right_u p' s' a' x' in
      let z : ⊥ = omega arith in z)
  by_kind p p' e (within w) (a_border s' i' a' l' x') =
      absurd (A.edge_inner_t s' (turned n (u.forth s') i') a' (place_u s' i' l')
      (subst (λ (v : ℕ). 1 ≤ occ v (vertices t.inner)) (e ∙ vertex_border n h E u A.right_u p' s' i' a' x') (vertex_within n h E t A.right_t p w)))
  by_kind p p' e (within w) (within w') =
      absurd (A.inner_apart (patch_vertex n E u p')
      (subst (λ (v : ℕ). 1 ≤ occ v (vertices t.inner)) e (vertex_within n h E t A.right_t p w))
      (vertex_within n h E u A.right_u p' w'))

  pub patches_meet : Meet n (patch_vertex n E t) (patch_vertex n E u)
  patches_meet =
      meet n t.tri u.tri A.beside (patch_vertex n E t) (patch_vertex n E u)
      (λ p p' i i' e. by_kind p p' e (kind n h p i) (kind n h p' i'))

-- ---- the whole face list
abbrev pub vertices_of : ℕ → (ℕ → List ℕ) → List Patch → List (Spot → ℕ)
vertices_of n E [] = []
vertices_of n E (t ∷ ts) = patch_vertex n E t ∷ vertices_of n E ts

pub patch_sides : (n : ℕ) (E : ℕ → List ℕ) (t : Patch) → OfCount n t.inner → face_sides (patch_faces n E t) ≡ map (map_side (patch_vertex n E t)) (spot_sides n)
patch_sides n E t r =
    ap face_sides (faces_of_spots n (t.tri.corner 0) (t.tri.corner 1) (t.tri.corner 2) (reading n E t 0) (reading n E t 1) (reading n E t 2)
    (view t.inner) (sized n t.inner r))
    ∙ face_sides-map (patch_vertex n E t) (spot_faces n)

pub patch_shown : (n : ℕ) (E : ℕ → List ℕ) (t : Patch) → OfCount n t.inner → shown_by (patch_strips n E t) ≡ map (map_side (patch_vertex n E t)) (shown_sides n)
patch_shown n E t r =
    ap shown_by (strips_of_spots n (t.tri.corner 0) (t.tri.corner 1) (t.tri.corner 2) (reading n E t 0) (reading n E t 1) (reading n E t 2)
    (view t.inner) (sized n t.inner r))
    ∙ shown_by-map (patch_vertex n E t) (spot_strips n)

pub patch_closing_lem : (n : ℕ) (E : ℕ → List ℕ) (t : Patch) → OfCount n t.inner → patch_closing n E t ≡ map (map_side (patch_vertex n E t)) (closing_sides n)
patch_closing_lem n E t r =
    closing_of_spots n (t.tri.corner 0) (t.tri.corner 1) (t.tri.corner 2) (reading n E t 0) (reading n E t 1) (reading n E t 2)
    (view t.inner) (sized n t.inner r)

pub sides-++ : (l m : List (Face ℕ)) → face_sides (l ++ m) ≡ face_sides l ++ face_sides m
sides-++ [] m = refl
sides-++ (x ∷ l) m = ap (λ k. (x.0, x.1) ∷ (x.1, x.2) ∷ (x.2, x.0) ∷ k) (sides-++ l m)

pub all_sides : (n P : ℕ) (E : ℕ → List ℕ) (ts : List Patch) → AllPlaced n P E ts → face_sides (all_faces n E ts) ≡ total (spot_sides n) (vertices_of n E ts)
all_sides n P E [] a = refl
all_sides n P E (t ∷ ts) a =
    sides-++ (patch_faces n E t) (all_faces n E ts) ∙ ap₂ (λ x y. x ++ y) (patch_sides n E t a.0.0) (all_sides n P E ts a.2)

module _ (n : ℕ) (h : n ≤ 12) (P : ℕ) (E : ℕ → List ℕ) where
  meet_all : (t : Patch) (us : List Patch) → PlacedAll n P E t us → MeetAll n (patch_vertex n E t) (vertices_of n E us)
  meet_all t [] a = tt
  meet_all t (u ∷ us) a = (patches_meet n h P E t u a.0, meet_all t us a.1)

  pub numbered : (ts : List Patch) → AllPlaced n P E ts → Numbered n (vertices_of n E ts)
  numbered [] a = tt
  numbered (t ∷ ts) a = (
    triangle_apart n (t.tri.corner 0) (t.tri.corner 1) (t.tri.corner 2) (reading n E t 0) (reading n E t 1) (reading n E t 2) t.inner
        a.0.0 a.0.1,
    meet_all t ts a.1,
    numbered ts a.2,
  )
