-- Where the corners, the edges and the contents of a triangle are below a bound, so is every number of its faces and strips.
use mathlib.Core.Path.{sym, subst}
use mathlib.Core.List.{List, [], ◌∷◌, map}
use Prim.Native.Nat.{ℕ, ◌≤◌, ◌<◌}
use lib.Dec.{T}
use lib.ListN.{get_or}
use Rattle.shape.specs.Lists.{Each}
use Rattle.shape.specs.Sides.{both}
use Rattle.pattern.specs.Place.{Patch, turned, reading, patch_vertex, patch_faces, patch_strips}
use Rattle.pattern.specs.Ring.{Face, map_face}
use Rattle.pattern.specs.Sides.{occ, face_sides}
use Rattle.pattern.specs.Spot.{Spot, is_spot, ends, spot_faces, spot_strips}
use Rattle.pattern.specs.Step.{view, vertices, OfCount}
use Rattle.pattern.proofs.Count.{every, both_left, both_right}
use Rattle.pattern.proofs.Grow.{sized}
use Rattle.pattern.proofs.SpotKinds.{Kind, a_corner, a_border, within, kind, turned_in, vertex_corner, vertex_border, vertex_within}
use Rattle.pattern.proofs.Link.{faces_of_spots, strips_of_spots}
use Rattle.pattern.proofs.Spots.{s_spots, s_drawn}

abbrev pub FaceBelow : ℕ → Face ℕ → Type 0
FaceBelow Z f = (f.0 < Z) × (f.1 < Z) × (f.2 < Z)

module _ (n : ℕ) (h : n ≤ 12) (E : ℕ → List ℕ) (t : Patch) (r : OfCount n t.inner) (Z : ℕ) (corner : (k : ℕ) → k < 3 → t.tri.corner k < Z)
    (edge : (k i : ℕ) → k < 3 → i < n → get_or (E (t.tri.edge k)) i 0 < Z) (inner : (x : ℕ) → 1 ≤ occ x (vertices t.inner) → x < Z) where
  vertex_below : (p : Spot) → T (is_spot n p) → patch_vertex n E t p < Z
  vertex_below p i = go (kind n h p i)
    where
      go : Kind n p → patch_vertex n E t p < Z
      go (a_corner s a e) = subst (λ (v : ℕ). v < Z) (sym (vertex_corner n h E t r p s a e)) (corner s a)
      go (a_border s j a l e) =
          subst (λ (v : ℕ). v < Z) (sym (vertex_border n h E t r p s j a e)) (edge s (turned n (t.forth s) j) a (turned_in n (t.forth s) j l))
      go (within w) = inner (patch_vertex n E t p) (vertex_within n h E t r p w)

  numbers_below : (l : List Spot) → T (every (is_spot n) l) → Each (λ x. x < Z) (map (patch_vertex n E t) l)
  numbers_below [] s = tt
  numbers_below (p ∷ l) s = (vertex_below p (both_left (is_spot n p) (every (is_spot n) l) s), numbers_below l (both_right (is_spot n p) (every (is_spot n) l) s))

  lists_below : (ls : List (List Spot)) → T (every (every (is_spot n)) ls) → Each (Each (λ x. x < Z)) (map (map (patch_vertex n E t)) ls)
  lists_below [] s = tt
  lists_below (l ∷ ls) s = (
    numbers_below l (both_left (every (is_spot n) l) (every (every (is_spot n)) ls) s),
    lists_below ls (both_right (every (is_spot n) l) (every (every (is_spot n)) ls) s),
  )

  spots_below : (l : List (Face Spot)) → T (every (ends n) (face_sides l)) → Each (FaceBelow Z) (map (map_face (patch_vertex n E t)) l)
  spots_below [] s = tt
  spots_below (f ∷ l) s =
      let s1 : T (both (ends n (f.1, f.2)) (both (ends n (f.2, f.0)) (every (ends n) (face_sides l)))) = both_right (ends n (f.0, f.1)) _ s in
      let s2 : T (both (ends n (f.2, f.0)) (every (ends n) (face_sides l))) = both_right (ends n (f.1, f.2)) _ s1 in
      let e0 : T (ends n (f.0, f.1)) = both_left (ends n (f.0, f.1)) _ s in
      let e2 : T (ends n (f.2, f.0)) = both_left (ends n (f.2, f.0)) _ s2 in (
        (
          vertex_below f.0 (both_left (is_spot n f.0) (is_spot n f.1) e0),
          vertex_below f.1 (both_right (is_spot n f.0) (is_spot n f.1) e0),
          vertex_below f.2 (both_left (is_spot n f.2) (is_spot n f.0) e2),
        ),
        spots_below l (both_right (ends n (f.2, f.0)) _ s2),
      )

  pub faces_below : Each (FaceBelow Z) (patch_faces n E t)
  faces_below =
      subst (Each (FaceBelow Z))
      (sym (faces_of_spots n (t.tri.corner 0) (t.tri.corner 1) (t.tri.corner 2) (reading n E t 0) (reading n E t 1) (reading n E t 2) (view t.inner) (sized n t.inner r)))
      (spots_below (spot_faces n) (s_spots n h))

  pub strips_below : Each (Each (λ x. x < Z)) (patch_strips n E t)
  strips_below =
      subst (Each (Each (λ x. x < Z)))
      (sym (strips_of_spots n (t.tri.corner 0) (t.tri.corner 1) (t.tri.corner 2) (reading n E t 0) (reading n E t 1) (reading n E t 2) (view t.inner) (sized n t.inner r)))
      (lists_below (spot_strips n) (s_drawn n h))
