-- A triangle has as many faces, and its strips as many numbers and breaks, as the spots of its count.
use mathlib.Core.Path.{◌≡◌, refl, ◌∙◌, ap, ap₂}
use mathlib.Core.List.{List, [], ◌∷◌, map}
use Prim.Native.Nat.{ℕ, ◌+◌}
use lib.ListN.{length, length-map}
use Rattle.pattern.specs.Amounts.{lengths, AmountsStand}
use Rattle.pattern.specs.Place.{Patch, reading, patch_vertex, patch_strips}
use Rattle.pattern.specs.Ring.{map_face}
use Rattle.pattern.specs.Spot.{spot_faces, spot_strips}
use Rattle.pattern.specs.Step.{view, OfCount}
use Rattle.pattern.proofs.Grow.{sized}
use Rattle.pattern.proofs.Link.{faces_of_spots, strips_of_spots}
use Rattle.pattern.proofs.Spots.{s_faces, s_numbers, s_breaks}

lengths-map : {X Y : Type 0} (f : X → Y) (ls : List (List X)) → lengths (map (map f) ls) ≡ lengths ls
lengths-map f [] = refl
lengths-map f (l ∷ ls) = ap₂ (λ x y. x + y) (length-map l f) (lengths-map f ls)

renamed : (n : ℕ) (E : ℕ → List ℕ) (t : Patch) → OfCount n t.inner → patch_strips n E t ≡ map (map (patch_vertex n E t)) (spot_strips n)
renamed n E t r =
    strips_of_spots n (t.tri.corner 0) (t.tri.corner 1) (t.tri.corner 2) (reading n E t 0) (reading n E t 1) (reading n E t 2)
    (view t.inner) (sized n t.inner r)

pub amounts : AmountsStand
amounts n h E t r =
    record {
      faces =
          ap length (faces_of_spots n (t.tri.corner 0) (t.tri.corner 1) (t.tri.corner 2) (reading n E t 0) (reading n E t 1) (reading n E t 2)
          (view t.inner) (sized n t.inner r))
          ∙ length-map (spot_faces n) (map_face (patch_vertex n E t)) ∙ s_faces n h;
      numbers = ap lengths (renamed n E t r) ∙ lengths-map (patch_vertex n E t) (spot_strips n) ∙ s_numbers n h;
      breaks = ap length (renamed n E t r) ∙ length-map (spot_strips n) (map (patch_vertex n E t)) ∙ s_breaks n h;
    }
