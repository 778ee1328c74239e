-- The faces and the strips of a triangle are those of the spots, with the vertex of each.
use mathlib.Core.Path.{◌≡◌, refl, sym, ◌∙◌, ap}
use mathlib.Core.List.{map}
use Prim.Native.Nat.{ℕ, zero, suc}
use Rattle.pattern.specs.Ring.{Contents, more, triangle_faces, triangle_strips, triangle_closing, map_contents, map_face}
use Rattle.pattern.specs.Sides.{map_side}
use Rattle.pattern.specs.Spot.{Spot, spot, inside, spot_faces, spot_strips, closing_sides}
use Rattle.pattern.specs.Vertex.{vertex_in, vertex_of}
use Rattle.pattern.proofs.Sized.{Sized, sized_0, sized_1, sized_2, sized_3, sized_4, sized_more}
use Rattle.pattern.proofs.Natural.{triangle_faces-map, triangle_strips-map, triangle_closing-map}

module _ {X : Type 0} where
  -- one ring further in
  shift : (g : Spot → X) (d m : ℕ) → map_contents g (inside (suc d) m) ≡ map_contents (λ p. g (suc p.0, p.1, p.2)) (inside d m)
  shift g d zero = refl
  shift g d (suc zero) = refl
  shift g d (suc (suc zero)) = refl
  shift g d (suc (suc (suc zero))) = refl
  shift g d (suc (suc (suc (suc zero)))) = refl
  shift g d (suc (suc (suc (suc (suc k))))) =
      ap (λ t. more (g (suc d, 0, 0)) (g (suc d, 1, 0)) (g (suc d, 2, 0)) (suc (suc k))
      (λ i. g (suc d, 0, suc i)) (λ i. g (suc d, 1, suc i)) (λ i. g (suc d, 2, suc i)) t)
      (shift g (suc d) (suc (suc k)))

  rings : (x : X) (n : ℕ) (t : Contents X) → Sized n t → map_contents (λ p. vertex_in x t p.0 p.1 p.2) (inside 0 n) ≡ t
  rings x n t sized_0 = refl
  rings x n t sized_1 = refl
  rings x n t sized_2 = refl
  rings x n t sized_3 = refl
  rings x n t sized_4 = refl
  rings x n t (sized_more {k = k} {a = a} {b = b} {c = c} {ab = ab} {bc = bc} {ca = ca} {t = u} z) =
      let e = shift (λ p. vertex_in x (more a b c (suc (suc k)) ab bc ca u) p.0 p.1 p.2) 0 (suc (suc k)) in
      ap (λ v. more a b c (suc (suc k)) ab bc ca v) (e ∙ rings x (suc (suc k)) u z)

  module _ (n : ℕ) (a b c : X) (ab bc ca : ℕ → X) (t : Contents X) (z : Sized n t) where
    pub all : map_contents (vertex_of a b c ab bc ca t) (inside 1 n) ≡ t
    all = shift (vertex_of a b c ab bc ca t) 0 n ∙ rings a n t z

    pub faces_of_spots : triangle_faces n a b c ab bc ca t ≡ map (map_face (vertex_of a b c ab bc ca t)) (spot_faces n)
    faces_of_spots =
        ap (triangle_faces n a b c ab bc ca) (sym all)
        ∙ triangle_faces-map (vertex_of a b c ab bc ca t) n (spot 0 0 0) (spot 0 1 0) (spot 0 2 0)
        (λ i. spot 0 0 (suc i)) (λ i. spot 0 1 (suc i)) (λ i. spot 0 2 (suc i)) (inside 1 n)

    pub strips_of_spots : triangle_strips n a b c ab bc ca t ≡ map (map (vertex_of a b c ab bc ca t)) (spot_strips n)
    strips_of_spots =
        ap (triangle_strips n a b c ab bc ca) (sym all)
        ∙ triangle_strips-map (vertex_of a b c ab bc ca t) n (spot 0 0 0) (spot 0 1 0) (spot 0 2 0)
        (λ i. spot 0 0 (suc i)) (λ i. spot 0 1 (suc i)) (λ i. spot 0 2 (suc i)) (inside 1 n)

    pub closing_of_spots : triangle_closing n a b c ab bc ca t ≡ map (map_side (vertex_of a b c ab bc ca t)) (closing_sides n)
    closing_of_spots =
        ap (triangle_closing n a b c ab bc ca) (sym all)
        ∙ triangle_closing-map (vertex_of a b c ab bc ca t) n (spot 0 0 0) (spot 0 1 0) (spot 0 2 0)
        (λ i. spot 0 0 (suc i)) (λ i. spot 0 1 (suc i)) (λ i. spot 0 2 (suc i)) (inside 1 n)
