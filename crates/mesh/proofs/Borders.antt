-- The borders of all triangles: each edge forward where it is first used, backward where it is used again.
use Rattle.std.proofs.Common.{◌≡◌, ℕ, suc, ◌+◌, ◌<◌, ◌≤◌, Bool, false, cond, not, eqb, List, [], ◌∷◌, ◌++◌, map, length, sym, refl, ap, ◌∙◌, ap₂, arith}
use mathlib.Core.List.{map-append}
use Rattle.pattern.proofs.Meeting.{total}
use Rattle.pattern.specs.Place.{next_side, reading, patch_vertex}
use Rattle.pattern.specs.Sides.{occ, Side, among, back, map_side, path_sides, shown_by}
use Rattle.pattern.specs.Ring.{up}
use Rattle.pattern.specs.Spot.{Spot, spot, closed_side, border_sides}
use Rattle.pattern.specs.Step.{NumberedContents}
use Rattle.pattern.proofs.Count.{weigh, weigh-++}
use Rattle.pattern.proofs.Fresh.{up_next}
use Rattle.pattern.proofs.Natural.{up-map, join, path_sides-map}
use Rattle.pattern.proofs.Placing.{vertices_of}
use Rattle.shape.specs.Questions.{Below}
use Rattle.shape.specs.Lists.{In, Each}
use Rattle.shape.specs.Sides.{Use, walk, uses, SameEnds}
use Rattle.shape.specs.declared.triangle.Triangle.{Triangle}
use Rattle.mesh.specs.Numbering.{Numbering, edge_of}
use Rattle.mesh.specs.Faces.{by_side, forward, patches_from, edge_path, first_use}
use Rattle.mesh.specs.Strips.{major_from, unless_seen}
use Rattle.mesh.proofs.Beside.{in_use_count}
use Rattle.mesh.proofs.Firsts.{Seen?, old, new, seen?, firsts, laters, first_use_in}
use Rattle.mesh.proofs.Placed.{patch}
use Rattle.mesh.proofs.Readings.{Left, first_use_lem, in_u, later_use, next}
use Rattle.mesh.proofs.Facing.{facing, run_is, path_reverse, backward_is}

-- side u of a triangle with its vertices, in the direction in which the triangle walks it
abbrev pub run : Numbering → Bool → Use → List ℕ
run N b u = u.start ∷ (facing b (edge_of N u.edge) ++ (u.stop ∷ []))

abbrev pub runs_from : List ℕ → Numbering → List Use → List (List ℕ)
runs_from seen N [] = []
runs_from seen N (u ∷ us) = run N (not (among eqb u.edge seen)) u ∷ runs_from (u.edge ∷ seen) N us

module _ (N : Numbering) (all : List Use) (one_pair : (u v : Use) → In u all → In v all → u.edge ≡ v.edge → SameEnds u v) where
  module _ (w : Side ℕ → ℕ) where
    -- the weight of an edge's path, forward and backward
    abbrev pub fwd : ℕ → ℕ
    fwd e = weigh w (path_sides (edge_path N (first_use e all)))

    abbrev pub bwd : ℕ → ℕ
    bwd e = weigh w (back (path_sides (edge_path N (first_use e all))))

    forward_run : (seen : List ℕ) (u : Use) (us : List Use) → Left all one_pair seen (u ∷ us) → occ u.edge seen ≡ 0 → weigh w (path_sides (edge_path N u)) ≡ fwd u.edge
    forward_run seen u us L c = ap (λ v. weigh w (path_sides (edge_path N v))) (sym (first_use_lem all one_pair seen u us L c))

    backward_run : (seen : List ℕ) (u : Use) (us : List Use) → Left all one_pair seen (u ∷ us) → 1 ≤ occ u.edge seen → weigh w (path_sides (run N false u)) ≡ bwd u.edge
    backward_run seen u us L c =
        let v : Use = first_use u.edge all in
        let x = later_use all one_pair seen u us L c in
        let o = first_use_in u.edge all (in_use_count u all (in_u all one_pair seen u us L)) in
        let e : u.stop ∷ (edge_of N u.edge ++ (u.start ∷ [])) ≡ edge_path N v
        = λ i. x.1 i ∷ (edge_of N (sym o.1 i) ++ (x.0 i ∷ [])) in
        ap (λ l. weigh w (path_sides l)) (backward_is u.start u.stop (edge_of N u.edge))
        ∙ path_reverse w (u.stop ∷ (edge_of N u.edge ++ (u.start ∷ [])))
        ∙ ap (λ l. weigh w (back (path_sides l))) e

    pub runs_weigh : (seen : List ℕ) (us : List Use) → Left all one_pair seen us → weigh w (shown_by (runs_from seen N us)) ≡ weigh fwd (firsts seen us) + weigh bwd (laters seen us)
    runs_weigh seen [] L = refl
    runs_weigh seen (u ∷ us) L =
        weigh-++ w (path_sides (run N (not (among eqb u.edge seen)) u)) (shown_by (runs_from (u.edge ∷ seen) N us))
        ∙ go (seen? u.edge seen) (runs_weigh (u.edge ∷ seen) us (next all one_pair seen u us L))
      where
        go :
            Seen? u.edge seen
            → weigh w (shown_by (runs_from (u.edge ∷ seen) N us)) ≡ weigh fwd (firsts (u.edge ∷ seen) us) + weigh bwd (laters (u.edge ∷ seen) us)
            → weigh w (path_sides (run N (not (among eqb u.edge seen)) u)) + weigh w (shown_by (runs_from (u.edge ∷ seen) N us))
            ≡ weigh fwd (firsts seen (u ∷ us)) + weigh bwd (laters seen (u ∷ us))
        go (old c b) r =
            let a : weigh w (path_sides (run N (not (among eqb u.edge seen)) u)) ≡ bwd u.edge
            = ap (λ x. weigh w (path_sides (run N (not x) u))) b ∙ backward_run seen u us L c in
            let f : weigh fwd (firsts seen (u ∷ us)) ≡ weigh fwd (firsts (u.edge ∷ seen) us)
            = ap (λ x. weigh fwd (cond x (firsts (u.edge ∷ seen) us) (u.edge ∷ firsts (u.edge ∷ seen) us))) b in
            let g : weigh bwd (laters seen (u ∷ us)) ≡ bwd u.edge + weigh bwd (laters (u.edge ∷ seen) us)
            = ap (λ x. weigh bwd (cond x (u.edge ∷ laters (u.edge ∷ seen) us) (laters (u.edge ∷ seen) us))) b in
            omega arith
        go (new c b) r =
            let a : weigh w (path_sides (run N (not (among eqb u.edge seen)) u)) ≡ fwd u.edge
            = ap (λ x. weigh w (path_sides (run N (not x) u))) b ∙ forward_run seen u us L c in
            let f : weigh fwd (firsts seen (u ∷ us)) ≡ fwd u.edge + weigh fwd (firsts (u.edge ∷ seen) us)
            = ap (λ x. weigh fwd (cond x (firsts (u.edge ∷ seen) us) (u.edge ∷ firsts (u.edge ∷ seen) us))) b in
            let g : weigh bwd (laters seen (u ∷ us)) ≡ weigh bwd (laters (u.edge ∷ seen) us)
            = ap (λ x. weigh bwd (cond x (u.edge ∷ laters (u.edge ∷ seen) us) (laters (u.edge ∷ seen) us))) b in
            omega arith

    pub major_weigh : (seen : List ℕ) (us : List Use) → Left all one_pair seen us → weigh w (shown_by (major_from seen N us)) ≡ weigh fwd (firsts seen us)
    major_weigh seen [] L = refl
    major_weigh seen (u ∷ us) L = go (seen? u.edge seen) (major_weigh (u.edge ∷ seen) us (next all one_pair seen u us L))
      where
        go :
            Seen? u.edge seen → weigh w (shown_by (major_from (u.edge ∷ seen) N us)) ≡ weigh fwd (firsts (u.edge ∷ seen) us)
            → weigh w (shown_by (major_from seen N (u ∷ us))) ≡ weigh fwd (firsts seen (u ∷ us))
        go (old c b) r =
            ap (λ x. weigh w (shown_by (unless_seen x (edge_path N u) (major_from (u.edge ∷ seen) N us)))) b ∙ r
            ∙ sym (ap (λ x. weigh fwd (cond x (firsts (u.edge ∷ seen) us) (u.edge ∷ firsts (u.edge ∷ seen) us))) b)
        go (new c b) r =
            ap (λ x. weigh w (shown_by (unless_seen x (edge_path N u) (major_from (u.edge ∷ seen) N us)))) b
            ∙ weigh-++ w (path_sides (edge_path N u)) (shown_by (major_from (u.edge ∷ seen) N us))
            ∙ ap₂ (λ x y. x + y) (forward_run seen u us L c) r
            ∙ sym (ap (λ x. weigh fwd (cond x (firsts (u.edge ∷ seen) us) (u.edge ∷ firsts (u.edge ∷ seen) us))) b)

-- ---- the borders of the triangles are these runs
closed-map :
    (f : Spot → ℕ) (n k : ℕ)
    → map f (closed_side n k) ≡ f (spot 0 k 0) ∷ (up 0 n (λ i. f (spot 0 k (suc i)) ∷ []) ++ (f (spot 0 (next_side k) 0) ∷ []))
closed-map f n k =
    ap (λ l. f (spot 0 k 0) ∷ l)
    (sym (join f (up 1 n (λ i. spot 0 k i ∷ [])) (spot 0 (next_side k) 0 ∷ []) (up 0 n (λ i. f (spot 0 k (suc i)) ∷ [])) (f (spot 0 (next_side k) 0) ∷ [])
    (sym (up_next 0 n (λ i. f (spot 0 k i) ∷ [])) ∙ up-map f 1 n (λ i. spot 0 k i ∷ [])) refl))

module _ (P E : ℕ) (N : Numbering) (long : (e : ℕ) → e < E → length (edge_of N e) ≡ N.n) (w : Side ℕ → ℕ) where
  module _ (seen : List ℕ) (t : Triangle) (g : NumberedContents) (b : Below P E t) where
    f : Spot → ℕ
    f = patch_vertex N.n (edge_of N) (patch seen t g)

    read : (k : ℕ) → (by_side t).edge k < E → up 0 N.n (λ i. reading N.n (edge_of N) (patch seen t g) k i ∷ []) ≡ facing (forward seen t k) (edge_of N ((by_side t).edge k))
    read k l = run_is N.n (edge_of N ((by_side t).edge k)) (forward seen t k) (long ((by_side t).edge k) l)

    border_side : (k : ℕ) (r : List ℕ) → map (patch_vertex N.n (edge_of N) (patch seen t g)) (closed_side N.n k) ≡ r
        → weigh w (map (map_side (patch_vertex N.n (edge_of N) (patch seen t g))) (path_sides (closed_side N.n k))) ≡ weigh w (path_sides r)
    border_side k r e =
        ap (weigh w) (sym (path_sides-map (patch_vertex N.n (edge_of N) (patch seen t g)) (closed_side N.n k))) ∙ ap (λ l. weigh w (path_sides l)) e

    three_borders :
        weigh w (map (map_side (patch_vertex N.n (edge_of N) (patch seen t g))) (border_sides N.n))
        ≡ weigh w (path_sides (run N (forward seen t 0) (walk t.ab t.a t.b)))
        + (weigh w (path_sides (run N (forward seen t 1) (walk t.bc t.b t.c))) + weigh w (path_sides (run N (forward seen t 2) (walk t.ca t.c t.a))))
    three_borders =
        let h : Spot → ℕ = patch_vertex N.n (edge_of N) (patch seen t g) in
        let c : ℕ → List (Side Spot) = λ k. path_sides (closed_side N.n k) in
        let m : ℕ → List (Side ℕ) = λ k. map (map_side h) (c k) in
        ap (weigh w) (map-append (map_side h) (c 0) (c 1 ++ c 2) ∙ ap (λ l. m 0 ++ l) (map-append (map_side h) (c 1) (c 2)))
        ∙ weigh-++ w (m 0) (m 1 ++ m 2)
        ∙ ap₂ (λ x y. x + y)
        (border_side 0 (run N (forward seen t 0) (walk t.ab t.a t.b))
        (closed-map h N.n 0 ∙ ap (λ l. t.a ∷ (l ++ (t.b ∷ []))) (read 0 b.ab<E)))
        (weigh-++ w (m 1) (m 2)
        ∙ ap₂ (λ x y. x + y)
        (border_side 1 (run N (forward seen t 1) (walk t.bc t.b t.c))
        (closed-map h N.n 1 ∙ ap (λ l. t.b ∷ (l ++ (t.c ∷ []))) (read 1 b.bc<E)))
        (border_side 2 (run N (forward seen t 2) (walk t.ca t.c t.a))
        (closed-map h N.n 2 ∙ ap (λ l. t.c ∷ (l ++ (t.a ∷ []))) (read 2 b.ca<E))))

  pub borders_are :
      (seen : List ℕ) (us : List Triangle) (gs : List NumberedContents) → Each (Below P E) us → length gs ≡ length us
      → weigh w (total (border_sides N.n) (vertices_of N.n (edge_of N) (patches_from seen us gs))) ≡ weigh w (shown_by (runs_from seen N (uses us)))
  borders_are seen [] gs b e = refl
  borders_are seen (t ∷ us) [] b e = absurd (let z : ⊥ = omega arith in z)
  borders_are seen (t ∷ us) (g ∷ gs) b e =
      let later : List ℕ = t.ca ∷ t.bc ∷ t.ab ∷ seen in
      let l : length gs ≡ length us = omega arith in
      let r = borders_are later us gs b.1 l in
      let x = run N (forward seen t 0) (walk t.ab t.a t.b) in
      let y = run N (forward seen t 1) (walk t.bc t.b t.c) in
      let z = run N (forward seen t 2) (walk t.ca t.c t.a) in
      let rest = shown_by (runs_from later N (uses us)) in
      omega (
        arith,
        weigh-++ w (map (map_side (patch_vertex N.n (edge_of N) (patch seen t g))) (border_sides N.n)) (total (border_sides N.n) (vertices_of N.n (edge_of N) (patches_from later us gs))),
        three_borders seen t g b.0,
        weigh-++ w (path_sides x) (path_sides y ++ (path_sides z ++ rest)),
        weigh-++ w (path_sides y) (path_sides z ++ rest),
        weigh-++ w (path_sides z) rest,
      )
