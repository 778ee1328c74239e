-- That tables stand can hold in one way only.
use Rattle.std.proofs.Common.{ℕ, zero, suc, ◌*◌, List, length, refl}
use native.Mathlib.Bridge.{le_prop}
use native.Mathlib.Nat.{ℕ_set}
use Rattle.growing.specs.declared.edge.Edge.{Edge}
use Rattle.growing.specs.Edges.{edge_in, edge_vertices, OfLength}
use Rattle.growing.specs.Placed.{EqualSides, Placed}
use Rattle.growing.specs.SteppingAll.{kind_at}
use Rattle.growing.specs.Standing.{Stands, WithinLimits}
use Rattle.rings.specs.declared.contents.Ring.{Ring}
use Rattle.rings.specs.declared.contents.TriangleContents.{TriangleContents}
use Rattle.rings.specs.declared.contents.TriangleContents.TheVariants as kind
use Rattle.rings.specs.Held.{ring_at}
use Rattle.rings.specs.Sides.{on_sides, side_len}
use Rattle.rings.proofs.Propositions.{fits_prop, own_prop}

of_length_prop : (n : ℕ) (e : Edge) → IsProp (OfLength n e)
of_length_prop n e = ℕ_set (length (edge_vertices e)) n

equal_prop : (rs : List Ring) (d : ℕ) (t : TriangleContents) → IsProp (EqualSides rs d t)
equal_prop rs d kind.None = λ x y. refl
equal_prop rs d (kind.One v) = λ x y. refl
equal_prop rs d (kind.Three a b c) = λ x y. refl
equal_prop rs d (kind.Six a b c ab bc ca) = λ x y. refl
equal_prop rs zero (kind.More i) = λ x y. refl
equal_prop rs (suc d) (kind.More i) = λ x y j.
    let g : Ring = ring_at rs i in
    (ℕ_set (length (on_sides g)) (3 * side_len g) x.0 y.0 j, equal_prop rs d g.inner x.1 y.1 j)

placed_prop : (rs : List Ring) (b d m : ℕ) (t : TriangleContents) → IsProp (Placed rs b d m t)
placed_prop rs b d m t = λ x y j.
    record {
      fits = fits_prop rs d m t x.fits y.fits j;
      own = own_prop rs b d t x.own y.own j;
      room = le_prop x.room y.room j;
      equal = equal_prop rs d t x.equal y.equal j;
    }

pub stands_prop : (n : ℕ) (es : List Edge) (cs : List TriangleContents) (rs : List Ring) → IsProp (Stands n es cs rs)
stands_prop n es cs rs = λ x y j.
    record {
      edges = λ i h. of_length_prop n (edge_in es i) (x.edges i h) (y.edges i h) j;
      contents = λ i h. placed_prop rs (3 * i) 3 n (kind_at cs i) (x.contents i h) (y.contents i h) j;
    }

pub limits_prop : (E T total : ℕ) → IsProp (WithinLimits E T total)
limits_prop E T total = λ x y j.
    record {
      few_edges = le_prop x.few_edges y.few_edges j;
      few_triangles = le_prop x.few_triangles y.few_triangles j;
      few_vertices = le_prop x.few_vertices y.few_vertices j;
    }
