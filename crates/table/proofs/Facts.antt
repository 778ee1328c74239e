-- What a sound table has: its lists' lengths, and its triangles' corners and edges in range.
use Rattle.std.proofs.Common.{◌≡◌, ℕ, zero, suc, ◌<◌, ◌≤◌, List, [], ◌∷◌, length, get_or, sym, refl, ap, ◌∙◌, subst, inl, inr, arith}
use lib.ListN.{length-map}
use Rattle.growing.specs.declared.edge.Edge.{Edge}
use Rattle.growing.specs.Standing.{numbering}
use Rattle.growing.proofs.Tables.{edge_long, edge_of_lem}
use Rattle.growing.specs.Standing.{WithinLimits}
use Rattle.mesh.proofs.Blank.{blank_stands}
use Rattle.mesh.proofs.Counted.{vertices_once}
use Rattle.mesh.proofs.Invariant.{Inv, reached_inv}
use Rattle.mesh.specs.Numbering.{Reached, edge_of}
use Rattle.rings.specs.declared.contents.Ring.{Ring}
use Rattle.rings.specs.declared.contents.TriangleContents.{TriangleContents}
use Rattle.rings.specs.Held.{held, Fits}
use Rattle.shape.specs.declared.triangle.Triangle.{Triangle}
use Rattle.shape.specs.Lists.{Each}
use Rattle.shape.specs.Questions.{Below}
use Rattle.growing.specs.SteppingAll.{kind_at}
use Rattle.table.specs.declared.forward.Forward.{Forward}
use Rattle.table.specs.Forwards.{forwards_from, no_triangle, triangle_at, EdgesBelow}
use Rattle.table.specs.Sound.{Sound, NoBase}

pub each_get : {X : Type 0} (R : X → Type 0) (l : List X) (d : X) → Each R l → (i : ℕ) → i < length l → R (get_or l i d)
each_get R [] d e i h = absurd (omega arith)
each_get R (x ∷ l) d e zero h = e.0
each_get R (x ∷ l) d e (suc i) h = each_get R l d e.1 i (omega arith)

forwards_many : (seen : List ℕ) (ts : List Triangle) → length (forwards_from seen ts) ≡ length ts
forwards_many seen [] = refl
forwards_many seen (t ∷ ts) = ap suc (forwards_many (t.ca ∷ t.bc ∷ t.ab ∷ seen) ts)

module _ (P : ℕ) (ts : List Triangle) (fs : List Forward) (es : List Edge) (cs : List TriangleContents) (rs : List Ring) (n total : ℕ)
    (S : Sound P ts fs es cs rs n total) where
  pub inv : Inv P (length es) (length ts) (numbering n total es cs rs)
  inv = reached_inv P (length es) ts (numbering n total es cs rs) S.reached

  pub few : n ≤ 12
  few = inv.small

  pub contents_many : length cs ≡ length ts
  contents_many = sym (length-map cs (held rs 3)) ∙ inv.contents_count

  pub forward_many : length fs ≡ length ts
  forward_many = ap length S.reads ∙ forwards_many [] ts

  pub in_range : (i : ℕ) → i < length ts → Below P (length es) (triangle_at ts i)
  in_range i h =
      elim S.base [
        | inl A ↦ each_get (Below P (length es)) ts no_triangle A.below i h
        | inr N ↦ let e : length ts ≡ 0 = ap length N.no_triangles in absurd (let z : ⊥ = omega arith in z)
      ]

  pub edges_below : (i : ℕ) → i < length ts → EdgesBelow (length es) (triangle_at ts i)
  edges_below i h = let b = in_range i h in (b.ab<E, b.bc<E, b.ca<E)

  pub edge_many : (e : ℕ) → e < length es → length (edge_of (numbering n total es cs rs) e) ≡ n
  edge_many e h = ap length (edge_of_lem n total e es cs rs h) ∙ edge_long n es cs rs S.stands e h

  pub goes : (i : ℕ) → i < length ts → Fits rs 3 n (kind_at cs i)
  goes i h = let k : i < length cs = let e = contents_many in omega arith in (S.stands.contents i k).fits

  -- a mesh over no base is blank
  pub blank_reached : NoBase P (length es) ts → Reached 0 0 [] (numbering n total es cs rs)
  blank_reached N =
      subst (λ (l : List Triangle). Reached 0 0 l (numbering n total es cs rs)) N.no_triangles
      (subst (λ (e : ℕ). Reached 0 e ts (numbering n total es cs rs)) N.no_edges
      (subst (λ (p : ℕ). Reached p (length es) ts (numbering n total es cs rs)) N.no_points S.reached))

  pub limits : WithinLimits (length es) (length cs) total
  limits =
      elim S.base [
        | inl A ↦ record {
          few_edges = A.sizes.edges.1;
          few_triangles = let f = A.triangles.few in let e = contents_many in omega arith;
          few_vertices = (vertices_once P (length es) ts A (numbering n total es cs rs) S.reached).fits;
        }
        | inr N ↦ record {
          few_edges = let e = N.no_edges in omega arith;
          few_triangles = let e : length ts ≡ 0 = ap length N.no_triangles in let f = contents_many in omega arith;
          few_vertices = let z : total ≡ 0 = (blank_stands (numbering n total es cs rs) (blank_reached N)).no_vertex in omega arith;
        }
      ]
