-- Making a mesh is subdividing bare tables.
use Rattle.std.proofs.Common.{◌≡◌, ℕ, ◌*◌, ◌≤◌, List, [], ◌∷◌, length, replicate, sym, refl, ap, ◌∙◌, subst, arith}
use Rattle.std.proofs.lemmas.List.{get_or-replicate, length-replicate}
use Rattle.pattern.specs.Step as numbered
use Rattle.mesh.specs.Numbering.{grown, made}
use Rattle.mesh.proofs.Invariant.{bare, made_is}
use Rattle.rings.specs.declared.contents.Ring.{Ring}
use Rattle.rings.specs.declared.contents.TriangleContents.{TriangleContents}
use Rattle.rings.specs.declared.contents.TriangleContents.TheVariants as kind
use Rattle.rings.specs.Held.{held}
use Rattle.growing.specs.declared.edge.Edge.{Edge}
use Rattle.growing.specs.Edges.{edge_in, edge_vertices, no_edge, OfLength}
use Rattle.growing.specs.Placed.{Placed}
use Rattle.growing.specs.Standing.{numbering, Stands, Bare}
use Rattle.growing.proofs.ByPosition.{map_is}

none : (l : List ℕ) → length l ≡ 0 → l ≡ []
none [] h = refl
none (x ∷ l) h = absurd (omega arith)

pub bare_replicate :
    (E T R : ℕ) (e : Edge) (g : Ring) → OfLength 0 e → 3 * T ≤ R → Bare (replicate E e) (replicate T kind.None) (replicate R g)
bare_replicate E T R e g o p =
    record {
      edges = λ i l. subst (OfLength 0) (sym (get_or-replicate E i e no_edge (omega (arith, length-replicate E e)))) o;
      contents = λ i l. get_or-replicate T i kind.None kind.None (omega (arith, length-replicate T kind.None));
      room = omega (arith, length-replicate T kind.None, length-replicate R g);
    }

module _ (es : List Edge) (ts : List TriangleContents) (rs : List Ring) (b : Bare es ts rs) where
  pub bare_stands : Stands 0 es ts rs
  bare_stands =
      record {
        edges = b.edges;
        contents = λ i p.
            subst (Placed rs (3 * i) 3 0) (sym (b.contents i p)) record { fits = omega arith; own = tt; room = omega (arith, b.room); equal = tt };
      }

  bare_numbering : (P : ℕ) → numbering 0 P es ts rs ≡ bare P (length es) (length ts)
  bare_numbering P =
      let edges = map_is edge_vertices no_edge es (replicate (length es) []) [] (length-replicate (length es) [])
      (λ i p. none (edge_vertices (edge_in es i)) (b.edges i p) ∙ sym (get_or-replicate (length es) i [] [] p)) in
      let contents = map_is (held rs 3) kind.None ts (replicate (length ts) numbered.None) numbered.None (length-replicate (length ts) numbered.None)
      (λ i p. ap (held rs 3) (b.contents i p) ∙ sym (get_or-replicate (length ts) i numbered.None numbered.None p)) in
      λ j. record { n = 0; total = P; edges = edges j; contents = contents j }

  -- what subdividing bare tables by n gives is the numbering made at n
  pub made_from_bare : (P n : ℕ) → grown n (numbering 0 P es ts rs) ≡ made P (length es) (length ts) n
  made_from_bare P n = ap (grown n) (bare_numbering P) ∙ made_is P (length es) (length ts) n
