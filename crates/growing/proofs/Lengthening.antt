-- Edges that become longer, one after another.
use Rattle.std.proofs.Common.{◌≡◌, ℕ, zero, suc, ◌+◌, ◌*◌, ◌<◌, ◌≤◌, ◌≢◌, List, [], ◌∷◌, ◌++◌, map, length, take, drop, set, sym, refl, ap, ◌∙◌, subst, ap₂, mul-add, arith, below_more, length-append}
use Rattle.std.proofs.lemmas.List.{append_assoc, append-nil, take_more_set, take_all, drop_all, drop-set-lt, drop_more, drop-drop, get_or-drop, get_or-set_same, get_or-set_other, map_push}
use Rattle.pattern.specs.Step.{range}
use Rattle.pattern.proofs.Occurrences.{range-++}
use Rattle.mesh.specs.Numbering.{lengthened}
use Rattle.growing.specs.declared.edge.Edge.{Edge}
use Rattle.growing.specs.Edges.{edge_vertices, edge_in, len_at, no_edge, OfLength}

pub length-range : (h k : ℕ) → length (range h k) ≡ k
length-range h zero = refl
length-range h (suc k) = ap suc (length-range (suc h) k)

-- one vertex more in a row
pub range-push : (h k v n : ℕ) → v ≡ h + k → n ≡ k + 1 → range h k ++ (v ∷ []) ≡ range h n
range-push h k v n p q = ap (λ x. range h k ++ (x ∷ [])) p ∙ sym (range-++ h k 1) ∙ ap (range h) (sym q)

-- the first i edges have taken the amount each, from h on, and h' is the next free vertex
pub record LongerUpTo (es : List Edge) (amount h i : ℕ) (es' : List Edge) (h' : ℕ) : Type 0 where
  pub next : h' ≡ h + amount * i
  pub near : h' ≤ h + 12 * i
  pub rest : drop i es' ≡ drop i es
  pub vertices : map edge_vertices (take i es') ++ lengthened h' amount (map edge_vertices (drop i es)) ≡ lengthened h amount (map edge_vertices es)
  pub long : (j : ℕ) → j < i → OfLength (len_at es j + amount) (edge_in es' j)

module _ (es : List Edge) (amount h i : ℕ) (es' : List Edge) (h' : ℕ) (l : LongerUpTo es amount h i es' h') where
  -- the edge that is next is as it was
  pub still : edge_in es' i ≡ edge_in es i
  still =
      let z : i + 0 ≡ i = omega arith in
      ap (edge_in es') (sym z) ∙ sym (get_or-drop i es' 0 no_edge) ∙ ap (λ r. edge_in r 0) l.rest ∙ get_or-drop i es 0 no_edge ∙ ap (edge_in es) z

  pub longer_more :
      (e : Edge) → amount ≤ 12 → length es' ≡ length es → i < length es' → edge_vertices e ≡ edge_vertices (edge_in es' i) ++ range h' amount
      → LongerUpTo es amount h (i + 1) (set es' i e) (h' + amount)
  longer_more e few many p v =
      let q : i < i + 1 = omega arith in
      let r : i < length es = omega arith in
      let rest : List (List ℕ) = map edge_vertices (drop (i + 1) es) in
      record {
        next = omega (arith, l.next, mul-add amount i 1);
        near = omega (arith, l.near);
        rest = drop-set-lt (i + 1) es' i e q ∙ sym (drop-drop 1 i es') ∙ ap (drop 1) l.rest ∙ drop-drop 1 i es;
        vertices =
            ap (λ t. map edge_vertices t ++ lengthened (h' + amount) amount rest) (take_more_set es' i e p)
            ∙ ap (λ t. t ++ lengthened (h' + amount) amount rest) (map_push edge_vertices (take i es') e)
            ∙ append_assoc (map edge_vertices (take i es')) (edge_vertices e ∷ []) (lengthened (h' + amount) amount rest)
            ∙ ap (λ t. map edge_vertices (take i es') ++ (t ∷ lengthened (h' + amount) amount rest)) (v ∙ ap (λ x. edge_vertices x ++ range h' amount) still)
            ∙ ap (λ t. map edge_vertices (take i es') ++ lengthened h' amount (map edge_vertices t)) (sym (drop_more es i no_edge r))
            ∙ l.vertices;
        long =
            below_more _ _
            (λ j k.
            let ne : j ≢ i = omega arith in
            subst (λ (x : Edge). OfLength (len_at es j + amount) x) (sym (get_or-set_other es' i j e no_edge ne)) (l.long j k))
            (ap (λ x. length (edge_vertices x)) (get_or-set_same es' i e no_edge p) ∙ ap length v
            ∙ length-append (edge_vertices (edge_in es' i)) (range h' amount)
            ∙ ap₂ (λ m k. m + k) (ap (λ x. length (edge_vertices x)) still) (length-range h' amount));
      }

  pub longer_all : length es' ≡ length es → length es ≤ i → map edge_vertices es' ≡ lengthened h amount (map edge_vertices es)
  longer_all many p =
      let q : length es' ≤ i = omega arith in
      sym (append-nil (map edge_vertices es'))
      ∙ ap₂ (λ s t. map edge_vertices s ++ lengthened h' amount (map edge_vertices t)) (sym (take_all i es' q)) (sym (drop_all i es p))
      ∙ l.vertices
