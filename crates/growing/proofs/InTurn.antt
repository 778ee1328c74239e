-- Steps of each triangle's contents in turn.
use Rattle.std.proofs.Common.{◌≡◌, ℕ, ◌+◌, ◌*◌, ◌<◌, ◌≤◌, ◌≢◌, ◌⊎◌, List, [], ◌∷◌, ◌++◌, length, take, drop, set, sym, ap, ◌∙◌, subst, ap₂, inl, inr, arith, below_more}
use Rattle.std.proofs.lemmas.List.{append_assoc, append-nil, map_push, get_or-map, length-map, length-set, length-take-le, length-drop, get_or-set_other, get_or-set_same, get_or-take, get_or-drop, take_more_set, take_all, drop-set-lt, drop_more, drop_all}
use Rattle.std.proofs.lemmas.Bool.{cases_lt}
use Rattle.pattern.specs.Step as numbered
use Rattle.pattern.specs.Step.{NumberedContents}
use Rattle.mesh.specs.Numbering.{stepped, after, all_stepped, after_all}
use Rattle.rings.specs.declared.contents.Ring.{Ring}
use Rattle.rings.specs.declared.contents.TriangleContents.{TriangleContents}
use Rattle.rings.specs.declared.contents.TriangleContents.TheVariants as kind
use Rattle.rings.specs.Held.{held}
use Rattle.growing.specs.Placed.{Placed}
use Rattle.growing.specs.Stepping.{Ready, Moves, Steps}
use Rattle.growing.specs.SteppingAll.{kind_at, all_held, ReadyAll, MovesAll}
use Rattle.growing.proofs.ByPosition.{map_is}
use Rattle.growing.proofs.Moving.{moves_near}
use Rattle.growing.proofs.Unchanged.{Same, held_same, placed_same}

-- the first i triangles have stepped
pub record SteppedUpTo (rs : List Ring) (m k : ℕ) (ts : List TriangleContents) (h i : ℕ) (rs' : List Ring) (ts' : List TriangleContents) (h' : ℕ) : Type 0 where
  pub near : h' ≤ h + 144 * i
  pub as_many : length ts' ≡ length ts
  pub done : (j : ℕ) → j < i → Placed rs' (3 * j) 3 (m + k) (kind_at ts' j)
  pub ahead : (j : ℕ) → i ≤ j → j < length ts → Placed rs' (3 * j) 3 m (kind_at ts' j)
  pub held_are : all_held rs' (take i ts') ++ all_stepped h' k (all_held rs' (drop i ts')) ≡ all_stepped h k (all_held rs ts)
  pub next_is : after_all h' k (all_held rs' (drop i ts')) ≡ after_all h k (all_held rs ts)

all_same :
    (rs rs' : List Ring) (ts : List TriangleContents) → ((j : ℕ) → j < length ts → held rs' 3 (kind_at ts j) ≡ held rs 3 (kind_at ts j))
    → all_held rs' ts ≡ all_held rs ts
all_same rs rs' ts e =
    map_is (held rs' 3) kind.None ts (all_held rs ts) numbered.None (length-map ts (held rs 3))
    (λ j p. e j p ∙ sym (get_or-map (held rs 3) ts j kind.None numbered.None p))

-- a ring of triangle j is none of triangle i's
apart : (i j n : ℕ) → j ≢ i → 3 * j ≤ n → n < 3 * j + 3 → (n < 3 * i) ⊎ (3 * i + 3 ≤ n)
apart i j n e p q = elim (cases_lt n (3 * i)) [ inl r ↦ inl r | inr r ↦ inr (beyond r) ]
  where
    beyond : 3 * i ≤ n → 3 * i + 3 ≤ n
    beyond r = omega arith

module _
    (rs : List Ring) (m k : ℕ) (ts : List TriangleContents) (h i : ℕ) (rs1 : List Ring) (ts1 : List TriangleContents) (h1 : ℕ) (r : ReadyAll rs m k ts)
    (a : SteppedUpTo rs m k ts h i rs1 ts1 h1) where
  pub stepped_ready : i < length ts → length ts ≤ 32 → h ≤ 4512 → Ready rs1 (3 * i) 3 m k (kind_at ts1 i) h1
  stepped_ready p q l =
      let few = r.few in
      let near = a.near in
      record { placed = a.ahead i (omega arith) p; some = r.some; few = few; deep = omega arith; free = omega arith }

  pub stepped_all : i ≡ length ts → MovesAll rs m k ts h rs1 ts1 h1
  stepped_all e =
      let many = a.as_many in
      let le : length ts1 ≤ i = omega arith in
      let none = drop_all i ts1 le in
      record {
        held_are =
            sym (append-nil (all_held rs1 ts1))
            ∙ ap₂ (λ x y. all_held rs1 x ++ all_stepped h1 k (all_held rs1 y)) (sym (take_all i ts1 le)) (sym none)
            ∙ a.held_are;
        next_is = ap (λ x. after_all h1 k (all_held rs1 x)) (sym none) ∙ a.next_is;
        placed = λ j q. a.done j (omega arith);
      }

  -- triangle i steps
  module _ (rs2 : List Ring) (x : TriangleContents) (h2 : ℕ) (p : i < length ts) (q : length ts ≤ 32) (l : h ≤ 4512) (s : Steps rs1 (3 * i) k (kind_at ts1 i) h1 rs2 x h2) where
    ready : Ready rs1 (3 * i) 3 m k (kind_at ts1 i) h1
    ready = stepped_ready p q l

    moves : Moves rs1 (3 * i) 3 m k (kind_at ts1 i) h1 rs2 x h2
    moves = s 3 m ready

    abbrev ts2 : List TriangleContents
    ts2 = set ts1 i x

    within : i < length ts1
    within = omega (arith, a.as_many)

    own_same : (j : ℕ) → j ≢ i → Same rs1 rs2 (3 * j) 3
    own_same j e n u v = moves.others n (apart i j n e u v)

    -- what another triangle holds is as it was
    still_held : (j c : ℕ) → j ≢ i → Placed rs1 (3 * j) 3 c (kind_at ts1 j) → held rs2 3 (kind_at ts1 j) ≡ held rs1 3 (kind_at ts1 j)
    still_held j c e w = held_same rs1 rs2 (3 * j) 3 (kind_at ts1 j) w.own (own_same j e)

    still_placed : (j c : ℕ) → j ≢ i → Placed rs1 (3 * j) 3 c (kind_at ts1 j) → Placed rs2 (3 * j) 3 c (kind_at ts2 j)
    still_placed j c e w =
        subst (λ (t : TriangleContents). Placed rs2 (3 * j) 3 c t) (sym (get_or-set_other ts1 i j x kind.None e))
        (placed_same rs1 rs2 (3 * j) 3 c (kind_at ts1 j) moves.long (own_same j e) w)

    now_placed : Placed rs2 (3 * i) 3 (m + k) (kind_at ts2 i)
    now_placed = subst (λ (t : TriangleContents). Placed rs2 (3 * i) 3 (m + k) t) (sym (get_or-set_same ts1 i x kind.None within)) moves.placed

    -- the triangles before it and after it
    front : all_held rs2 (take i ts1) ≡ all_held rs1 (take i ts1)
    front =
        all_same rs1 rs2 (take i ts1)
        (λ j u.
        let le : i ≤ length ts1 = omega (arith, within) in
        let lt : j < i = omega (arith, length-take-le i ts1 le) in
        let ne : j ≢ i = λ e. omega arith in
        let e : kind_at (take i ts1) j ≡ kind_at ts1 j = get_or-take i ts1 j kind.None lt in
        ap (held rs2 3) e ∙ still_held j (m + k) ne (a.done j lt) ∙ sym (ap (held rs1 3) e))

    back : all_held rs2 (drop (i + 1) ts1) ≡ all_held rs1 (drop (i + 1) ts1)
    back =
        all_same rs1 rs2 (drop (i + 1) ts1)
        (λ j u.
        let lt : i + 1 + j < length ts = omega (arith, length-drop (i + 1) ts1, a.as_many) in
        let le : i ≤ i + 1 + j = omega arith in
        let ne : i + 1 + j ≢ i = λ e. omega arith in
        let e : kind_at (drop (i + 1) ts1) j ≡ kind_at ts1 (i + 1 + j) = get_or-drop (i + 1) ts1 j kind.None in
        ap (held rs2 3) e ∙ still_held (i + 1 + j) m ne (a.ahead (i + 1 + j) le lt) ∙ sym (ap (held rs1 3) e))

    abbrev g : NumberedContents
    g = held rs1 3 (kind_at ts1 i)

    abbrev rest : List NumberedContents
    rest = all_held rs1 (drop (i + 1) ts1)

    opened : all_held rs1 (drop i ts1) ≡ g ∷ rest
    opened = ap (all_held rs1) (drop_more ts1 i kind.None within)

    dropped : all_held rs2 (drop (i + 1) ts2) ≡ rest
    dropped = let lt : i < i + 1 = omega arith in ap (all_held rs2) (drop-set-lt (i + 1) ts1 i x lt) ∙ back

    took : all_held rs2 (take (i + 1) ts2) ≡ all_held rs1 (take i ts1) ++ (stepped h1 k g ∷ [])
    took =
        ap (all_held rs2) (take_more_set ts1 i x within)
        ∙ map_push (held rs2 3) (take i ts1) x
        ∙ ap₂ (λ xs y. xs ++ (y ∷ [])) front moves.held_is

    pub stepped_more : SteppedUpTo rs m k ts h (i + 1) rs2 ts2 h2
    stepped_more =
        let few = r.few in
        let some = r.some in
        let near1 = a.near in
        let le : k ≤ k = omega arith in
        let near2 : h2 ≤ h1 + 12 * k = moves_near rs1 (3 * i) 3 m k (kind_at ts1 i) h1 ready k rs2 x h2 le moves in
        record {
          near = omega arith;
          as_many = length-set ts1 i x ∙ a.as_many;
          done = below_more _ _ (λ j u. let ne : j ≢ i = (λ e. omega arith) in still_placed j (m + k) ne (a.done j u)) now_placed;
          ahead = λ j u v. let ne : j ≢ i = (λ e. omega arith) in still_placed j m ne (a.ahead j (omega arith) v);
          held_are =
              ap₂ (λ xs ys. xs ++ all_stepped h2 k ys) took dropped
              ∙ ap (λ n. (all_held rs1 (take i ts1) ++ (stepped h1 k g ∷ [])) ++ all_stepped n k rest) moves.next_is
              ∙ append_assoc (all_held rs1 (take i ts1)) (stepped h1 k g ∷ []) (all_stepped (after h1 k g) k rest)
              ∙ ap (λ xs. all_held rs1 (take i ts1) ++ all_stepped h1 k xs) (sym opened)
              ∙ a.held_are;
          next_is = ap₂ (λ n xs. after_all n k xs) moves.next_is dropped ∙ ap (after_all h1 k) (sym opened) ∙ a.next_is;
        }
