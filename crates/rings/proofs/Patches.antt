-- A view of a triangle of a mesh: it is whole, and agrees with the triangle.
use Rattle.std.proofs.Common.{◌≡◌, ℕ, suc, ◌-◌, ◌<◌, Bool, List, length, get_or, sym, ap, ◌∙◌, subst, ap₂, arith}
use lib.ListN.{length-reverse}
use Rattle.std.proofs.lemmas.List.{get_or-reverse}
use Rattle.pattern.specs.Place.{Patch, reading, turned}
use Rattle.pattern.specs.Ring as pattern
use Rattle.pattern.specs.Ring.{ring_of, pos_ab, pos_bc, pos_ca}
use Rattle.pattern.specs.Step.{view}
use Rattle.rings.specs.declared.contents.Side.{Side}
use Rattle.rings.specs.declared.contents.Side.TheVariants.{Ab, Bc, Ca}
use Rattle.rings.specs.declared.ring_view.RingView.{RingView}
use Rattle.rings.specs.declared.slice.Slice.{Slice}
use Rattle.rings.specs.declared.slice.Slice.TheVariants.{Forward, Backward}
use Rattle.rings.specs.Held.{Fits}
use Rattle.rings.specs.Sides.{side_number}
use Rattle.rings.specs.Slices.{read, Reads}
use Rattle.rings.specs.Views.{corner_at, edge_at, inner_at, inside, ring_of_view, ShowsPatch, Whole}
use Rattle.rings.proofs.Agree.{Agree}
use Rattle.rings.proofs.Shown.{slice_at}

read_long : (l : List ℕ) (b : Bool) (s : Slice) → Reads l b s → length (read s) ≡ length l
read_long l b (Forward s) h = ap length h.1
read_long l b (Backward s) h = length-reverse s.now ∙ ap length h.1

read_at : (l : List ℕ) (n : ℕ) (b : Bool) (s : Slice) (j : ℕ) → length l ≡ n → Reads l b s → j < n → get_or (read s) j 0 ≡ get_or l (turned n b j) 0
read_at l n b (Forward s) j e h lt = ap (λ x. get_or x j 0) h.1 ∙ sym (ap (λ c. get_or l (turned n c j) 0) h.0)
read_at l n b (Backward s) j e h lt =
    let k : j < length s.now = let z : length s.now ≡ n = ap length h.1 ∙ e in omega arith in
    let m : length s.now - 1 - j ≡ n - suc j = let z : length s.now ≡ n = ap length h.1 ∙ e in omega arith in
    get_or-reverse s.now j 0 k ∙ ap (λ i. get_or s.now i 0) m ∙ ap (λ x. get_or x (n - suc j) 0) h.1
    ∙ sym (ap (λ c. get_or l (turned n c j) 0) h.0)

-- what a triangle reads
abbrev pub patch_ring : ℕ → (ℕ → List ℕ) → Patch → pattern.Ring ℕ
patch_ring n E t =
    ring_of (t.tri.corner 0) (t.tri.corner 1) (t.tri.corner 2) (reading n E t 0) (reading n E t 1) (reading n E t 2) (view t.inner)

module _ (n : ℕ) (E : ℕ → List ℕ) (t : Patch) (w : RingView) (s : ShowsPatch n E t w) where
  on_side : (k : Side) → Reads (E (t.tri.edge (side_number k))) (t.forth (side_number k)) (slice_at k w)
  on_side Ab = s.on_ab
  on_side Bc = s.on_bc
  on_side Ca = s.on_ca

  below_three : (k : Side) → side_number k < 3
  below_three Ab = omega arith
  below_three Bc = omega arith
  below_three Ca = omega arith

  pub long_patch : (k : Side) → length (read (slice_at k w)) ≡ n
  long_patch k =
      read_long (E (t.tri.edge (side_number k))) (t.forth (side_number k)) (slice_at k w) (on_side k) ∙ s.long (side_number k) (below_three k)

  -- what the triangle reads along a side, position by position
  pub read_patch : (k : Side) (j : ℕ) → j < n → get_or (read (slice_at k w)) j 0 ≡ reading n E t (side_number k) j
  read_patch k j lt =
      read_at (E (t.tri.edge (side_number k))) n (t.forth (side_number k)) (slice_at k w) j (s.long (side_number k) (below_three k)) (on_side k) lt

  pub whole_patch : Whole (length (read w.ab)) w
  whole_patch =
      record {
        on_ab = long_patch Ab ∙ sym (long_patch Ab);
        on_bc = long_patch Bc ∙ sym (long_patch Ab);
        on_ca = long_patch Ca ∙ sym (long_patch Ab);
        few = let e = long_patch Ab in let f = s.few in omega arith;
        goes = subst (λ (m : ℕ). Fits w.rings.now w.depth m w.inner) (sym (long_patch Ab)) s.goes;
      }

  pub patch_inside : inside w ≡ view t.inner
  patch_inside = ap view s.inner_is

  pub patch_agrees : Agree n (ring_of_view w) (patch_ring n E t)
  patch_agrees = record { corners = corners; edges = edges; inners = inners }
    where
      corners : (k : Side) → corner_at k (ring_of_view w) ≡ corner_at k (patch_ring n E t)
      corners Ab = s.a_is
      corners Bc = s.b_is
      corners Ca = s.c_is

      edges : (k : Side) (i : ℕ) → i < n → edge_at k (ring_of_view w) i ≡ edge_at k (patch_ring n E t) i
      edges Ab = read_patch Ab
      edges Bc = read_patch Bc
      edges Ca = read_patch Ca

      inners : (k : Side) (i : ℕ) → inner_at k (ring_of_view w) i ≡ inner_at k (patch_ring n E t) i
      inners Ab i = ap₂ (λ x c. pos_ab x c i) s.a_is patch_inside
      inners Bc i = ap₂ (λ x c. pos_bc x c i) s.a_is patch_inside
      inners Ca i = ap₂ (λ x c. pos_ca x c i) s.a_is patch_inside
