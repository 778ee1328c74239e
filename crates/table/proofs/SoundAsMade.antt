-- A table is sound as it is made.
use Rattle.std.proofs.Common.{◌≡◌, ℕ, ◌+◌, ◌*◌, ◌≤◌, List, [], length, replicate, inl, inr, refl, sym, subst, ap, ◌∙◌, arith}
use Rattle.std.proofs.lemmas.List.{length-replicate}
use Rattle.growing.specs.declared.edge.Edge.{Edge}
use Rattle.growing.specs.Edges.{empty_edge}
use Rattle.growing.specs.Standing.{numbering, Bare, Stands}
use Rattle.growing.proofs.FromBare.{bare_replicate}
use Rattle.mesh.specs.Numbering.{Reached, making, made}
use Rattle.rings.specs.declared.contents.Ring.{Ring}
use Rattle.rings.specs.declared.contents.TriangleContents.{TriangleContents}
use Rattle.rings.specs.declared.contents.TriangleContents.TheVariants as kind
use Rattle.rings.specs.Held.{blank_ring}
use Rattle.shape.specs.declared.triangle.Triangle.{Triangle}
use Rattle.shape.specs.Questions.{Accepted}
use Rattle.table.specs.declared.forward.Forward.{Forward}
use Rattle.table.specs.Forwards.{forwards}
use Rattle.table.specs.Sound.{Sound}

nothing : Sound 0 [] [] [] [] [] 0 0
nothing =
    record {
      base = inr (record { no_points = refl; no_edges = refl; no_triangles = refl });
      reached = making 0 (omega arith);
      stands = record { edges = λ i h. absurd (omega arith); contents = λ i h. absurd (omega arith) };
      reads = refl;
    }

pub blank_sound :
    (P : ℕ) (ts : List Triangle) (fs : List Forward) (es : List Edge) (cs : List TriangleContents) (rs : List Ring)
    → P ≡ 0 → ts ≡ [] → fs ≡ [] → es ≡ [] → cs ≡ [] → rs ≡ [] → ∥ Sound P ts fs es cs rs 0 0 ∥₁
blank_sound P ts fs es cs rs p t f e c r = ∣ coe 0 1 (i. Sound (sym p i) (sym t i) (sym f i) (sym e i) (sym c i) (sym r i) 0 0) nothing ∣₁

pub made_sound :
    (P E n total : ℕ) (ts : List Triangle) (fs : List Forward) (es : List Edge) (cs : List TriangleContents) (rs : List Ring)
    → Accepted P E ts → n ≤ 12 → length es ≡ E → numbering n total es cs rs ≡ made P E (length ts) n → Stands n es cs rs → fs ≡ forwards ts
    → ∥ Sound P ts fs es cs rs n total ∥₁
made_sound P E n total ts fs es cs rs A few long numbered st reads =
    let m : numbering n total es cs rs ≡ made P (length es) (length ts) n = subst (λ (e : ℕ). numbering n total es cs rs ≡ made P e (length ts) n) (sym long) numbered in
    ∣ record {
      base = inl (subst (λ (e : ℕ). Accepted P e ts) (sym long) A);
      reached = subst (Reached P (length es) ts) (sym m) (making n few);
      stands = st;
      reads = reads;
    } ∣₁

-- the lists as they are allocated are bare
pub bare_read :
    (E T : ℕ) (es : List Edge) (cs : List TriangleContents) (rs : List Ring) → es ≡ replicate E empty_edge → cs ≡ replicate T kind.None
    → rs ≡ replicate (3 * T) blank_ring → Bare es cs rs
bare_read E T es cs rs e c r =
    coe 0 1 (i. Bare (sym e i) (sym c i) (sym r i)) (bare_replicate E T (3 * T) empty_edge blank_ring refl (omega arith))

-- what subdividing the bare lists by n gives, read off the table's own lists
pub numbered_as_made :
    (E T P first n total : ℕ) (es es' es0 : List Edge) (cs cs' cs0 : List TriangleContents) (rs rs' rs0 : List Ring) → es0 ≡ replicate E empty_edge
    → cs0 ≡ replicate T kind.None → rs0 ≡ replicate (3 * T) blank_ring → es' ≡ es → cs' ≡ cs → rs' ≡ rs → first ≡ P
    → (Bare es0 cs0 rs0 → numbering (0 + n) total es' cs' rs' ≡ made first (length es0) (length cs0) n)
    → numbering n total es cs rs ≡ made P E T n
numbered_as_made E T P first n total es es' es0 cs cs' cs0 rs rs' rs0 e0 c0 r0 e c r f h =
    let el : length es0 ≡ E = ap length e0 ∙ length-replicate E empty_edge in
    let tl : length cs0 ≡ T = ap length c0 ∙ length-replicate T kind.None in
    let z : 0 + n ≡ n = omega arith in
    let g = h (bare_read E T es0 cs0 rs0 e0 c0 r0) in
    cc
