-- The view of a triangle of a sound table shows the triangle.
use Rattle.std.proofs.Common.{◌≡◌, ℕ, zero, suc, ◌<◌, ◌≤◌, Bool, false, List, length, get_or, vec_items, vec_len, sym, ap, ◌∙◌, subst, ap₂, arith}
use Rattle.std.proofs.lemmas.List.{get_or_read}
use mathlib.Core.Logic.{∥∥₁_elim}
use native.Mathlib.Bridge.{le_prop}
use native.Mathlib.Nat.{ℕ_set}
use Rattle.growing.specs.declared.edge.Edge.{Edge}
use Rattle.growing.specs.Edges.{edge_in, edge_vertices}
use Rattle.growing.specs.Standing.{numbering}
use Rattle.growing.specs.SteppingAll.{kind_at}
use Rattle.growing.proofs.Tables.{edge_of_lem}
use Rattle.mesh.specs.Numbering.{edge_of}
use Rattle.rings.specs.declared.contents.Ring.{Ring}
use Rattle.rings.specs.declared.contents.TriangleContents.{TriangleContents}
use Rattle.rings.specs.declared.contents.TriangleContents.TheVariants as kind
use Rattle.rings.specs.declared.ring_view.RingView.{RingView}
use Rattle.rings.specs.declared.slice.Slice.{Slice}
use Rattle.rings.specs.Held.{held, Fits}
use Rattle.rings.specs.Slices.{Reads}
use Rattle.rings.specs.Views.{ShowsPatch}
use Rattle.rings.proofs.Propositions.{fits_prop}
use Rattle.shape.specs.declared.triangle.Triangle.{Triangle}
use Rattle.table.specs.declared.forward.Forward.{Forward}
use Rattle.table.specs.Forwards.{no_triangle, triangle_at, EdgesBelow}
use Rattle.table.specs.declared.table.Table.{Table}
use Rattle.table.specs.Tables as Tables
use Rattle.table.specs.Sound.{Sound}
use Rattle.table.specs.Views.{patch_at, forward_at}
use Rattle.table.proofs.Facts as facts

-- w reads a triangle x as f says, with the contents k inside
pub record Views (x : Triangle) (f : Forward) (k : TriangleContents) (es : List Edge) (rs : List Ring) (w : RingView) : Type 0 where
  pub a_is : w.a ≡ x.a
  pub b_is : w.b ≡ x.b
  pub c_is : w.c ≡ x.c
  pub on_ab : Reads (edge_vertices (edge_in es x.ab)) f.ab w.ab
  pub on_bc : Reads (edge_vertices (edge_in es x.bc)) f.bc w.bc
  pub on_ca : Reads (edge_vertices (edge_in es x.ca)) f.ca w.ca
  pub inner_is : w.inner ≡ k
  pub rings_are : w.rings.now ≡ rs
  pub depth_is : w.depth ≡ 3

reads_same : (l m : List ℕ) (b : Bool) (s : Slice) → l ≡ m → Reads l b s → Reads m b s
reads_same l m b s e h = subst (λ (x : List ℕ). Reads x b s) e h

module _ (P : ℕ) (ts : List Triangle) (fs : List Forward) (es : List Edge) (cs : List TriangleContents) (rs : List Ring) (n total : ℕ)
    (S : ∥ Sound P ts fs es cs rs n total ∥₁) (i : ℕ) (h : i < length ts) where
  forward_within : i < length fs
  forward_within = ∥∥₁_elim S le_prop (λ s. let e = facts.forward_many P ts fs es cs rs n total s in omega arith)

  contents_within : i < length cs
  contents_within = ∥∥₁_elim S le_prop (λ s. let e = facts.contents_many P ts fs es cs rs n total s in omega arith)

  edges_within : EdgesBelow (length es) (triangle_at ts i)
  edges_within = (
    ∥∥₁_elim S le_prop (λ s. (facts.edges_below P ts fs es cs rs n total s i h).0),
    ∥∥₁_elim S le_prop (λ s. (facts.edges_below P ts fs es cs rs n total s i h).1),
    ∥∥₁_elim S le_prop (λ s. (facts.edges_below P ts fs es cs rs n total s i h).2),
  )

  long : (e : ℕ) → e < length es → length (edge_of (numbering n total es cs rs) e) ≡ n
  long e l = ∥∥₁_elim S (ℕ_set (length (edge_of (numbering n total es cs rs) e)) n) (λ s. facts.edge_many P ts fs es cs rs n total s e l)

  side_long : (k : ℕ) → k < 3 → length (edge_of (numbering n total es cs rs) ((patch_at ts fs cs rs i).tri.edge k)) ≡ n
  side_long zero l = long (triangle_at ts i).ab edges_within.0
  side_long (suc zero) l = long (triangle_at ts i).bc edges_within.1
  side_long (suc (suc k)) l = long (triangle_at ts i).ca edges_within.2

  fits : Fits rs 3 n (kind_at cs i)
  fits = ∥∥₁_elim S (fits_prop rs 3 n (kind_at cs i)) (λ s. facts.goes P ts fs es cs rs n total s i h)

  few : n ≤ 12
  few = ∥∥₁_elim S le_prop (λ s. facts.few P ts fs es cs rs n total s)

  same : (e : ℕ) → e < length es → edge_vertices (edge_in es e) ≡ edge_of (numbering n total es cs rs) e
  same e l = sym (edge_of_lem n total e es cs rs l)

  shows : (w : RingView) → Views (triangle_at ts i) (forward_at fs i) (kind_at cs i) es rs w → ShowsPatch n (edge_of (numbering n total es cs rs)) (patch_at ts fs cs rs i) w
  shows w v =
      let t : Triangle = triangle_at ts i in
      let f : Forward = forward_at fs i in
      record {
        a_is = v.a_is;
        b_is = v.b_is;
        c_is = v.c_is;
        on_ab = reads_same (edge_vertices (edge_in es t.ab)) (edge_of (numbering n total es cs rs) t.ab) f.ab w.ab (same t.ab edges_within.0) v.on_ab;
        on_bc = reads_same (edge_vertices (edge_in es t.bc)) (edge_of (numbering n total es cs rs) t.bc) f.bc w.bc (same t.bc edges_within.1) v.on_bc;
        on_ca = reads_same (edge_vertices (edge_in es t.ca)) (edge_of (numbering n total es cs rs) t.ca) f.ca w.ca (same t.ca edges_within.2) v.on_ca;
        long = side_long;
        inner_is = ap (λ l. held l w.depth w.inner) v.rings_are ∙ ap₂ (held rs) v.depth_is v.inner_is;
        few = few;
        goes =
            subst (λ (l : List Ring). Fits l w.depth n w.inner) (sym v.rings_are)
            (subst (λ (d : ℕ). Fits rs d n w.inner) (sym v.depth_is) (subst (λ (x : TriangleContents). Fits rs 3 n x) (sym v.inner_is) fits));
      }

-- triangle i of a table, as its lists are read
module _ (t : Table) (i : ℕ) (h : i < vec_len t.triangles) where
  within : i < length (vec_items t.triangles)
  within = omega (arith, h, t.triangles.ok.0)

  pub readings : i < vec_len t.forward
  readings =
      omega (
        arith,
        t.forward.ok.0,
        forward_within (vec_len t.points) (vec_items t.triangles) (vec_items t.forward) (vec_items t.edges) (vec_items t.contents)
            (vec_items t.rings) t.n t.total t.sound i within,
      )

  pub contents : i < vec_len t.contents
  contents =
      omega (
        arith,
        t.contents.ok.0,
        contents_within (vec_len t.points) (vec_items t.triangles) (vec_items t.forward) (vec_items t.edges) (vec_items t.contents)
            (vec_items t.rings) t.n t.total t.sound i within,
      )

  module _ (x : Triangle) (e : x ≡ get_or (vec_items t.triangles) i x) where
    is : x ≡ triangle_at (vec_items t.triangles) i
    is = get_or_read (vec_items t.triangles) i x within e no_triangle

    pub edges : EdgesBelow (vec_len t.edges) x
    edges =
        subst (EdgesBelow (vec_len t.edges)) (sym is)
        (subst (λ (m : ℕ). EdgesBelow m (triangle_at (vec_items t.triangles) i)) (sym t.edges.ok.0)
        (edges_within (vec_len t.points) (vec_items t.triangles) (vec_items t.forward) (vec_items t.edges) (vec_items t.contents) (vec_items t.rings) t.n
        t.total t.sound i within))

    pub shows_read :
        (f : Forward) (k : TriangleContents) (w : RingView) → f ≡ get_or (vec_items t.forward) i f → k ≡ get_or (vec_items t.contents) i k
        → Views x f k (vec_items t.edges) (vec_items t.rings) w → ShowsPatch t.n (edge_of (Tables.numbering t)) (Tables.patch_at t i) w
    shows_read f k w p q v =
        let fs = vec_items t.forward in
        let cs = vec_items t.contents in
        let p' : f ≡ forward_at fs i
        = get_or_read fs i f (omega (arith, readings, t.forward.ok.0)) p (record { ab = false; bc = false; ca = false }) in
        let q' : k ≡ kind_at cs i = get_or_read cs i k (omega (arith, contents, t.contents.ok.0)) q kind.None in
        shows (vec_len t.points) (vec_items t.triangles) fs (vec_items t.edges) cs (vec_items t.rings) t.n t.total t.sound i within w
        (subst (λ (y : Triangle × Forward × TriangleContents). Views y.0 y.1 y.2 (vec_items t.edges) (vec_items t.rings) w) (λ j. (is j, p' j, q' j)) v)
