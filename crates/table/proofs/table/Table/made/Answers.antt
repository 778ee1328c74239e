use Rattle.std.proofs.Common.{◌≡◌, ℕ, ◌+◌, ◌*◌, length, replicate, vec_items, vec_len, refl, sym, subst, ap, ◌∙◌, arith, rules}
use Rattle.std.specs.Vec.{with_items}
use Rattle.std.proofs.lemmas.List.{length-replicate, with_items_is}
use Rattle.rings.specs.declared.contents.TriangleContents.TheVariants as kind
use Rattle.rings.specs.Held.{blank_ring}
use Rattle.growing.specs.Edges.{empty_edge}
use Rattle.growing.specs.Standing.{numbering, Stands}
use Rattle.growing.proofs.FromBare.{bare_stands}
use Rattle.mesh.specs.Numbering.{made}
use Rattle.table.specs.Forwards.{forwards}
use Rattle.table.proofs.Growing.{stands_same}
use Rattle.table.proofs.SoundAsMade.{bare_read, made_sound, numbered_as_made}
use Rattle.table.proofs.table.Table.made.Goals as goal

pub subdivide_all-total-requires-clause-stands : goal.subdivide_all-total-requires-clause-stands
subdivide_all-total-requires-clause-stands c =
    let e : c.deref_mut.result.now ≡ replicate c.args.edges empty_edge = search rules in
    let t : c.deref_mut-2.result.now ≡ replicate c.len-count.result kind.None = search rules in
    let r : c.deref_mut-3.result.now ≡ replicate (3 * c.len-count.result) blank_ring = search rules in
    bare_stands c.deref_mut.result.now c.deref_mut-2.result.now c.deref_mut-3.result.now (bare_read c.args.edges c.len-count.result _ _ _ e t r)

pub subdivide_all-total-requires-clause-limits : goal.subdivide_all-total-requires-clause-limits
subdivide_all-total-requires-clause-limits c =
    let e : c.deref_mut.result.now ≡ replicate c.args.edges empty_edge = search rules in
    let t : c.deref_mut-2.result.now ≡ replicate c.len-count.result kind.None = search rules in
    let el : length c.deref_mut.result.now ≡ c.args.edges = ap length e ∙ length-replicate c.args.edges empty_edge in
    let tl : length c.deref_mut-2.result.now ≡ c.len-count.result = ap length t ∙ length-replicate c.len-count.result kind.None in
    record {
      few_edges = omega (arith, c.requires.accepted.sizes.edges);
      few_triangles = omega (arith, c.requires.accepted.triangles.few);
      few_vertices = omega (arith, c.requires.accepted.sizes.points);
    }

pub invariant_of-result : goal.invariant_of-result
invariant_of-result c =
    let s = c.subdivide_all-total in
    let n = c.args.n in
    let ts = vec_items c.args.triangles in
    let es = vec_items (with_items c.in_ok-edges.edges s.new.edges) in
    let cs = vec_items (with_items c.in_ok-contents.contents s.new.contents) in
    let rs = vec_items (with_items c.in_ok-rings.rings s.new.rings) in
    let e : s.new.edges ≡ es = sym (with_items_is c.in_ok-edges.edges s.new.edges (search rules)) in
    let k : s.new.contents ≡ cs = sym (with_items_is c.in_ok-contents.contents s.new.contents (search rules)) in
    let r : s.new.rings ≡ rs = sym (with_items_is c.in_ok-rings.rings s.new.rings (search rules)) in
    let numbered : numbering n s.result es cs rs ≡ made (vec_len c.args.points) c.args.edges (length ts) n
    = numbered_as_made c.args.edges (length ts) (vec_len c.args.points) c.len-first.result n s.result es s.new.edges c.deref_mut.result.now cs s.new.contents
    c.deref_mut-2.result.now rs s.new.rings c.deref_mut-3.result.now (search rules) (search rules) (search rules) e k r (search rules) (s.ensures.made refl) in
    let alloc : vec_items c.in_ok-edges.edges ≡ replicate c.args.edges empty_edge = search rules in
    let many : length es ≡ length (vec_items c.in_ok-edges.edges) = search rules in
    let long : length es ≡ c.args.edges = many ∙ ap length alloc ∙ length-replicate c.args.edges empty_edge in
    let z : 0 + n ≡ n = omega arith in
    let st : Stands n s.new.edges s.new.contents s.new.rings = subst (λ (m : ℕ). Stands m s.new.edges s.new.contents s.new.rings) z s.ensures.stands in
    let stands : Stands n es cs rs = stands_same n s.new.edges es s.new.contents cs s.new.rings rs e k r st in
    let reads : vec_items c.in_ok-forward.forward ≡ forwards ts = search rules in
    record {
      sound =
          made_sound (vec_len c.args.points) c.args.edges n s.result ts (vec_items c.in_ok-forward.forward) es cs rs c.requires.accepted c.requires.few long
          numbered stands reads;
    }

pub returns : goal.returns
returns c =
    let s = c.subdivide_all-total in
    let n = c.args.n in
    let ts = vec_items c.args.triangles in
    let es = vec_items (with_items c.in_ok-edges.edges s.new.edges) in
    let cs = vec_items (with_items c.in_ok-contents.contents s.new.contents) in
    let rs = vec_items (with_items c.in_ok-rings.rings s.new.rings) in
    let e : s.new.edges ≡ es = sym (with_items_is c.in_ok-edges.edges s.new.edges (search rules)) in
    let k : s.new.contents ≡ cs = sym (with_items_is c.in_ok-contents.contents s.new.contents (search rules)) in
    let r : s.new.rings ≡ rs = sym (with_items_is c.in_ok-rings.rings s.new.rings (search rules)) in
    let alloc : vec_items c.in_ok-edges.edges ≡ replicate c.args.edges empty_edge = search rules in
    let many : length es ≡ length (vec_items c.in_ok-edges.edges) = search rules in
    record {
      points_are = refl;
      triangles_are = refl;
      edges_are = many ∙ ap length alloc ∙ length-replicate c.args.edges empty_edge;
      numbered =
          numbered_as_made c.args.edges (length ts) (length (vec_items c.args.points)) c.len-first.result n s.result es s.new.edges c.deref_mut.result.now cs
          s.new.contents c.deref_mut-2.result.now rs s.new.rings c.deref_mut-3.result.now (search rules) (search rules) (search rules) e k r (search rules)
          (s.ensures.made refl);
    }
