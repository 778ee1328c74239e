use Rattle.std.proofs.Common.{◌≡◌, ◌+◌, length, vec_items, vec_len, sym, rules}
use Rattle.growing.specs.Standing.{numbering, Stands}
use Rattle.mesh.specs.Numbering.{grown}
use Rattle.std.specs.Vec.{with_items}
use Rattle.std.proofs.lemmas.List.{with_items_is}
use Rattle.table.proofs.Growing.{limits_read, sound_grown, stands_read, stands_same}
use Rattle.table.proofs.table.Table.grow.Goals as goal

pub subdivide_all-self-requires-clause-stands : goal.subdivide_all-self-requires-clause-stands
subdivide_all-self-requires-clause-stands c =
    stands_read c.args.self.now c.deref_mut.result.now c.deref_mut-2.result.now c.deref_mut-3.result.now c.deref_mut.ensures.value
    c.deref_mut-2.ensures.value c.deref_mut-3.ensures.value

pub subdivide_all-self-requires-clause-limits : goal.subdivide_all-self-requires-clause-limits
subdivide_all-self-requires-clause-limits c =
    limits_read c.args.self.now c.deref_mut.result.now c.deref_mut-2.result.now c.deref_mut-3.result.now c.deref_mut.ensures.value
    c.deref_mut-2.ensures.value c.deref_mut-3.ensures.value

pub invariant_of-self : goal.invariant_of-self
invariant_of-self c =
    let t = c.args.self.now in
    let s = c.subdivide_all-self in
    let a = c.args.amount in
    let es = vec_items (with_items t.edges s.new.edges) in
    let cs = vec_items (with_items t.contents s.new.contents) in
    let rs = vec_items (with_items t.rings s.new.rings) in
    let e : s.new.edges ≡ es = sym (with_items_is t.edges s.new.edges (search rules)) in
    let k : s.new.contents ≡ cs = sym (with_items_is t.contents s.new.contents (search rules)) in
    let r : s.new.rings ≡ rs = sym (with_items_is t.rings s.new.rings (search rules)) in
    let many : length es ≡ length (vec_items t.edges) = search rules in
    let e' = c.deref_mut.ensures.value in
    let k' = c.deref_mut-2.ensures.value in
    let r' = c.deref_mut-3.ensures.value in
    let h = s.ensures.numbered in
    let numbered : numbering (t.n + a) s.result es cs rs ≡ grown a (numbering t.n t.total (vec_items t.edges) (vec_items t.contents) (vec_items t.rings)) = cc in
    let stands : Stands (t.n + a) es cs rs = stands_same (t.n + a) s.new.edges es s.new.contents cs s.new.rings rs e k r s.ensures.stands in
    record {
      sound =
          sound_grown (vec_len t.points) (vec_items t.triangles) (vec_items t.forward) (vec_items t.edges) (vec_items t.contents) (vec_items t.rings) t.n t.total
          a es cs rs s.result many numbered c.requires stands t.sound;
    }
