use Rattle.std.proofs.Common.{length, arith, rules}
use Rattle.rings.specs.Slices.{read}
use Rattle.faces.proofs.Counting.{view_lengths}
use Rattle.faces.proofs.Writing.{glue, long_buffer}
use Rattle.faces.proofs.triangle.write_triangle.Goals as goal

pub write_contents-requires-clause-room : goal.write_contents-requires-clause-room
write_contents-requires-clause-room c =
    let w = c.args.view.now in
    let l = view_lengths (length (read w.ab)) w c.requires.whole in
    omega (arith, long_buffer c.write_ring.ensures, c.write_ring.ensures.wrote.next_is)

pub returns-clause-wrote : goal.returns-clause-wrote
returns-clause-wrote c =
    let h = glue c.write_ring.ensures c.write_contents.ensures in
    let w = h.wrote in
    let n = h.same_buffer in
    search rules

pub returns-clause-next : goal.returns-clause-next
returns-clause-next c =
    let w = c.args.view.now in
    let l = view_lengths (length (read w.ab)) w c.requires.whole in
    omega (arith, c.write_ring.ensures.wrote.next_is, c.write_contents.ensures.wrote.next_is)
