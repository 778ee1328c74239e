use Rattle.std.proofs.Common.{length, sym, ap, arith, rules}
use Rattle.pattern.specs.Ring.{contents_faces}
use Rattle.rings.specs.Held.{held_view}
use Rattle.rings.specs.Slices.{read}
use Rattle.faces.proofs.Inward.{Within, within}
use Rattle.faces.proofs.Writing.{glue, renamed, long_buffer}
use Rattle.faces.proofs.writer.FaceWriter.+write_contents.Goals as goal

pub write_ring-requires-clause-room : goal.write_ring-requires-clause-room
write_ring-requires-clause-room t c =
    let f = c.requires.fits in
    let h : Within c.args.view.now c.ring_view-ring.result =
    within c.args.view.now c.ring_view-ring.result f.0 c.in-More.i c.in-More.is f.1 c.ring_view-ring.ensures in
    omega (arith, h.lengths)

pub write_contents-requires : goal.write_contents-requires
write_contents-requires t c =
    let w = c.args.view.now in
    let v = c.ring_view-ring.result in
    let f = c.requires.fits in
    let h : Within w v = within w v f.0 c.in-More.i c.in-More.is f.1 c.ring_view-ring.ensures in
    let e = long_buffer c.write_ring.ensures in
    let q = c.write_ring.ensures.wrote.next_is in
    let less = h.less in
    (search rules, ((length (read v.ab), h.whole.goes), omega (arith, h.lengths)))

pub returns-in-Six : goal.returns-in-Six
returns-in-Six t c =
    let w = c.args.view.now in
    renamed (sym (ap (λ t. contents_faces (held_view w.rings.now w.depth t)) c.in-Six.is)) c.write-in-Six.ensures

pub returns-in-More : goal.returns-in-More
returns-in-More t c =
    let f = c.requires.fits in
    let h : Within c.args.view.now c.ring_view-ring.result =
    within c.args.view.now c.ring_view-ring.result f.0 c.in-More.i c.in-More.is f.1 c.ring_view-ring.ensures in
    renamed (sym h.faces) (glue c.write_ring.ensures c.write_contents.ensures)
