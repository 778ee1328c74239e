use Rattle.std.proofs.Common.{◌≡◌, length, ap, ◌∙◌, arith}
use Rattle.pattern.specs.Ring.{ring_faces}
use Rattle.rings.specs.Slices.{read}
use Rattle.rings.specs.Views.{ring_of_view}
use Rattle.faces.proofs.Writing.{glue, renamed}
use Rattle.faces.proofs.writer.FaceWriter.write_ring.Goals as goal

pub returns-in-1 : goal.returns-in-1
returns-in-1 c =
    let e : 1 ≡ length (read c.args.view.now.ab) = omega arith in
    renamed ((cc) ∙ ap (λ n. ring_faces n (ring_of_view c.args.view.now)) e)
    (glue (renamed c.tips.ensures c.write-in-1.ensures) c.write-in-1-2.ensures)

pub returns-in-2 : goal.returns-in-2
returns-in-2 c =
    let e : 2 ≡ length (read c.args.view.now.ab) = omega arith in
    renamed (ap (λ n. ring_faces n (ring_of_view c.args.view.now)) e)
    (glue (renamed c.tips-in-2.ensures c.write-in-2.ensures) (glue (renamed c.ends.ensures c.write-in-2-2.ensures) (renamed c.heels.ensures c.write-in-2-3.ensures)))
