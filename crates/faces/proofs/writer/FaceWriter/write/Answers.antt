use Rattle.std.proofs.Common.{◌≡◌, ◌+◌, ◌≤◌, length, take, arith, rules}
use Rattle.faces.proofs.Writing.{as_long, face_more}
use Rattle.faces.proofs.writer.FaceWriter.write.Goals as goal

pub loop-a-preserved : goal.loop-a-preserved
loop-a-preserved c =
    let l = c.loop-a in
    let fs = c.args.faces.now in
    let far : length (take l.a-index fs) ≡ l.a-index = search rules in
    let room : l.at + 3 ≤ length l.out = omega (arith, as_long l.invariant, l.invariant.next_is) in
    face_more fs l.a-index (0, 0, 0) (omega arith) room l.invariant
