use Rattle.std.proofs.Common.{take}
use Rattle.faces.specs.Written.{Wrote}
use Rattle.faces.proofs.writer.FaceWriter.write.Given as goal

abbrev pub invariant-loop-a : goal.invariant-loop-a
invariant-loop-a l = Wrote l.initial.out l.initial.at (take l.a-index l.faces) l.out l.at
