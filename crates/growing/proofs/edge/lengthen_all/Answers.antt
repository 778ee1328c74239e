use Rattle.std.proofs.Common.{◌<◌, length, ap, arith}
use Rattle.growing.specs.Edges.{edge_vertices}
use Rattle.growing.proofs.Lengthening.{still, longer_more}
use Rattle.growing.proofs.edge.lengthen_all.Goals as goal

pub lengthen-requires : goal.lengthen-requires
lengthen-requires c =
    let es = c.args.edges.now in
    let i = c.loop-e.e-index in
    let within : i < length es = omega arith in
    let same = ap (λ x. length (edge_vertices x)) (still es c.args.amount c.args.next i c.loop-e.edges c.loop-e.free c.loop-e.invariant) in
    (omega (arith, same, c.requires.room i within), omega arith)

pub loop-e-preserved : goal.loop-e-preserved
loop-e-preserved c =
    longer_more c.args.edges.now c.args.amount c.args.next c.loop-e.e-index c.loop-e.edges c.loop-e.free c.loop-e.invariant
    c.lengthen.new.self c.requires.small (omega arith) (omega arith)
    c.lengthen.ensures
