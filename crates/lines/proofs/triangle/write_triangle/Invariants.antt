use Rattle.std.proofs.Common.{ℕ}
use Rattle.mesh.specs.Calls.{TakenBy}
use Rattle.mesh.specs.Strips.{offset_by}
use Rattle.rings.specs.Held.{Fits}
use Rattle.lines.specs.Drawing.{Draws}
use Rattle.lines.proofs.Inward.{inner_strips}
use Rattle.lines.proofs.triangle.write_triangle.Given as goal

-- whatever writes the strips that are left has written all
abbrev pub invariant-loop-ring : goal.invariant-loop-ring
invariant-loop-ring g l =
    let k = g.K.Sink in
    let all = offset_by l.offset (inner_strips l.initial.ring) in
    let left = offset_by l.offset (inner_strips l.ring) in
    record {
      writes : (s : g.row.K.Denot) → Draws k.meaning k.held left l.sink s → Draws k.meaning k.held all l.initial.sink s;
      taken : TakenBy (k.meaning l.sink) left;
      goes : (m : ℕ) × Fits l.ring.rings.now l.ring.depth m l.ring.inner;
    }

abbrev pub decreases-loop-ring : goal.decreases-loop-ring
decreases-loop-ring g l = l.ring.depth
