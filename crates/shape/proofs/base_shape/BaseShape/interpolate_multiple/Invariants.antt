use Rattle.std.proofs.Common.{◌≡◌, length, drop}
use Rattle.shape.specs.Listing.{placed, share, along}
use Rattle.shape.proofs.base_shape.BaseShape.interpolate_multiple.Given as goal

abbrev pub invariant-loop-i : goal.invariant-loop-i
invariant-loop-i g l =
    placed (λ i. g.Self.BaseShape.between l.self l.a l.b (share i (length l.indices))) l.i (drop l.i l.indices) l.buffer
    ≡ along (g.Self.BaseShape.between l.self l.a l.b) l.indices l.initial.buffer
