use Rattle.std.proofs.Common.{◌≡◌, take, vec_items}
use Rattle.table.specs.Forwards.{Has, forwards}
use Rattle.table.proofs.Readings.{seen_by}
use Rattle.table.proofs.forward.forwards_of.Given as goal

abbrev pub invariant-loop-t : goal.invariant-loop-t
invariant-loop-t l = Has l.seen (seen_by (take l.t-index l.triangles)) × (vec_items l.list ≡ forwards (take l.t-index l.triangles))
