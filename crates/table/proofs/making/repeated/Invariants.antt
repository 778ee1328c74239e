use Rattle.std.proofs.Common.{◌≡◌, replicate, vec_items}
use Rattle.table.proofs.making.repeated.Given as goal

abbrev pub invariant-loop : goal.invariant-loop
invariant-loop g l = (x : _) → ((r : _) → goal.F-post g l.make r → r ≡ x) → vec_items l.list ≡ replicate l.counter x
