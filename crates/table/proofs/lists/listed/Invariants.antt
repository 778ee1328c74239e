use Rattle.std.proofs.Common.{◌≡◌, List, length, take, vec_items}
use Rattle.table.specs.Lists.{AnswersFrom}
use Rattle.table.proofs.lists.listed.Given as goal

abbrev pub invariant-loop-i : goal.invariant-loop-i
invariant-loop-i g l = (xs : List _) → length xs ≡ l.count → AnswersFrom (goal.F-post g l.at) xs → vec_items l.list ≡ take l.i xs
