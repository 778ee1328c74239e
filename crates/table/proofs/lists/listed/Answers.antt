use Rattle.std.proofs.Common.{◌≡◌, ◌^◌, ◌<◌, ◌≤◌, [], ◌∷◌, ◌++◌, Some, None, length, vec_items, ◌∙◌, arith, rules}
use Rattle.std.proofs.lemmas.List.{take_all}
use Rattle.table.proofs.Copied.{one_more}
use Rattle.table.proofs.lists.listed.Goals as goal

pub loop-i-preserved : goal.loop-i-preserved
loop-i-preserved g c xs n h =
    let i = c.loop-i.i in
    let lt : i < 2 ^ 64 = omega (arith, c.ranges.count, c.loop-i-test.true) in
    let pushed : vec_items c.push.new.self ≡ vec_items c.loop-i.list ++ (c.in-Some.x ∷ []) = search rules in
    one_more xs (vec_items c.loop-i.list) (vec_items c.push.new.self) i c.in-Some.x (h i (Some c.in-Some.x) lt c.in-Some.ensures)
    (c.loop-i.invariant xs n h) pushed

pub returns-in-None : goal.returns-in-None
returns-in-None g c xs n h =
    let i = c.loop-i.i in
    let lt : i < 2 ^ 64 = omega (arith, c.ranges.count, c.loop-i-test.true) in
    c.loop-i.invariant xs n h ∙ take_all i xs (h i None lt c.in-None.ensures)

pub returns : goal.returns
returns g c xs n h =
    let e : length xs ≤ c.loop-i.i = omega (arith, n) in
    c.loop-i.invariant xs n h ∙ take_all c.loop-i.i xs e
