use Rattle.std.proofs.Common.{◌≡◌, ◌+◌, ◌≤◌, true, leb, sym, ap, ◌∙◌, arith}
use Rattle.refusal.specs.declared.Refusal.TheVariants.{SubdividedTooOften}
use Rattle.mesh.specs.Calls.{unless, unless_refused}
use Rattle.mesh.specs.Numbering.{grown}
use Rattle.table.specs.Tables.{numbering}
use Rattle.table.proofs.Growing.{small}
use Rattle.table.proofs.table.Table.subdivide.Goals as goal

pub returns-clause-numbered : goal.returns-clause-numbered
returns-clause-numbered c =
    let t = c.args.self.now in
    let a = c.args.amount in
    let n : t.n ≤ 12 = small t in
    let h : t.n + a ≤ 12 = omega arith in
    let yes : leb (t.n + a) 12 ≡ true = grind arith in
    c.grow.ensures.numbered ∙ sym (ap (λ b. unless_refused (unless b (SubdividedTooOften t.n a)) (grown a (numbering t)) (numbering t)) yes)
