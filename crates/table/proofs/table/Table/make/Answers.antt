use Rattle.std.proofs.Common.{◌≡◌, ◌≤◌, length, vec_items, arith, rules}
use Rattle.mesh.specs.Making.{too_often, refused}
use Rattle.mesh.proofs.Making.{accepted_made}
use Rattle.shape.specs.Questions.{Accepted}
use Rattle.table.specs.Made.{MadeOver}
use Rattle.table.proofs.table.Table.make.Goals as goal

pub returns-then-n-gt-MAX_SUBDIVISIONS : goal.returns-then-n-gt-MAX_SUBDIVISIONS
returns-then-n-gt-MAX_SUBDIVISIONS g c = too_often (omega arith)

pub returns-in-Err : goal.returns-in-Err
returns-in-Err g c = refused (omega arith) (search rules)

pub returns : goal.returns
returns g c =
    let points = g.S.BaseShape.points c.args.base.now in
    let ts = g.S.BaseShape.triangles c.args.base.now in
    let E = g.S.BaseShape.edgeCount c.args.base.now in
    let few : c.args.n ≤ 12 = omega arith in
    let A : Accepted (length points) E ts = search rules in
    let p : vec_items c.in_ok-points.points ≡ points = search rules in
    let t : vec_items c.in_ok-triangles.triangles ≡ ts = search rules in
    let e : c.edges.result ≡ E = search rules in
    (coe 0 1 (i. MadeOver (p i) (t i) (e i) c.args.n c.in_ok-table.table) c.in_ok-table.ensures, (accepted_made (length points) E ts c.args.n A few).passes)
