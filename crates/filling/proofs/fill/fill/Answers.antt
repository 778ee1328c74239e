use Rattle.std.proofs.Common.{◌≡◌, ◌<◌, length, None, sym, ap, ◌∙◌, le-leb, arith}
use Rattle.std.proofs.lemmas.List.{get_or_default}
use Rattle.mesh.specs.Calls.{answered_or, fill, refusal, unless, unless_refused}
use Rattle.point.specs.Points.{nought, point}
use Rattle.points.specs.Calculating.{at}
use Rattle.points.specs.Filling.{filled}
use Rattle.refusal.specs.declared.Refusal.TheVariants.{DataTooShort}
use Rattle.table.specs.Tables.{numbering, triangles}
use Rattle.filling.proofs.FewVertices.{few_vertices}
use Rattle.filling.proofs.Stepping.{next_vertex, none_left}
use Rattle.filling.proofs.fill.fill.Goals as goal

pub bounds-points-i : goal.bounds-points-i
bounds-points-i g c = omega (arith, c.loop-i-test.true, few_vertices c.args.table.now)

pub loop-i-preserved : goal.loop-i-preserved
loop-i-preserved g c =
    let i = c.loop-i.i in
    let t = c.args.table.now in
    let l = c.args.slice.now in
    let F = c.args.points.now in
    let G = g.G.Generator.generates in
    let P = at (point nought nought nought) F in
    let there : i < length F = omega (arith, c.loop-i-test.true, c.told-points, few_vertices t) in
    let made : (c.generate.result, c.generate.new.self) ≡ G c.loop-i.generator (P i)
    = c.generate.ensures ∙ ap (G c.loop-i.generator) (get_or_default F i _ (point nought nought nought) there) in
    next_vertex G P i t.total c.loop-i.generator c.loop-i.slice (filled G P t.total c.args.generator.now l) c.generate.result c.generate.new.self
    c.loop-i-test.true made c.loop-i.invariant

pub returns : goal.returns
returns g c =
    let t = c.args.table.now in
    let l = c.args.slice.now in
    let G = g.G.Generator.generates in
    let P = at (point nought nought nought) c.args.points.now in
    let whole = filled G P t.total c.args.generator.now l in
    let none : refusal (triangles t) (numbering t) (fill (length l)) ≡ None
    = ap (λ b. unless b (DataTooShort t.total (length l))) (le-leb t.total (length l) c.if-vertices-length.false) in
    record {
      answers = sym (ap (λ r. answered_or r tt) none);
      filled =
          none_left G P c.loop-i.i t.total c.loop-i.generator c.loop-i.slice whole c.loop-i-test.false c.loop-i.invariant
          ∙ sym (ap (λ r. unless_refused r whole (l, c.args.generator.now)) none);
    }
