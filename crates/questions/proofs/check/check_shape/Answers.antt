use Rattle.std.proofs.Common.{length, ◌∙◌}
use Rattle.questions.proofs.Verdicts.{list_settles}
use Rattle.questions.proofs.check.check_shape.Goals as goal

pub returns : goal.returns
returns g c =
    let base = c.args.base.now in
    list_settles (length (g.S.BaseShape.points base)) (g.S.BaseShape.edgeCount base) (g.S.BaseShape.triangles base)
    c.point_count-points.result c.edges-edges.result c.triangle_count-count.result c.as_slice.result.now
    c.in_ok-check_counts.field-0 c.check.result
    c.point_count-points.ensures c.edges-edges.ensures c.triangle_count-count.ensures
    (c.as_slice.ensures.value ∙ c.triangles_of-triangles.ensures) c.in_ok-check_counts.ensures c.check.ensures
