-- What a report says of a base of P points, E edges and the triangles ts.
use Rattle.std.specs.Prelude.{◌≡◌, ℕ, List, length}
use Rattle.shape.specs.declared.triangle.Triangle.{Triangle}
use Rattle.shape.specs.Verdict.{Verdict}
use Rattle.line.specs.declared.instruction.Kind.{Kind}
use Rattle.order.specs.declared.report.Report.{Report}

pub record Reports (k : Kind) (P E : ℕ) (ts : List Triangle) (r : Report) : Type 0 where
  pub kind : r.kind ≡ k
  pub points : r.points ≡ P
  pub edges : r.edges ≡ E
  pub triangles : r.triangles ≡ length ts
  pub verdict : Verdict P E ts r.verdict
