use Rattle.std.proofs.Common.{refl}
use Rattle.refusal.specs.declared.Refusal.TheVariants.{EdgeDirection, RepeatedTriangle}
use Rattle.shape.specs.Tables.{triangle_triangles, square_triangles}
use Rattle.questions.specs.Laws.{tetrahedron, two_sided, turned_copy}
use Rattle.questions.proofs.Verdicts.{answer_verdict}
use Rattle.questions.proofs.laws.examples_stand.Goals as goal

pub returns : goal.returns
returns c =
    record {
      triangle_accepted = answer_verdict 3 3 triangle_triangles;
      square_accepted = answer_verdict 4 5 square_triangles;
      tetrahedron_accepted = answer_verdict 4 6 tetrahedron;
      two_sided_refused = record { refusal = RepeatedTriangle 1; verdict = answer_verdict 3 3 two_sided; number_is = refl; triangle_is = refl };
      turned_copy_refused = record { refusal = EdgeDirection 1; verdict = answer_verdict 3 3 turned_copy; number_is = refl; triangle_is = refl };
    }
