-- The worked examples hold.
use Rattle.std.proofs.Common.{refl, ap₂, arith}
use Rattle.mesh.specs.Examples.{square}
use Rattle.mesh.specs.Numbering.{made}
use Rattle.questions.proofs.Verdicts.{answer_verdict}
use Rattle.mesh.proofs.Making.{accepted_made}
use Rattle.points.specs.Examples.{Examples, between, half, square_calls}

pub examples : Examples
examples =
    record {
      ab0 = refl;
      one = refl;
      beyond = refl;
      three_b = refl;
      more_a = refl;
      more_ab = refl;
      more_in = refl;
      none_written = λ f. refl;
      histories = refl;
      backward = refl;
      square_after = refl;
      square_added = refl;
      square_run =
          record {
            n = 1;
            first = made 4 5 2 1;
            making = (accepted_made 4 5 square 1 (answer_verdict 4 5 square) (omega arith)).passes;
            calls = square_calls;
            leads = refl;
          };
      square_same =
          record {
            points = (refl, (refl, (refl, (refl, tt))));
            triangles = refl;
            edges = refl;
            between = λ p p' q q' d e i n. ap₂ (λ x y. between x y (i, n)) d e;
            half = λ p p' q q' d e. ap₂ half d e;
          };
    }
