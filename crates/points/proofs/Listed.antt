-- Points along an edge are those along the list of its vertices.
use Rattle.std.proofs.Common.{length, ap}
use Rattle.pattern.proofs.Fresh.{read_all}
use Rattle.shape.specs.Listing.{placed}
use Rattle.points.specs.Calculating.{at, AlongStands}

pub along_stands : (Point Frac : Type 0) → AlongStands Point Frac
along_stands Point Frac share blank M l p q f =
    ap (λ xs. placed (λ i. M.between (at blank f p) (at blank f q) (share i (length l))) 0 xs f) (read_all l)
