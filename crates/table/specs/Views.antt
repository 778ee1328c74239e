-- A triangle of a table, and the view of it.
use Rattle.std.specs.Prelude.{ℕ, false, List, slice_index_or}
use Rattle.growing.specs.SteppingAll.{kind_at}
use Rattle.mesh.specs.Faces.{by_side}
use Rattle.pattern.specs.Place.{Patch}
use Rattle.pattern.specs.Ring.{pick}
use Rattle.rings.specs.declared.contents.Ring.{Ring}
use Rattle.rings.specs.declared.contents.TriangleContents.{TriangleContents}
use Rattle.rings.specs.Held.{held}
use Rattle.shape.specs.declared.triangle.Triangle.{Triangle}
use Rattle.table.specs.declared.forward.Forward.{Forward}
use Rattle.table.specs.Forwards.{triangle_at}

abbrev pub forward_at : List Forward → ℕ → Forward
forward_at fs i = slice_index_or fs i (record { ab = false; bc = false; ca = false })

-- triangle i as the table has it
abbrev pub patch_at : List Triangle → List Forward → List TriangleContents → List Ring → ℕ → Patch
patch_at ts fs cs rs i =
    record {
      tri = by_side (triangle_at ts i);
      forth = λ k. pick k (forward_at fs i).ab (forward_at fs i).bc (forward_at fs i).ca;
      inner = held rs 3 (kind_at cs i);
    }
