-- A side of a ring, read in the list of the ring's sides.
use Rattle.std.proofs.Common.{◌≡◌, ℕ, ◌+◌, ◌*◌, ◌<◌, List, get_or, drop, ap, ◌∙◌, arith}
use Rattle.std.proofs.lemmas.List.{get_or-take, get_or-drop}
use Rattle.rings.specs.declared.contents.Ring.{Ring}
use Rattle.rings.specs.declared.contents.Side.{Side}
use Rattle.rings.specs.declared.contents.Side.TheVariants.{Ab, Bc, Ca}
use Rattle.rings.specs.Sides.{on_sides, side_len, side_number, side_of}

-- where side s starts in the list of a ring's sides
abbrev pub from : ℕ → Side → ℕ → ℕ
from L Ab j = j
from L Bc j = L + j
from L Ca j = L + L + j

from_is : (L : ℕ) (s : Side) (j : ℕ) → side_number s * L + j ≡ from L s j
from_is L Ab j = omega arith
from_is L Bc j = omega arith
from_is L Ca j = omega arith

pub at_side : (g : Ring) (s : Side) (j : ℕ) → j < side_len g → get_or (side_of g s) j 0 ≡ get_or (on_sides g) (from (side_len g) s j) 0
at_side g s j h =
    let L : ℕ = side_len g in
    let sides : List ℕ = on_sides g in
    let start : ℕ = side_number s * L in
    get_or-take L (drop start sides) j 0 h ∙ get_or-drop start sides j 0 ∙ ap (λ n. get_or sides n 0) (from_is L s j)
