use Rattle.std.proofs.Common.{◌≡◌, ℕ, ◌+◌, ◌-◌, ◌*◌, List, [], ◌∷◌, ◌++◌}
use Rattle.arrayvec.specs.ArrayVec.{array_vec_len}
use Rattle.pattern.specs.Ring.{down}
use Rattle.rings.specs.Views.{edge_at, inner_at, ring_of_view}
use Rattle.lines.proofs.ring_strip.zigzag.Given as goal

-- with the way down that is left, all is there
abbrev pub invariant-loop-i : goal.invariant-loop-i
invariant-loop-i l =
    let r = ring_of_view l.view in
    let F : ℕ → List ℕ = λ j. edge_at l.side r j ∷ inner_at l.side r (j - 1) ∷ [] in
    record {
      items : l.strip.items ++ down l.i F ≡ l.initial.strip.items ++ down l.last F;
      len : array_vec_len l.strip + 2 * l.i ≡ array_vec_len l.initial.strip + 2 * l.last;
    }
