use Rattle.std.proofs.Common.{◌≡◌, ◌+◌, [], ◌∷◌}
use Rattle.arrayvec.specs.ArrayVec.{array_vec_len, Extends}
use Rattle.pattern.specs.Ring.{up}
use Rattle.rings.specs.Views.{inner_at, ring_of_view}
use Rattle.lines.proofs.ring_strip.run.Given as goal

abbrev pub invariant-loop-i : goal.invariant-loop-i
invariant-loop-i l = record {
  items : Extends l.initial.strip (up 0 l.i (λ j. inner_at l.side (ring_of_view l.view) j ∷ [])) l.strip;
  len : array_vec_len l.strip ≡ array_vec_len l.initial.strip + l.i;
}
