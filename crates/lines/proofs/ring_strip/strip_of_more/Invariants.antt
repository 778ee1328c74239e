use Rattle.std.proofs.Common.{◌+◌, ◌-◌, ◌*◌, ◌≤◌, take}
use Rattle.std.specs.List.{flat_map}
use Rattle.arrayvec.specs.ArrayVec.{array_vec_len, Extends}
use Rattle.rings.specs.Views.{ring_of_view}
use Rattle.lines.proofs.LongStrip.{side_run, descent, sides_up, sides_down}
use Rattle.lines.proofs.ring_strip.strip_of_more.Given as goal

abbrev pub invariant-loop-side : goal.invariant-loop-side
invariant-loop-side l = record {
  items : Extends l.initial.strip (flat_map (side_run (l.m - 2) (ring_of_view l.view)) (take l.side-index sides_up)) l.strip;
  len : array_vec_len l.strip ≤ 10 * l.side-index;
}

abbrev pub invariant-loop-side-2 : goal.invariant-loop-side-2
invariant-loop-side-2 l = record {
  items : Extends l.initial.strip (flat_map (descent (l.m - 1) (ring_of_view l.view)) (take l.side-index sides_down)) l.strip;
  len : array_vec_len l.strip ≤ 32 + 23 * l.side-index;
}
