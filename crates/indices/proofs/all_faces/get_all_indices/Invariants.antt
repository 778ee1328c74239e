use Rattle.std.proofs.Common.{◌≡◌, ◌+◌, ◌*◌}
use Rattle.pattern.specs.Place.{patch_faces}
use Rattle.faces.specs.Written.{Wrote}
use Rattle.mesh.specs.Numbering.{edge_of}
use Rattle.table.specs.Tables.{numbering, patch_at}
use Rattle.indices.proofs.InTurn.{in_turn}
use Rattle.indices.proofs.all_faces.get_all_indices.Given as goal

-- the faces of the first triangles are written, one triangle after another
abbrev pub invariant-loop-i : goal.invariant-loop-i
invariant-loop-i l = record {
  wrote : Wrote l.initial.out 0 (in_turn (λ k. patch_faces l.table.n (edge_of (numbering l.table)) (patch_at l.table k)) l.i) l.out l.at;
  counted : l.at ≡ l.i * (3 * ((l.table.n + 1) * (l.table.n + 1)));
}
