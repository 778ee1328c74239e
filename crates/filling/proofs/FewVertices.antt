-- The vertices of a table are at most 3,360.
use Rattle.std.proofs.Common.{◌≤◌, vec_items, refl}
use Rattle.table.specs.declared.table.Table.{Table}
use Rattle.table.proofs.Growing.{limits_read}

pub few_vertices : (t : Table) → t.total ≤ 3360
few_vertices t = (limits_read t (vec_items t.edges) (vec_items t.contents) (vec_items t.rings) refl refl refl).few_vertices
