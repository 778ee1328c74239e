use Rattle.std.proofs.Common.{◌≡◌, ◌+◌, ◌*◌, ◌<◌, length, sym, ap, ◌∙◌, arith, rules}
use Rattle.rings.specs.declared.contents.Side.TheVariants.{Ab}
use Rattle.rings.specs.Slices.{read}
use Rattle.rings.proofs.Patches.{long_patch, whole_patch}
use Rattle.faces.proofs.Patches.{patch_faces_lem}
use Rattle.mesh.specs.Calls.{triangle_faces}
use Rattle.mesh.specs.Faces.{face_numbers}
use Rattle.mesh.specs.Numbering.{edge_of}
use Rattle.table.specs.Tables.{numbering, patch_at, triangles}
use Rattle.table.proofs.Growing.{small}
use Rattle.faces.specs.Viewed.{view_faces}
use Rattle.indices.proofs.Answering.{answered, left, square_small, triangle_passes}
use Rattle.indices.proofs.InTable.{table_numbers}
use Rattle.indices.proofs.triangle_faces.get_indices.Goals as goal

pub overflow_add-needed : goal.overflow_add-needed
overflow_add-needed c = let n = small c.args.table.now in omega arith

pub overflow_add-needed-2 : goal.overflow_add-needed-2
overflow_add-needed-2 c = let n = small c.args.table.now in omega arith

pub overflow_mul-needed : goal.overflow_mul-needed
overflow_mul-needed c = omega (arith, square_small c.args.table.now.n (small c.args.table.now))

pub overflow_mul-needed-2 : goal.overflow_mul-needed-2
overflow_mul-needed-2 c = omega (arith, square_small c.args.table.now.n (small c.args.table.now))

pub write_triangle-requires-clause-whole : goal.write_triangle-requires-clause-whole
write_triangle-requires-clause-whole c =
    let t = c.args.table.now in
    whole_patch t.n (edge_of (numbering t)) (patch_at t c.args.triangle) c.view-view.result c.view-view.ensures

pub write_triangle-requires-clause-room : goal.write_triangle-requires-clause-room
write_triangle-requires-clause-room c =
    let t = c.args.table.now in
    let e : length (read c.view-view.result.ab) ≡ t.n = long_patch t.n (edge_of (numbering t)) (patch_at t c.args.triangle) c.view-view.result c.view-view.ensures Ab in
    let s : (length (read c.view-view.result.ab) + 1) * (length (read c.view-view.result.ab) + 1) ≡ (t.n + 1) * (t.n + 1) = ap (λ n. (n + 1) * (n + 1)) e in
    omega arith

pub returns-clause-answers : goal.returns-clause-answers
returns-clause-answers c =
    let t = c.args.table.now in
    let i = c.args.triangle in
    let w = c.view-view.result in
    let there : i < length (triangles t) = search rules in
    let same = table_numbers t i there ∙ sym (ap face_numbers (patch_faces_lem t.n (edge_of (numbering t)) (patch_at t i) w c.view-view.ensures)) in
    answered (triangles t) (numbering t) (triangle_faces i (length c.args.out.now)) (triangle_passes (triangles t) (numbering t) i (length c.args.out.now) there (omega arith)) c.args.out.now c.write_triangle.new.out (view_faces w) c.write_triangle.result
    c.write_triangle.ensures.wrote same

pub returns-clause-written : goal.returns-clause-written
returns-clause-written c =
    let t = c.args.table.now in
    let i = c.args.triangle in
    let w = c.view-view.result in
    let there : i < length (triangles t) = search rules in
    let same = table_numbers t i there ∙ sym (ap face_numbers (patch_faces_lem t.n (edge_of (numbering t)) (patch_at t i) w c.view-view.ensures)) in
    left (triangles t) (numbering t) (triangle_faces i (length c.args.out.now)) (triangle_passes (triangles t) (numbering t) i (length c.args.out.now) there (omega arith)) c.args.out.now c.write_triangle.new.out (view_faces w) c.write_triangle.result
    c.write_triangle.ensures.wrote same
