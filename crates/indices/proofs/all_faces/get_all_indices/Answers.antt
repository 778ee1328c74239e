use Rattle.std.proofs.Common.{◌≡◌, ℕ, ◌+◌, ◌*◌, ◌≤◌, List, length, sym, subst, ap, add-one, arith, rules}
use Rattle.pattern.specs.Place.{patch_faces}
use Rattle.pattern.specs.Ring.{Face}
use Rattle.rings.specs.declared.contents.Side.TheVariants.{Ab}
use Rattle.rings.specs.Slices.{read}
use Rattle.rings.proofs.Patches.{long_patch, whole_patch}
use Rattle.faces.specs.Written.{Wrote}
use Rattle.faces.proofs.Patches.{patch_faces_lem}
use Rattle.faces.proofs.Writing.{as_long, joined, same}
use Rattle.mesh.specs.Calls.{all_faces}
use Rattle.mesh.specs.Numbering.{edge_of}
use Rattle.table.specs.Tables.{numbering, patch_at, triangles}
use Rattle.table.proofs.Growing.{small}
use Rattle.indices.proofs.Answering.{answered, counted_more, left, product_small, room_left, square_small, whole_passes}
use Rattle.indices.proofs.InTurn.{few_triangles, in_turn, table_in_turn}
use Rattle.indices.proofs.all_faces.get_all_indices.Goals as goal

pub overflow_mul-needed-2 : goal.overflow_mul-needed-2
overflow_mul-needed-2 c = omega (arith, square_small c.args.table.now.n (small c.args.table.now))

pub overflow_mul-needed-3 : goal.overflow_mul-needed-3
overflow_mul-needed-3 c =
    let t = c.args.table.now in
    let K : ℕ = 3 * ((t.n + 1) * (t.n + 1)) in
    let few : c.len-triangles.result ≤ 32 = let f = few_triangles t in search rules in
    let p : c.len-triangles.result * K ≤ 16224 = product_small c.len-triangles.result K few (omega (arith, square_small t.n (small t))) in
    omega arith

pub write_triangle-at-requires-clause-whole : goal.write_triangle-at-requires-clause-whole
write_triangle-at-requires-clause-whole c =
    let t = c.args.table.now in
    whole_patch t.n (edge_of (numbering t)) (patch_at t c.loop-i.i) c.view-view.result c.view-view.ensures

pub write_triangle-at-requires-clause-room : goal.write_triangle-at-requires-clause-room
write_triangle-at-requires-clause-room c =
    let t = c.args.table.now in
    let K : ℕ = 3 * ((t.n + 1) * (t.n + 1)) in
    let e : length (read c.view-view.result.ab) ≡ t.n = long_patch t.n (edge_of (numbering t)) (patch_at t c.loop-i.i) c.view-view.result c.view-view.ensures Ab in
    let s : (length (read c.view-view.result.ab) + 1) * (length (read c.view-view.result.ab) + 1) ≡ (t.n + 1) * (t.n + 1) = ap (λ n. (n + 1) * (n + 1)) e in
    let l : length c.loop-i.out ≡ length c.args.out.now = as_long c.loop-i.invariant.wrote in
    let fits : c.len-triangles.result * K ≤ length c.args.out.now = omega arith in
    let r : c.loop-i.at + K ≤ length c.args.out.now = room_left c.loop-i.i c.len-triangles.result K (length c.args.out.now) c.loop-i.at (omega arith) c.loop-i.invariant.counted fits in
    omega arith

pub loop-i-preserved : goal.loop-i-preserved
loop-i-preserved c =
    let t = c.args.table.now in
    let i = c.loop-i.i in
    let w = c.view-view.result in
    let K : ℕ = 3 * ((t.n + 1) * (t.n + 1)) in
    let G : ℕ → List (Face ℕ) = λ k. patch_faces t.n (edge_of (numbering t)) (patch_at t k) in
    let more = joined c.loop-i.invariant.wrote (same (patch_faces_lem t.n (edge_of (numbering t)) (patch_at t i) w c.view-view.ensures) c.write_triangle-at.ensures.wrote) in
    let e : length (read w.ab) ≡ t.n = long_patch t.n (edge_of (numbering t)) (patch_at t i) w c.view-view.ensures Ab in
    let s : (length (read w.ab) + 1) * (length (read w.ab) + 1) ≡ (t.n + 1) * (t.n + 1) = ap (λ n. (n + 1) * (n + 1)) e in
    let r : c.write_triangle-at.result ≡ c.loop-i.at + K = omega (arith, c.write_triangle-at.ensures.next) in
    record {
      wrote = subst (λ (k : ℕ). Wrote c.args.out.now 0 (in_turn G k) c.write_triangle-at.new.out c.write_triangle-at.result) (sym (add-one i)) more;
      counted = counted_more i K c.loop-i.at c.write_triangle-at.result c.loop-i.invariant.counted r;
    }

pub returns-clause-answers : goal.returns-clause-answers
returns-clause-answers c =
    let t = c.args.table.now in
    let old = c.args.out.now in
    let G : ℕ → List (Face ℕ) = λ k. patch_faces t.n (edge_of (numbering t)) (patch_at t k) in
    let T : c.len-triangles.result ≡ length (triangles t) = search rules in
    let e : c.loop-i.i ≡ length (triangles t) = omega arith in
    let w : Wrote old 0 (in_turn G (length (triangles t))) c.loop-i.out c.loop-i.at
    = subst (λ (k : ℕ). Wrote old 0 (in_turn G k) c.loop-i.out c.loop-i.at) e c.loop-i.invariant.wrote in
    let fits : length (triangles t) * (3 * ((t.n + 1) * (t.n + 1))) ≤ length old
    = subst (λ (k : ℕ). k * (3 * ((t.n + 1) * (t.n + 1))) ≤ length old) T (omega arith) in
    answered (triangles t) (numbering t) (all_faces (length old)) (whole_passes (triangles t) (numbering t) (length old) fits) old c.loop-i.out
    (in_turn G (length (triangles t))) c.loop-i.at w (table_in_turn t)

pub returns-clause-written : goal.returns-clause-written
returns-clause-written c =
    let t = c.args.table.now in
    let old = c.args.out.now in
    let G : ℕ → List (Face ℕ) = λ k. patch_faces t.n (edge_of (numbering t)) (patch_at t k) in
    let T : c.len-triangles.result ≡ length (triangles t) = search rules in
    let e : c.loop-i.i ≡ length (triangles t) = omega arith in
    let w : Wrote old 0 (in_turn G (length (triangles t))) c.loop-i.out c.loop-i.at
    = subst (λ (k : ℕ). Wrote old 0 (in_turn G k) c.loop-i.out c.loop-i.at) e c.loop-i.invariant.wrote in
    let fits : length (triangles t) * (3 * ((t.n + 1) * (t.n + 1))) ≤ length old
    = subst (λ (k : ℕ). k * (3 * ((t.n + 1) * (t.n + 1))) ≤ length old) T (omega arith) in
    left (triangles t) (numbering t) (all_faces (length old)) (whole_passes (triangles t) (numbering t) (length old) fits) old c.loop-i.out
    (in_turn G (length (triangles t))) c.loop-i.at w (table_in_turn t)
