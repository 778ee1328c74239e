use Rattle.std.proofs.Common.{◌≡◌, ℕ, ◌*◌, ◌≤◌, length, vec_items, sym, subst, arith, rules}
use Rattle.table.proofs.Growing.{few_on_edges}
use Rattle.table.proofs.table.Table.shared_vertices.Goals as goal

pub overflow_mul-result : goal.overflow_mul-result
overflow_mul-result c =
    let t = c.args.self.now in
    let e : c.len.result ≡ length (vec_items t.edges) = search rules in
    let few : t.n * c.len.result ≤ 1152 = subst (λ (k : ℕ). t.n * k ≤ 1152) (sym e) (few_on_edges t) in
    omega arith

pub overflow_add-result : goal.overflow_add-result
overflow_add-result c =
    let t = c.args.self.now in
    let e : c.len.result ≡ length (vec_items t.edges) = search rules in
    let few : t.n * c.len.result ≤ 1152 = subst (λ (k : ℕ). t.n * k ≤ 1152) (sym e) (few_on_edges t) in
    omega arith
