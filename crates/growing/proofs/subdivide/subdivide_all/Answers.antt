use Rattle.std.proofs.Common.{◌≡◌, ℕ, ◌+◌, sym, ap, ◌∙◌, subst, arith}
use Rattle.mesh.specs.Numbering.{grown, steps_for}
use Rattle.growing.specs.Edges.{edge_in, OfLength}
use Rattle.growing.specs.Standing.{numbering}
use Rattle.growing.specs.SteppingAll.{ReadyAll, MovesAll}
use Rattle.growing.proofs.FromBare.{made_from_bare}
use Rattle.growing.proofs.Subdividing.{from, ready_from, placed_from, subdivided}
use Rattle.growing.proofs.subdivide.subdivide_all.Goals as goal

pub step_all-requires-clause-ready : goal.step_all-requires-clause-ready
step_all-requires-clause-ready c = (
  from c.args.n,
  subst (λ (k : ℕ). ReadyAll c.args.rings.now (from c.args.n) k c.args.contents.now) (sym c.steps_for.ensures)
      (ready_from c.args.rings.now c.args.n c.args.amount c.args.contents.now c.requires.count c.requires.stands.contents),
)

pub returns : goal.returns
returns c =
    let n = c.args.n in
    let a = c.args.amount in
    let es = c.args.edges.now in
    let ts = c.args.contents.now in
    let rs = c.args.rings.now in
    let e = c.lengthen_all-next in
    let s = c.step_all in
    let v : MovesAll rs (from n) (steps_for n a) ts e.result s.new.rings s.new.contents s.result
    = subst (λ (k : ℕ). (m : ℕ) → ReadyAll rs m k ts → MovesAll rs m k ts e.result s.new.rings s.new.contents s.result) c.steps_for.ensures
    s.ensures (from n) (ready_from rs n a ts c.requires.count c.requires.stands.contents) in
    let numbered : numbering (n + a) s.result e.new.edges s.new.contents s.new.rings ≡ grown a (numbering n c.args.total es ts rs)
    = subdivided n a c.args.total e.result s.result (from n) es e.new.edges ts s.new.contents rs s.new.rings e.ensures.vertices
    e.ensures.next v in
    record {
      numbered = numbered;
      made = λ z b. numbered ∙ ap (λ x. grown a (numbering x c.args.total es ts rs)) z ∙ made_from_bare es ts rs b c.args.total a;
      stands =
          record {
            edges = λ i p.
                subst (λ (m : ℕ). OfLength (m + a) (edge_in e.new.edges i)) (c.requires.stands.edges i (omega arith)) (e.ensures.long i p);
            contents = placed_from s.new.rings n a s.new.contents v.placed;
          };
    }
