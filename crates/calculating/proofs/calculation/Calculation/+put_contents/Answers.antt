use Rattle.std.proofs.Common.{◌≡◌, ℕ, length, get_or, sym, ap, ◌∙◌, subst, rules}
use Rattle.points.specs.Calculating.{contents_writes}
use Rattle.rings.specs.declared.contents.TriangleContents.{TriangleContents}
use Rattle.rings.specs.declared.contents.TriangleContents.TheVariants as kind
use Rattle.rings.specs.Held.{Fits, held_view}
use Rattle.rings.specs.Slices.{read}
use Rattle.calculating.specs.Rules.{wrote}
use Rattle.calculating.specs.ViewWrites.{Below}
use Rattle.calculating.proofs.InnerRing.{more_writes, ring_ready, deep}
use Rattle.calculating.proofs.Runs.{then, alike}
use Rattle.calculating.proofs.calculation.Calculation.+put_contents.Goals as goal

pub put_edges-requires : goal.put_edges-requires
put_edges-requires g t c =
    let v = c.args.view.now in
    let b = c.requires.below in
    let w = c.ring_view-inner.result in
    let n = length c.args.self.now.points.now in
    let r = ring_ready v.rings.now v.depth (length (read v.ab)) c.in-More.i n v.inner w c.in-More.is c.requires.whole.goes c.ring_view-inner.ensures b.some b.within in
    record { whole = r.0; below = subst (λ (k : ℕ). Below k w) (sym c.put_tips-in-More.ensures.as_many) r.1 }

pub put_contents-requires : goal.put_contents-requires
put_contents-requires g t c κs within =
    let v = c.args.view.now in
    let b = c.requires.below in
    let w = c.ring_view-inner.result in
    let n = length c.args.self.now.points.now in
    let r = ring_ready v.rings.now v.depth (length (read v.ab)) c.in-More.i n v.inner w c.in-More.is c.requires.whole.goes c.ring_view-inner.ensures b.some b.within in
    let e : n ≡ length c.put_edges.new.self.points.now = sym (c.put_edges.ensures.as_many ∙ c.put_tips-in-More.ensures.as_many) in
    (search rules, (within, (r.0, subst (λ (k : ℕ). Below k w) e r.1)))

pub returns-in-More : goal.returns-in-More
returns-in-More g t c =
    let v = c.args.view.now in
    let rs = v.rings.now in
    let d = v.depth in
    let i = c.in-More.i in
    let m = length (read v.ab) in
    let base = c.args.self.now.base.now in
    let f = c.args.self.now.points.now in
    let between = g.S.BaseShape.between base in
    let half = g.S.BaseShape.half base in
    let ab : ℕ → ℕ = λ j. get_or (read v.ab) j 0 in
    let bc : ℕ → ℕ = λ j. get_or (read v.bc) j 0 in
    let ca : ℕ → ℕ = λ j. get_or (read v.ca) j 0 in
    let h : Fits rs d m (kind.More i) = subst (λ (x : TriangleContents). Fits rs d m x) c.in-More.is c.requires.whole.goes in
    alike (more_writes between half rs d i m ab bc ca c.ring_view-inner.result (deep rs d m i h) c.ring_view-inner.ensures h f
    ∙ sym (ap (λ x. wrote between half (contents_writes m ab bc ca (held_view rs d x)) f) c.in-More.is))
    (then c.put_tips-in-More.ensures (then c.put_edges.ensures c.put_contents.ensures))
