use Rattle.std.proofs.Common.{ℕ, List, [], ◌∷◌, length, refl, ap}
use Rattle.mesh.specs.Strips.{offset_by}
use Rattle.pattern.specs.Ring.{contents_strips}
use Rattle.rings.specs.declared.ring_view.RingView.{RingView}
use Rattle.rings.specs.Held.{held_view}
use Rattle.rings.specs.Slices.{read}
use Rattle.lines.specs.ViewStrips.{own_strip}
use Rattle.lines.proofs.Drawing.{first_taken, rest_taken, none_drawn, same_drawn, draws_on}
use Rattle.lines.proofs.Inward.{Within, inner_strips, within, nothing_inside}
use Rattle.lines.proofs.triangle.write_triangle.Goals as goal
use Rattle.lines.proofs.triangle.write_triangle.Goals.{At-loop-ring, In-More}

-- the strip of a view's own ring, and those of what lies inside it
abbrev own : ℕ → RingView → List (List ℕ)
own o w = offset_by o (own_strip w ∷ [])

abbrev inner : ℕ → RingView → List (List ℕ)
inner o w = offset_by o (inner_strips w)

pub write_ring-requires-clause-taken : goal.write_ring-requires-clause-taken
write_ring-requires-clause-taken g c =
    let v = c.args.view.now in
    first_taken (g.K.Sink.meaning c.args.sink.now) (own c.args.offset v) (inner c.args.offset v) refl c.requires.taken

pub loop-ring-init : goal.loop-ring-init
loop-ring-init g c =
    let v = c.args.view.now in
    let m = g.K.Sink.meaning in
    record {
      writes = λ s r. r;
      taken = rest_taken (m c.args.sink.now) (m c.write_ring.new.sink) (own c.args.offset v) (inner c.args.offset v) refl c.requires.taken c.write_ring.ensures.writes;
      goes = (length (read v.ab), c.requires.whole.goes);
    }

pub write_ring-requires-in-More : goal.write_ring-requires-in-More
write_ring-requires-in-More g c =
    let o = c.args.offset in
    let l = c.loop-ring in
    let w = c.ring_view-ring.result in
    let h : Within l.ring w = within l.ring w l.invariant.goes.0 c.in-More.i c.in-More.is l.invariant.goes.1 c.ring_view-ring.ensures in
    record {
      whole = h.whole;
      taken = first_taken (g.K.Sink.meaning l.sink) (own o w) (inner o w) (ap (offset_by o) h.strips) l.invariant.taken;
    }

pub loop-ring-preserved : goal.loop-ring-preserved
loop-ring-preserved g c =
    let o = c.args.offset in
    let l = c.loop-ring in
    let w = c.ring_view-ring.result in
    let h : Within l.ring w = within l.ring w l.invariant.goes.0 c.in-More.i c.in-More.is l.invariant.goes.1 c.ring_view-ring.ensures in
    let e = ap (offset_by o) h.strips in
    let m = g.K.Sink.meaning in
    record {
      writes = λ s r. l.invariant.writes s (draws_on (own o w) (inner o w) e c.write_ring-in-More.ensures r);
      taken = rest_taken (m l.sink) (m c.write_ring-in-More.new.sink) (own o w) (inner o w) e l.invariant.taken c.write_ring-in-More.ensures.writes;
      goes = (length (read w.ab), h.whole.goes);
    }

pub returns-in-Six : goal.returns-in-Six
returns-in-Six g c =
    let v = c.args.view.now in
    let o = c.args.offset in
    let w = c.loop-ring.ring in
    let e = ap (λ t. offset_by o (contents_strips (held_view w.rings.now w.depth t))) c.in-Six.is in
    draws_on (own o v) (inner o v) refl c.write_ring.ensures (c.loop-ring.invariant.writes c.write_one.new.sink (same_drawn e c.write_one.ensures))

pub returns-in_default-inner : goal.returns-in_default-inner
returns-in_default-inner g c =
    let v = c.args.view.now in
    let o = c.args.offset in
    let l = c.loop-ring in
    let e = nothing_inside l.ring c.in_default.not-More c.in_default-inner.not-Six in
    draws_on (own o v) (inner o v) refl c.write_ring.ensures (l.invariant.writes l.sink (same_drawn (ap (offset_by o) e) (none_drawn l.sink)))
