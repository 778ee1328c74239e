use Rattle.std.proofs.Common.{◌≡◌, ◌-◌}
use Rattle.point.specs.Points.{nought, point}
use Rattle.points.specs.Calculating.{at}
use Rattle.points.specs.Filling.{filled, filled_from}
use Rattle.filling.proofs.fill.fill.Given as goal

-- what is left to do gives the whole
abbrev pub invariant-loop-i : goal.invariant-loop-i
invariant-loop-i g l =
    filled_from g.G.Generator.generates (at (point nought nought nought) l.points) l.i (l.vertices - l.i) l.generator l.slice
    ≡ filled g.G.Generator.generates (at (point nought nought nought) l.points) l.vertices l.initial.generator l.initial.slice
