use Rattle.std.proofs.Common.{◌≡◌, ◌-◌, T, [], ◌∷◌, length, drop}
use Rattle.mesh.specs.Sinks.{Sink, Writes}
use Rattle.mesh.specs.Strips.{offset_by}
use Rattle.strips.proofs.writing.write_strip.Given as goal

-- whatever writes the numbers left, and a break, has written all
abbrev pub invariant-loop-number : goal.invariant-loop-number
invariant-loop-number g l =
    let k = g.K.Sink in
    let left = drop l.number-index l.numbers in
    ((t : Sink) → Writes (offset_by l.offset (left ∷ [])) (k.meaning l.sink) t → Writes (offset_by l.offset (l.numbers ∷ [])) (k.meaning l.initial.sink) t) ×
    T ((k.meaning l.sink).takes (length l.numbers - l.number-index) 1) ×
    (k.held l.sink ≡ k.held l.initial.sink)
