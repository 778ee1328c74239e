-- Contents that go with edges of m vertices have m - 1 positions on a side.
use Rattle.std.proofs.Common.{ℕ, zero, suc, ◌-◌, ◌≤◌, List, arith}
use Rattle.pattern.specs.Ring.{positions}
use Rattle.rings.specs.declared.contents.Ring.{Ring}
use Rattle.rings.specs.declared.contents.TriangleContents.{TriangleContents}
use Rattle.rings.specs.declared.contents.TriangleContents.TheVariants as kind
use Rattle.rings.specs.Held.{held_view, Fits, Names}

pub named : (rs : List Ring) (d m : ℕ) (t : TriangleContents) → Fits rs d m t → Names rs d t
named rs d m kind.None h = tt
named rs d m (kind.One x) h = tt
named rs d m (kind.Three a b c) h = tt
named rs d m (kind.Six a b c ab bc ca) h = tt
named rs zero m (kind.More i) h = absurd h
named rs (suc d) m (kind.More i) h = (omega arith, h.0)

pub opened : (rs : List Ring) (d m n : ℕ) (t : TriangleContents) → Fits rs d m t → n ≤ m - 1 → n ≤ positions (held_view rs d t)
opened rs d m n kind.None h q = omega arith
opened rs d m n (kind.One x) h q = omega arith
opened rs d m n (kind.Three a b c) h q = omega arith
opened rs d m n (kind.Six a b c ab bc ca) h q = omega arith
opened rs zero m n (kind.More i) h q = absurd h
opened rs (suc d) m n (kind.More i) h q = let e = h.1 in omega arith
