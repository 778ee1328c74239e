-- What a reading of an edge reads.
use Rattle.std.specs.Prelude.{◌≡◌, ℕ, Bool, true, false, List, reverse}
use Rattle.rings.specs.declared.slice.Slice.{Slice}
use Rattle.rings.specs.declared.slice.Slice.TheVariants.{Forward, Backward}

abbrev pub read : Slice → List ℕ
read (Forward s) = s.now
read (Backward s) = reverse s.now

-- it reads forward
abbrev pub Forth : Slice → Type 0
Forth (Forward s) = Unit {0}
Forth (Backward s) = ⊥

-- it reads the list l, forward or not
abbrev pub Reads : List ℕ → Bool → Slice → Type 0
Reads l b (Forward s) = (b ≡ true) × (s.now ≡ l)
Reads l b (Backward s) = (b ≡ false) × (s.now ≡ l)
