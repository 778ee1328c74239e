-- A lent table whose first places are filled.
use Rattle.std.specs.Prelude.{◌≡◌, ◌+◌, slice_set}
use Rattle.strips.specs.declared.filled.Filled.{Filled}

-- the next place holds the value, every other what it held, and the table is the same one
pub record Fills {T : Type 0} (old : Filled T) (value : T) (new : Filled T) : Type 0 where
  pub placed : new.places.now ≡ slice_set old.places.now old.used value
  pub counted : new.used ≡ old.used + 1
  pub same : new.places.ghost_name ≡ old.places.ghost_name
