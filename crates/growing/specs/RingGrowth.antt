-- A ring as contents grow.
use Rattle.std.specs.Prelude.{◌≡◌, ℕ, suc, [], ◌∷◌, ◌++◌}
use Rattle.rings.specs.declared.contents.Ring.{Ring}
use Rattle.rings.specs.declared.contents.TriangleContents.TheVariants as kind
use Rattle.rings.specs.Sides.{on_sides}

-- r is the ring g with one vertex more on each side, the three numbered from h on
pub record LongerRing (g : Ring) (h : ℕ) (r : Ring) : Type 0 where
  pub a_is : r.a ≡ g.a
  pub b_is : r.b ≡ g.b
  pub c_is : r.c ≡ g.c
  pub inner_is : r.inner ≡ g.inner
  pub sides_are : on_sides r ≡ on_sides g ++ (h ∷ suc h ∷ suc (suc h) ∷ [])

-- r is the ring that six vertices become, where the four new ones are numbered from h on
pub record NewRing (a b c ab bc ca h : ℕ) (r : Ring) : Type 0 where
  pub a_is : r.a ≡ a
  pub b_is : r.b ≡ b
  pub c_is : r.c ≡ c
  pub inner_is : r.inner ≡ kind.One (suc (suc (suc h)))
  pub sides_are : on_sides r ≡ ab ∷ bc ∷ ca ∷ h ∷ suc h ∷ suc (suc h) ∷ []
