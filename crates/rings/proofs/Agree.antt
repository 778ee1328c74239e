-- Rings that agree up to m: all that is read of a ring whose edges have m vertices each.
use Rattle.std.proofs.Common.{◌≡◌, ℕ, ◌<◌, List, ◌++◌, ap₂}
use Rattle.pattern.specs.Ring.{Ring, turn, turns}
use Rattle.rings.specs.declared.contents.Side.{Side}
use Rattle.rings.specs.declared.contents.Side.TheVariants.{Ab, Bc, Ca}
use Rattle.rings.specs.Views.{corner_at, edge_at, inner_at}

-- the same corners, the same first m vertices of each edge, and the same positions of the contents
pub record Agree (m : ℕ) (r s : Ring ℕ) : Type 0 where
  pub corners : (k : Side) → corner_at k r ≡ corner_at k s
  pub edges : (k : Side) (i : ℕ) → i < m → edge_at k r i ≡ edge_at k s i
  pub inners : (k : Side) (i : ℕ) → inner_at k r i ≡ inner_at k s i

pub turn_agree : (m : ℕ) (r s : Ring ℕ) → Agree m r s → Agree m (turn r) (turn s)
turn_agree m r s g = record { corners = corners; edges = edges; inners = inners }
  where
    corners : (k : Side) → corner_at k (turn r) ≡ corner_at k (turn s)
    corners Ab = g.corners Bc
    corners Bc = g.corners Ca
    corners Ca = g.corners Ab

    edges : (k : Side) (i : ℕ) → i < m → edge_at k (turn r) i ≡ edge_at k (turn s) i
    edges Ab = g.edges Bc
    edges Bc = g.edges Ca
    edges Ca = g.edges Ab

    inners : (k : Side) (i : ℕ) → inner_at k (turn r) i ≡ inner_at k (turn s) i
    inners Ab = g.inners Bc
    inners Bc = g.inners Ca
    inners Ca = g.inners Ab

-- a formula that agreeing rings read alike, and its turns
pub turns_agree :
    {Y : Type 0} (m : ℕ) (f : Ring ℕ → List Y) → ((r s : Ring ℕ) → Agree m r s → f r ≡ f s)
    → (r s : Ring ℕ) → Agree m r s → turns f r ≡ turns f s
turns_agree m f h r s g =
    let g' : Agree m (turn r) (turn s) = turn_agree m r s g in
    ap₂ (λ x y. x ++ y) (h r s g)
    (ap₂ (λ x y. x ++ y) (h (turn r) (turn s) g') (h (turn (turn r)) (turn (turn s)) (turn_agree m (turn r) (turn s) g')))
