-- The writes of contents depend on the edges around them at their own positions only.
use Rattle.std.proofs.Common.{◌≡◌, ℕ, zero, suc, ◌+◌, ◌-◌, ◌<◌, List, refl, arith}
use Rattle.point.specs.declared.Vec3A.{Vec3A}
use Rattle.points.specs.Calculating.{contents_writes}
use Rattle.rings.specs.declared.contents.Ring.{Ring}
use Rattle.rings.specs.declared.contents.TriangleContents.{TriangleContents}
use Rattle.rings.specs.declared.contents.TriangleContents.TheVariants as kind
use Rattle.rings.specs.Held.{held_view, Fits, ring_at}
use Rattle.rings.specs.Sides.{side_len}

module _ (ab bc ca pq qr rp : ℕ → ℕ) where
  pub contents_agree :
      (rs : List Ring) (d m : ℕ) (t : TriangleContents) → Fits rs d m t → ((i : ℕ) → i < m → ab i ≡ pq i) → ((i : ℕ) → i < m → bc i ≡ qr i)
      → ((i : ℕ) → i < m → ca i ≡ rp i)
      → contents_writes {Point = Vec3A} m ab bc ca (held_view rs d t) ≡ contents_writes {Point = Vec3A} m pq qr rp (held_view rs d t)
  contents_agree rs d m kind.None h f g k = refl
  contents_agree rs d m (kind.One x) h f g k =
      let u = f 0 (omega arith) in
      let v = g 1 (omega arith) in
      cc
  contents_agree rs d m (kind.Three a b c) h f g k =
      let u = f 1 (omega arith) in
      let v = g 1 (omega arith) in
      let w = k 1 (omega arith) in
      cc
  contents_agree rs d m (kind.Six a b c x y z) h f g k =
      let u = f 1 (omega arith) in
      let v = g 1 (omega arith) in
      let w = k 1 (omega arith) in
      let u' = f (m - 2) (omega arith) in
      let v' = g (m - 2) (omega arith) in
      let w' = k (m - 2) (omega arith) in
      cc
  contents_agree rs zero m (kind.More i) h f g k = absurd h
  contents_agree rs (suc d) m (kind.More i) h f g k =
      let e : m ≡ 3 + side_len (ring_at rs i) = h.1 in
      let u = f 1 (omega arith) in
      let v = g 1 (omega arith) in
      let w = k 1 (omega arith) in
      let u' = f (m - 2) (omega arith) in
      let v' = g (m - 2) (omega arith) in
      let w' = k (m - 2) (omega arith) in
      cc
