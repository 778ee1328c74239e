-- Points of three f32 components: sum, product and interpolation, each operation rounded once.
use Rattle.std.specs.Prelude.{◌≡◌, false, pos, negsuc, from_bits, Float}
use Rattle.std.specs.Float.{fin, binary32}
use Rattle.std.specs.Float.Ieee.{add, sub, mul, neg}
use Rattle.point.specs.declared.Vec3A.{Vec3A}

abbrev pub point : Float → Float → Float → Vec3A
point x y z = record { x = x; y = y; z = z }

abbrev pub plus : Vec3A → Vec3A → Vec3A
plus a b = point (add binary32 a.x b.x) (add binary32 a.y b.y) (add binary32 a.z b.z)

abbrev pub times : Vec3A → Vec3A → Vec3A
times a b = point (mul binary32 a.x b.x) (mul binary32 a.y b.y) (mul binary32 a.z b.z)

-- each component times k
abbrev pub scaled : Float → Vec3A → Vec3A
scaled k a = point (mul binary32 a.x k) (mul binary32 a.y k) (mul binary32 a.z k)

-- f32 numbers by their bits; `Literals` says what they are
abbrev pub nought : Float
nought = from_bits binary32 0

abbrev pub half : Float
half = from_bits binary32 0x3f000000

abbrev pub minus_half : Float
minus_half = from_bits binary32 0xbf000000

-- half the root of three
abbrev pub half_root : Float
half_root = from_bits binary32 0x3f5db3d7

abbrev pub minus_half_root : Float
minus_half_root = from_bits binary32 0xbf5db3d7

abbrev pub one : Float
one = from_bits binary32 0x3f800000

abbrev pub minus_one : Float
minus_one = from_bits binary32 0xbf800000

-- fin s m (negsuc k) is m / 2 ^ (k + 1), negative where s is true
pub record Literals : Type 0 where
  pub nought_is : nought ≡ fin false 0 (pos 0)
  pub half_is : half ≡ fin false 1 (negsuc 0)
  pub half_root_is : half_root ≡ fin false 14529495 (negsuc 23)
  pub one_is : one ≡ fin false 1 (pos 0)
  pub minus_half_is : minus_half ≡ neg half
  pub minus_half_root_is : minus_half_root ≡ neg half_root
  pub minus_one_is : minus_one ≡ neg one

-- (1 - p) × a + p × b
abbrev pub lerped : Vec3A → Vec3A → Float → Vec3A
lerped a b p = plus (scaled (sub binary32 one p) a) (scaled p b)

-- (a + b) × 0.5
abbrev pub halved : Vec3A → Vec3A → Vec3A
halved a b = scaled half (plus a b)
