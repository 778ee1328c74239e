use Rattle.std.proofs.Common.{refl}
use lib.Ieee.{of_bits, of_fields, odd, neg}
use Rattle.point.proofs.literals_stand.Goals as goal

pub returns : goal.returns
unfolding of_bits of_fields odd neg
returns c =
    record {
      nought_is = refl;
      half_is = refl;
      half_root_is = refl;
      one_is = refl;
      minus_half_is = refl;
      minus_half_root_is = refl;
      minus_one_is = refl;
    }
