-- Calculating leaves the points that the Rust crate calculated, bit by bit.
use Rattle.std.proofs.Common.{T, [], ◌∷◌}
use lib.Ieee.{add, sub, mul, div, of_int, of_bits, to_bits}
use Rattle.mesh.specs.Recorded.{same_list}
use Rattle.points.specs.Recorded.{agrees, AllAgree, shares_from, row_0, row_1, row_2, row_3}

is_0 : T (agrees row_0)
unfolding add sub mul div of_int of_bits to_bits
is_0 = tt

is_1 : T (agrees row_1)
unfolding add sub mul div of_int of_bits to_bits
is_1 = tt

is_2 : T (agrees row_2)
unfolding add sub mul div of_int of_bits to_bits
is_2 = tt

is_3 : T (agrees row_3)
unfolding add sub mul div of_int of_bits to_bits
is_3 = tt

share_1 : T (same_list (shares_from 0 1 1) (1056964608 ∷ []))
unfolding div of_int to_bits
share_1 = tt

share_2 : T (same_list (shares_from 0 2 2) (1051372203 ∷ 1059760811 ∷ []))
unfolding div of_int to_bits
share_2 = tt

share_3 : T (same_list (shares_from 0 3 3) (1048576000 ∷ 1056964608 ∷ 1061158912 ∷ []))
unfolding div of_int to_bits
share_3 = tt

share_4 : T (same_list (shares_from 0 4 4) (1045220557 ∷ 1053609165 ∷ 1058642330 ∷ 1061997773 ∷ []))
unfolding div of_int to_bits
share_4 = tt

share_5 : T (same_list (shares_from 0 5 5) (1042983595 ∷ 1051372203 ∷ 1056964608 ∷ 1059760811 ∷ 1062557013 ∷ []))
unfolding div of_int to_bits
share_5 = tt

share_6 : T (same_list (shares_from 0 6 6) (1041385765 ∷ 1049774373 ∷ 1054567863 ∷ 1058162981 ∷ 1060559726 ∷ 1062956471 ∷ []))
unfolding div of_int to_bits
share_6 = tt

share_7 : T (same_list (shares_from 0 7 7) (1040187392 ∷ 1048576000 ∷ 1052770304 ∷ 1056964608 ∷ 1059061760 ∷ 1061158912 ∷ 1063256064 ∷ []))
unfolding div of_int to_bits
share_7 = tt

share_8 : T (same_list (shares_from 0 8 8) (1038323257 ∷ 1046711865 ∷ 1051372203 ∷ 1055100473 ∷ 1057896676 ∷ 1059760811 ∷ 1061624946 ∷ 1063489081 ∷ []))
unfolding div of_int to_bits
share_8 = tt

share_9 : T (same_list (shares_from 0 9 9) (1036831949 ∷ 1045220557 ∷ 1050253722 ∷ 1053609165 ∷ 1056964608 ∷ 1058642330 ∷ 1060320051 ∷ 1061997773 ∷ 1063675494 ∷ []))
unfolding div of_int to_bits
share_9 = tt

share_10 : T (same_list (shares_from 0 10 10) (1035611788 ∷ 1044000396 ∷ 1049338601 ∷ 1052389004 ∷ 1055439407 ∷ 1057727209 ∷ 1059252410 ∷ 1060777612 ∷ 1062302813 ∷ 1063828015 ∷ []))
unfolding div of_int to_bits
share_10 = tt

share_11 : T (same_list (shares_from 0 11 11) (1034594987 ∷ 1042983595 ∷ 1048576000 ∷ 1051372203 ∷ 1054168405 ∷ 1056964608 ∷ 1058362709 ∷ 1059760811 ∷ 1061158912 ∷ 1062557013 ∷ 1063955115 ∷ []))
unfolding div of_int to_bits
share_11 = tt

share_12 : T (same_list (shares_from 0 12 12) (1033734617 ∷ 1042123225 ∷ 1047285445 ∷ 1050511833 ∷ 1053092943 ∷ 1055674053 ∷ 1057609886 ∷ 1058900441 ∷ 1060190996 ∷ 1061481551 ∷ 1062772106 ∷ 1064062661 ∷ []))
unfolding div of_int to_bits
share_12 = tt

pub agree : AllAgree
agree = record { at_0 = is_0; at_1 = is_1; at_2 = is_2; at_3 = is_3; shares_1 = share_1; shares_2 = share_2; shares_3 = share_3; shares_4 = share_4; shares_5 = share_5; shares_6 = share_6; shares_7 = share_7; shares_8 = share_8; shares_9 = share_9; shares_10 = share_10; shares_11 = share_11; shares_12 = share_12 }
