use Rattle.std.proofs.Common.{refl}
use lib.Ieee.{round, add, sub, mul, div, lt, le, eq, of_int, of_bits, to_bits, to_unsigned}
use Rattle.std.specs.Float.{round_with}
use Rattle.worked.specs.Worked.{Worked}
use Rattle.worked.proofs.worked_values.Goals as goal

worked : Worked
unfolding round add sub mul div lt le eq of_int of_bits to_bits to_unsigned round_with
worked = record {
  black_first = refl;
  white_last = refl;
  row_last = refl;
  late_first = refl;
  late_middle = refl;
  late_last = refl;
  blue_word = refl;
  shared_first = refl;
  shared_last = refl;
  no_stops = λ k. refl;
  half_alpha = refl;
  nan_bits = refl;
}

pub returns : goal.returns
returns c = worked
