use Rattle.std.proofs.Common.{◌≡◌, take, true}
use Rattle.std.specs.List.{list_all}
use Rattle.std.specs.Char.{is_ascii_digit}
use Rattle.row_codec.specs.Numbers.{capped, digits_after}
use Rattle.row_codec.proofs.numbers.take_digits.Given as goal

abbrev pub invariant-loop-i : goal.invariant-loop-i
invariant-loop-i l = record {
  digits : list_all is_ascii_digit (take l.i l.text) ≡ true;
  value : l.value ≡ capped (digits_after l.fn.before (take l.i l.text));
}
