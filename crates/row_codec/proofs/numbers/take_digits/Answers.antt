use Rattle.std.proofs.Common.{take, refl, sym, ◌∙◌, arith, append-nil}
use Rattle.std.proofs.lemmas.List.{take_all}
use Rattle.row_codec.proofs.Sizes.{split_here, stops_here}
use Rattle.row_codec.proofs.numbers.take_digits.Goals as goal

pub returns : goal.returns
returns c = record {
  digits = take c.loop-i.i c.args.text.now;
  parts = sym (append-nil (take c.loop-i.i c.args.text.now) ∙ take_all c.loop-i.i c.args.text.now (omega arith));
  are = c.loop-i.invariant.digits;
  value = c.loop-i.invariant.value;
  stops = refl;
}

pub returns-then-not-is_ascii_digit : goal.returns-then-not-is_ascii_digit
returns-then-not-is_ascii_digit c = record {
  digits = take c.loop-i.i c.args.text.now;
  parts = split_here c.args.text.now c.loop-i.i;
  are = c.loop-i.invariant.digits;
  value = c.loop-i.invariant.value;
  stops = stops_here c.args.text.now c.loop-i.i c.loop-i-test.true
      (sym c.is_ascii_digit.ensures.value ∙ c.if-not-is_ascii_digit.true);
}
