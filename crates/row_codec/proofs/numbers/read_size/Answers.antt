use Rattle.std.proofs.Common.{◌≡◌, Ok, ap, length, sym, ◌∙◌, arith}
use Rattle.std.proofs.lemmas.Bool.Decides.{nat_tests}
use Rattle.row_codec.proofs.Sizes.{units_empty, units_whole, units_other, units_more, units_alone, units_too_many, units_are, pointed}
use Rattle.row_codec.proofs.numbers.read_size.Goals as goal
use Rattle.row_codec.proofs.numbers.read_size.Goals.{then-first-ne46-via-then-first-ne46, then-first-ne46-via-else-first-ne46+then-text-eq1, then-first-ne46-via-else-first-ne46+else-text-eq1+then-not-is_empty}

pub returns-then-is_empty : goal.returns-then-is_empty
returns-then-is_empty c = sym (units_empty c.args.places c.args.text.now (grind (arith, nat_tests)))

pub returns-in_default : goal.returns-in_default
returns-in_default c =
    ap (λ n. Ok n) c.saturating_mul.ensures
    ∙ sym (units_whole c.args.places c.args.text.now _ _ c.power_of_ten.result c.take_digits-whole.ensures (grind (arith, nat_tests)) c.in_default.ensures.cases c.power_of_ten.ensures.value)

pub returns-then-first-ne46 : goal.returns-then-first-ne46
returns-then-first-ne46 c =
    elim c.then-first-ne46.branch [
      | then-first-ne46-via-then-first-ne46 w ↦
          sym (units_other c.args.places c.args.text.now _ _ c.in-Some.first.now c.in-Some.fraction.now c.take_digits-whole.ensures c.in-Some.ensures.cases.0 (grind (arith, nat_tests)))
      | then-first-ne46-via-else-first-ne46+then-text-eq1 w ↦
          let p =
          pointed c.args.text.now _ c.in-Some.fraction.now _ c.in-Some.first.now c.take_digits-whole.ensures c.in-Some.ensures.cases.0 (omega arith) in
          sym (units_alone c.args.places c.args.text.now c.in-Some.fraction.now c.take_digits-whole.result.0 p (omega arith))
      | then-first-ne46-via-else-first-ne46+else-text-eq1+then-not-is_empty w ↦
          let p =
          pointed c.args.text.now _ c.in-Some.fraction.now _ c.in-Some.first.now c.take_digits-whole.ensures c.in-Some.ensures.cases.0 (omega arith) in
          sym (units_more c.args.places c.args.text.now c.in-Some.fraction.now _ _ _ p c.take_digits-size.ensures (grind (arith, nat_tests)))
    ]

pub returns-then-fraction-from : goal.returns-then-fraction-from
returns-then-fraction-from c =
    let p =
    pointed c.args.text.now _ c.in-Some.fraction.now _ c.in-Some.first.now c.take_digits-whole.ensures c.in-Some.ensures.cases.0 c.if-first-ne46.false in
    let over : length c.take_digits-size.result.1.now ≡ 0 = grind (arith, nat_tests) in
    sym (units_too_many c.args.places c.args.text.now c.in-Some.fraction.now _ _ _ p c.take_digits-size.ensures (omega arith) over (omega arith))

pub returns : goal.returns
returns c =
    let p =
    pointed c.args.text.now _ c.in-Some.fraction.now _ c.in-Some.first.now c.take_digits-whole.ensures c.in-Some.ensures.cases.0 c.if-first-ne46.false in
    let over : length c.take_digits-size.result.1.now ≡ 0 = grind (arith, nat_tests) in
    ap (λ n. Ok n) c.saturating_mul-2.ensures
    ∙ sym (units_are c.args.places c.args.text.now c.in-Some.fraction.now _ _ _ c.power_of_ten-2.result p c.take_digits-size.ensures (omega arith) over (omega arith) c.power_of_ten-2.ensures.value)
