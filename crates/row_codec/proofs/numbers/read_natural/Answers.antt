use Rattle.std.proofs.Common.{sym, arith}
use Rattle.std.proofs.lemmas.Bool.Decides.{nat_tests}
use Rattle.row_codec.proofs.Sizes.{natural_empty, natural_other, natural_is}
use Rattle.row_codec.proofs.numbers.read_natural.Goals as goal
use Rattle.row_codec.proofs.numbers.read_natural.Goals.{then-is_empty-via-then-is_empty, then-is_empty-via-else-is_empty+then-not-is_empty}

pub returns-then-is_empty : goal.returns-then-is_empty
returns-then-is_empty c =
    elim c.then-is_empty.branch [
      | then-is_empty-via-then-is_empty w ↦ sym (natural_empty c.args.text.now (grind (arith, nat_tests)))
      | then-is_empty-via-else-is_empty+then-not-is_empty w ↦ sym
          (natural_other _ _ _ c.take_digits-size.ensures (grind (arith, nat_tests)))
    ]

pub returns : goal.returns
returns c = sym (natural_is _ _ _ c.take_digits-size.ensures (grind (arith, nat_tests)) (grind (arith, nat_tests)))
