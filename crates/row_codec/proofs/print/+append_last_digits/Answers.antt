use Rattle.std.proofs.Common.{arith}
use Rattle.std.proofs.lemmas.Grind.{common_steps}
use Rattle.row_codec.proofs.Printed.{last_digits_more}
use Rattle.row_codec.proofs.print.+append_last_digits.Goals as goal

pub returns-clause-ok : goal.returns-clause-ok
returns-clause-ok t c =
    let more = last_digits_more c.args.count c.args.number (omega arith) in
    grind (arith, common_steps, more)
