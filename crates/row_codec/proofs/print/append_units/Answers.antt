use Rattle.std.proofs.Common.{arith}
use Rattle.std.proofs.lemmas.Grind.{common_steps}
use Rattle.row_codec.proofs.RowLemmas.{begins_on}
use Rattle.row_codec.proofs.print.append_units.Goals as goal
use Rattle.row_codec.proofs.print.append_units.Goals.{then-units-lt0+in_ok-push, else-units-lt0}

pub returns-clause-err : goal.returns-clause-err
returns-clause-err c =
    elim c.if-units-lt0.branch [
      | then-units-lt0+in_ok-push w ↦ grind (arith, common_steps, begins_on)
      | else-units-lt0 w ↦ grind (arith, common_steps, begins_on)
    ]
