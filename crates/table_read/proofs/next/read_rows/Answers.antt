use Rattle.std.proofs.lemmas.Result.{err_from_is_err_and}
use Rattle.table_read.proofs.Standing.{outside_takes}
use Rattle.table_read.proofs.next.read_rows.Goals as goal

pub returns-in_err-head-clause-rows : goal.returns-in_err-head-clause-rows
returns-in_err-head-clause-rows g c = λ honest block at.
    let p = err_from_is_err_and c.from_residual.result c.from_residual.ensures.1 in
    rw (p.1, p.2) (outside_takes c.in_err-head.field-0.0 _ _ (c.in_err-head.ensures.stops honest block at))
