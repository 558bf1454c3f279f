use Rattle.std.proofs.Common.{sym}
use Rattle.std.proofs.lemmas.Result.{err_from_is_err_and}
use Rattle.row_codec.proofs.ReadingLoop.{skips_on, skip_ends, skip_done}
use Rattle.row_codec.proofs.decode.skip_values.Goals as goal

pub loop-column-preserved : goal.loop-column-preserved
loop-column-preserved c =
    skips_on _ _ _ _ _ _ _ c.loop-column-test.true c.column-item.is
    (sym c.in_ok-after.ensures.value) c.loop-column.invariant

pub returns : goal.returns
returns c = sym (skip_done _ _ _ _ c.loop-column-test.false c.loop-column.invariant)

pub returns-in_err-after : goal.returns-in_err-after
returns-in_err-after c =
    let p = err_from_is_err_and c.from_residual.result c.from_residual.ensures.1 in
    rw (p.1, p.2) (sym (skip_ends _ _ _ _ _ _ c.loop-column-test.true c.column-item.is (sym c.in_err-after.ensures.value) c.loop-column.invariant))
