use Rattle.std.proofs.Common.{refl, sym}
use Rattle.std.proofs.lemmas.Result.{err_from_is_err_and}
use Rattle.row_codec.proofs.Readings.{are_bytes, row_skips, no_size}
use Rattle.row_codec.proofs.decode.skip_row.Goals as goal

pub returns-in_err-rest-clause-size : goal.returns-in_err-rest-clause-size
returns-in_err-rest-clause-size c =
    let p = err_from_is_err_and c.from_residual.result c.from_residual.ensures.1 in
    rw (p.1, p.2, ← c.columns.ensures.same) (sym (no_size _ _ _ _ refl c.in_err-rest.ensures))

pub overflow_sub-result : goal.overflow_sub-result
overflow_sub-result c = (row_skips _ _ _ (are_bytes _ c.type_inv.bytes) c.in_ok-rest.ensures).leaves.shorter

pub returns-clause-size : goal.returns-clause-size
returns-clause-size c =
    rw (← c.columns.ensures.same) (sym (row_skips _ _ _ (are_bytes _ c.type_inv.bytes) c.in_ok-rest.ensures).size)

pub returns-clause-row : goal.returns-clause-row
returns-clause-row c =
    let skips = row_skips _ _ _ (are_bytes _ c.type_inv.bytes) c.in_ok-rest.ensures in
    rw (← c.columns.ensures.same) (skips.row, skips.leaves.begins)
