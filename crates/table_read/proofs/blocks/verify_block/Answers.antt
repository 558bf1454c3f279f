use Rattle.std.proofs.Common.{◌∙◌, ℕ, Err, Option, sym, subst, arith}
use Rattle.std.proofs.lemmas.Result.{err_from_is_err_and}
use Rattle.table_read.specs.Places.{Verifies}
use Rattle.table_read.proofs.Standing.{rows_same, outside_stops}
use Rattle.table_read.proofs.blocks.verify_block.Goals as goal

pub returns-in_err-head-clause-rows : goal.returns-in_err-head-clause-rows
returns-in_err-head-clause-rows g c = λ honest block at.
    let p = err_from_is_err_and c.from_residual.result c.from_residual.ensures.1 in
    rw (p.1, p.2) (outside_stops c.in_err-head.field-0.0 _ (c.in_err-head.ensures.stops honest block at))

pub returns-in_err-verify_rows-clause-rows : goal.returns-in_err-verify_rows-clause-rows
returns-in_err-verify_rows-clause-rows g c = λ honest block at.
    let same = rows_same c.args.schema.now c.count.result c.args.gate c.deref.result.now c.in_ok-head.head _ block c.count.ensures c.deref.ensures.value (c.in_ok-head.ensures.block honest block at) in
    let p = err_from_is_err_and c.from_residual-in_err-verify_rows.result c.from_residual-in_err-verify_rows.ensures.1 in
    rw (p.1, p.2) (subst (λ (wrong : Option ℕ). Verifies {X = ℕ} (Err c.in_err-verify_rows.field-0.0) wrong) same c.in_err-verify_rows.ensures.rows)

pub returns-clause-rows : goal.returns-clause-rows
returns-clause-rows g c = λ honest block at.
    let same = rows_same c.args.schema.now c.count.result c.args.gate c.deref.result.now c.in_ok-head.head _ block c.count.ensures c.deref.ensures.value (c.in_ok-head.ensures.block honest block at) in
    sym same ∙ c.in_ok-verify_rows.ensures.rows

pub returns-clause-next : goal.returns-clause-next
returns-clause-next g c = λ honest block at.
    omega (arith, c.len.ensures, (c.in_ok-head.ensures.block honest block at).lens)
