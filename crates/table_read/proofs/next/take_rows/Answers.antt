use Rattle.std.proofs.Common.{◌≡◌, ◌∙◌, ◌-◌, ◌+◌, ◌<◌, length, sym, arith}
use Rattle.std.proofs.lemmas.Grind.{common_steps}
use Rattle.std.proofs.lemmas.Result.{err_from_is_err_and}
use Rattle.table_read.specs.Rows.{rows_at}
use Rattle.table_read.proofs.Taking.{behind_rows, taken_on, taken_not, all_taken, some_over}
use Rattle.table_read.proofs.next.take_rows.Goals as goal

pub returns-in_err-len-clause-rows : goal.returns-in_err-len-clause-rows
returns-in_err-len-clause-rows c =
    let p = err_from_is_err_and c.from_residual.result c.from_residual.ensures.1 in
    rw (p.1, p.2) (taken_not c.loop.into.columns (c.args.count - c.loop.counter) (c.args.count - (c.loop.counter + 1)) c.loop.at c.loop.rest.now c.loop.into.rows c.take_row.new.into.rows _ (omega arith) c.loop.invariant.same
    c.in_err-len.field-0.0 c.take_row.new.into.rows c.in_err-len.ensures.row)

pub loop-preserved : goal.loop-preserved
loop-preserved c =
    let took = c.in_ok-len.ensures.row in
    let back = c.split_at.ensures.back in
    let more = c.args.count - (c.loop.counter + 1) in
    record {
      size = omega (arith, c.loop.invariant.size, c.split_at.ensures.back_len);
      columns = c.in_ok-len.ensures.columns ∙ c.loop.invariant.columns;
      same = taken_on c.loop.into.columns (c.args.count - c.loop.counter) more c.loop.at c.loop.rest.now c.loop.into.rows c.take_row.new.into.rows _ (omega arith) c.loop.invariant.same c.in_ok-len.len took
          ∙ (λ i. behind_rows c.take_row.new.into.rows (rows_at (sym c.in_ok-len.ensures.columns i) more (c.loop.at + c.in_ok-len.len) (sym back i)));
    }

pub returns-then-not-is_empty-clause-rows : goal.returns-then-not-is_empty-clause-rows
returns-then-not-is_empty-clause-rows c =
    let some : 0 < length c.loop.rest.now = grind (arith, common_steps) in
    some_over c.loop.into.columns (c.args.count - c.loop.counter) c.loop.at c.loop.rest.now c.loop.into.rows _ (omega arith) some c.loop.invariant.same

pub returns-clause-rows : goal.returns-clause-rows
returns-clause-rows c =
    let none : length c.loop.rest.now ≡ 0 = grind (arith, common_steps) in
    all_taken c.loop.into.columns (c.args.count - c.loop.counter) c.loop.at c.loop.rest.now c.loop.into.rows _ (omega arith) none c.loop.invariant.same
