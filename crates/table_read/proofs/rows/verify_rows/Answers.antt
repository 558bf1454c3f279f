use Rattle.std.proofs.Common.{◌≡◌, ◌-◌, ◌+◌, ◌<◌, length, arith}
use Rattle.std.proofs.lemmas.Grind.{common_steps}
use Rattle.std.proofs.lemmas.Result.{err_from_is_err_and}
use Rattle.table_read.proofs.Readings.{goes_on, stops, nothing_left, some_left}
use Rattle.table_read.proofs.rows.verify_rows.Goals as goal

pub returns-in_err-len-clause-rows : goal.returns-in_err-len-clause-rows
returns-in_err-len-clause-rows c =
    let p = err_from_is_err_and c.from_residual.result c.from_residual.ensures.1 in
    rw (p.1, p.2) (stops c.in_err-len.field-0.0 c.args.schema.now (c.args.count - c.loop.counter) (c.args.count - (c.loop.counter + 1)) c.loop.at _ _ (omega arith) c.in_err-len.ensures c.loop.invariant.same)

pub loop-preserved : goal.loop-preserved
loop-preserved c =
    let tells = c.in_ok-len.ensures in
    let back = c.split_at.ensures.back in
    record {
      size = omega (arith, c.loop.invariant.size, c.split_at.ensures.back_len);
      same = rw back (goes_on c.args.schema.now (c.args.count - c.loop.counter) (c.args.count - (c.loop.counter + 1)) c.loop.at c.in_ok-len.len _ _ (omega arith) tells c.loop.invariant.same);
    }

pub returns-then-not-is_empty-clause-rows : goal.returns-then-not-is_empty-clause-rows
returns-then-not-is_empty-clause-rows c =
    let some : 0 < length c.loop.rest.now = grind (arith, common_steps) in
    some_left c.args.schema.now (c.args.count - c.loop.counter) c.loop.at _ _ (omega arith) some c.loop.invariant.same

pub returns-clause-rows : goal.returns-clause-rows
returns-clause-rows c =
    let none : length c.loop.rest.now ≡ 0 = grind (arith, common_steps) in
    nothing_left c.args.schema.now (c.args.count - c.loop.counter) c.loop.at _ _ (omega arith) none c.loop.invariant.same
