use Rattle.std.proofs.Common.{map, sym}
use Rattle.flow_types.specs.Flows.{columns_of}
use Rattle.flow_types.proofs.Unions.{united_next}
use Rattle.flow_types.proofs.united.united_columns.Goals as goal

pub loop-place-preserved : goal.loop-place-preserved
loop-place-preserved c =
    rw (c.in_ok-push.ensures.items, c.loop-place.invariant, c.in_ok-united_column.ensures)
    (sym (united_next (columns_of (map (λ n. n.now) c.args.inputs.now)) c.args.first.now c.loop-place.place c.index-first-place.result c.loop-place-test.true c.index-first-place.is))
