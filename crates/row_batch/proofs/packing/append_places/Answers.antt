use Rattle.std.proofs.Common.{◌≤◌, ◌+◌, ◌∷◌, ◌++◌, [], refl, arith, rules}
use Rattle.row_codec.proofs.Readings.{are_bytes}
use Rattle.row_batch.proofs.Fronts.{walks_on, walk_stops, walk_ends, walk_few}
use Rattle.row_batch.proofs.packing.append_places.Goals as goal

pub returns-in-Err-clause-fault : goal.returns-in-Err-clause-fault
returns-in-Err-clause-fault c =
    walk_stops _ _ _ _ _ _ _ _ c.loop-column.invariant c.loop-column-test.true c.column-item.is c.in-Err.ensures.fault

pub overflow_cast-len : goal.overflow_cast-len
overflow_cast-len c =
    let value = c.in-Ok.ensures.value in
    let on =
    walks_on c.args.columns.now c.args.front.now c.loop-column.column-index c.loop-column.len c.args.places.now.items c.loop-column.places.items (c.loop-column.places.items ++ (c.loop-column.len + c.in-Ok.size) ∷ []) _ c.in-Ok.size value.0 c.loop-column.invariant c.loop-column-test.true c.column-item.is value.1 refl in
    let few = walk_few _ _ _ _ _ _ on in
    let narrow = c.requires.few in
    let below = c.loop-column-test.true in
    let small : c.loop-column.len + c.in-Ok.size ≤ 262336 = omega arith in
    search rules

pub loop-column-preserved : goal.loop-column-preserved
loop-column-preserved c =
    let value = c.in-Ok.ensures.value in
    walks_on _ _ _ _ _ _ _ _ _ _ c.loop-column.invariant c.loop-column-test.true c.column-item.is value.1 c.in_ok-push-2.ensures.items

pub returns-clause-row : goal.returns-clause-row
returns-clause-row c =
    walk_ends _ _ _ _ _ _ (are_bytes _ c.type_inv.front) c.loop-column.invariant c.loop-column-test.false
