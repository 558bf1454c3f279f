use Rattle.std.proofs.Common.{◌<◌, length, rules}
use Rattle.row_batch.proofs.Packed.{counted_below}
use Rattle.row_batch.proofs.Fronts.{front_pushed}
use Rattle.row_batch.proofs.batch.Batch.push_bytes.Goals as goal

pub overflow_add-self : goal.overflow_add-self
overflow_add-self c =
    let more : c.self.inside.count < length c.self.inside.starts.items = counted_below _ _ _ _ _ _ c.self.invariant in
    let small = c.self.inside.starts.small in
    let ok = c.self.inside.starts.ok in
    search rules

pub invariant_of-self : goal.invariant_of-self
invariant_of-self c =
    (front_pushed _ _ _ _ _ _ _ _ _ _ _ _ _ _ c.self.invariant c.self.view_is c.columns.ensures.same c.in-Ok.ensures.row c.self.inside.bytes.ok.0 c.in-Ok.ensures.bytes c.in-Ok.ensures.starts).1.packed

pub returns-in-Ok-clause-row : goal.returns-in-Ok-clause-row
returns-in-Ok-clause-row c =
    let pushed =
    front_pushed _ _ _ _ _ _ _ _ _ _ _ _ _ _ c.self.invariant c.self.view_is c.columns.ensures.same c.in-Ok.ensures.row c.self.inside.bytes.ok.0 c.in-Ok.ensures.bytes c.in-Ok.ensures.starts in
    (c.in-Ok.ensures.row.row, pushed.0, pushed.1.seen)
