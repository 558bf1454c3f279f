use Rattle.std.proofs.Common.{◌<◌, length, ◌∙◌, rules}
use Rattle.row_batch.proofs.Packed.{counted_below}
use Rattle.row_batch.proofs.Building.{ended}
use Rattle.row_batch.proofs.builder.BatchBuilder.end_row.Goals as goal

pub overflow_add-self : goal.overflow_add-self
overflow_add-self c =
    let more : c.self.inside.count < length c.self.inside.starts.items = counted_below _ _ _ _ _ _ c.self.invariant.whole in
    let small = c.self.inside.starts.small in
    let ok = c.self.inside.starts.ok in
    search rules

pub invariant_of-self-in-Ok : goal.invariant_of-self-in-Ok
invariant_of-self-in-Ok c =
    (ended _ _ _ _ _ _ _ _ _ _ _ _ _ c.self.invariant c.self.view_is c.requires.whole (c.len-end.ensures ∙ c.self.inside.bytes.ok.0) (search rules) (search rules)).built

pub returns-in-Ok-clause-ok : goal.returns-in-Ok-clause-ok
returns-in-Ok-clause-ok c =
    (ended _ _ _ _ _ _ _ _ _ _ _ _ _ c.self.invariant c.self.view_is c.requires.whole (c.len-end.ensures ∙ c.self.inside.bytes.ok.0) c.in-Ok.ensures.items c.in_ok-push.ensures.items).rows_are

pub returns-in-Ok-clause-next : goal.returns-in-Ok-clause-next
returns-in-Ok-clause-next c =
    (ended _ _ _ _ _ _ _ _ _ _ _ _ _ c.self.invariant c.self.view_is c.requires.whole (c.len-end.ensures ∙ c.self.inside.bytes.ok.0) c.in-Ok.ensures.items c.in_ok-push.ensures.items).begun_are
