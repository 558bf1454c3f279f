use Rattle.std.proofs.Common.{◌<◌, length, rules}
use Rattle.row_batch.proofs.Packed.{pushed_seen, counted_below}
use Rattle.row_batch.proofs.batch.Batch.push_view.Goals as goal

pub invariant_of-self : goal.invariant_of-self
invariant_of-self c =
    (pushed_seen _ _ _ _ _ _ _ _ _ _ _ _ c.self.invariant c.self.view_is c.requires.fits c.in-Ok.ensures.encodable (search rules) c.in-Ok.ensures.bytes c.in-Ok.ensures.starts c.in-Ok.ensures.places).packed

pub returns-in-Ok-clause-ok : goal.returns-in-Ok-clause-ok
returns-in-Ok-clause-ok c =
    (pushed_seen _ _ _ _ _ _ _ _ _ _ _ _ c.self.invariant c.self.view_is c.requires.fits c.in-Ok.ensures.encodable (search rules) c.in-Ok.ensures.bytes c.in-Ok.ensures.starts c.in-Ok.ensures.places).seen

pub overflow_add-self : goal.overflow_add-self
overflow_add-self c =
    let more : c.self.inside.count < length c.self.inside.starts.items = counted_below _ _ _ _ _ _ c.self.invariant in
    let small = c.self.inside.starts.small in
    let ok = c.self.inside.starts.ok in
    search rules
