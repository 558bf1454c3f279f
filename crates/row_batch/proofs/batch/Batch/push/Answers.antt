use Rattle.std.proofs.Common.{◌<◌, length, ap, ◌∙◌, rules}
use Rattle.row_codec.proofs.RowLemmas.{fits_long}
use Rattle.row_batch.specs.Packing.{BatchOf}
use Rattle.row_batch.proofs.Packed.{pushed_seen, counted_below}
use Rattle.row_batch.proofs.batch.Batch.push.Goals as goal

pub append_row-requires-clause-all : goal.append_row-requires-clause-all
append_row-requires-clause-all g c =
    ap length (c.columns-width.ensures.same ∙ ap (λ (b : BatchOf). b.columns) c.self.view_is)
    ∙ fits_long _ _ c.requires.fits

pub invariant_of-self : goal.invariant_of-self
invariant_of-self g c =
    (pushed_seen _ _ _ _ _ _ _ _ _ _ _ _ c.self.invariant c.self.view_is c.requires.fits c.in-Ok.ensures.encodable (search rules) c.in-Ok.ensures.bytes c.in-Ok.ensures.starts c.in-Ok.ensures.places).packed

pub returns-in-Ok-clause-ok : goal.returns-in-Ok-clause-ok
returns-in-Ok-clause-ok g c =
    (pushed_seen _ _ _ _ _ _ _ _ _ _ _ _ c.self.invariant c.self.view_is c.requires.fits c.in-Ok.ensures.encodable (search rules) c.in-Ok.ensures.bytes c.in-Ok.ensures.starts c.in-Ok.ensures.places).seen

pub overflow_add-self : goal.overflow_add-self
overflow_add-self g c =
    let more : c.self.inside.count < length c.self.inside.starts.items = counted_below _ _ _ _ _ _ c.self.invariant in
    let small = c.self.inside.starts.small in
    let ok = c.self.inside.starts.ok in
    search rules
