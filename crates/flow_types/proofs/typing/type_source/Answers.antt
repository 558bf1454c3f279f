use Rattle.std.proofs.Common.{refl}
use Rattle.flow_types.proofs.Columns.{stated_schema}
use Rattle.flow_types.proofs.typing.type_source.Goals as goal

pub of-requires : goal.of-requires
of-requires c =
    let fine = rw (c.deref.ensures.value, c.in_ok-columns.ensures, c.items.ensures) at c.in_ok-key.ensures.distinct in
    rw (c.in_ok-columns.ensures, c.items.ensures) (stated_schema c.args.source.now.columns c.requires.kept.columns fine)

pub returns-clause-over : goal.returns-clause-over
returns-clause-over c = (refl, c.in_ok-source_of.ensures.built)
