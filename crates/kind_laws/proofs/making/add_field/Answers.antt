use Rattle.std.proofs.Common.{subst}
use Rattle.tuple_schema.specs.Tuples.{lent}
use Rattle.row_batch.specs.Packing.{FitsNext}
use Rattle.kind_laws.specs.Accumulators.{value_of_best}
use Rattle.kind_laws.proofs.MakingLists.{column_within, value_lent}
use Rattle.kind_laws.proofs.making.add_field.Goals as goal

pub field-requires : goal.field-requires
field-requires c = column_within c.args.rows.now.columns c.row.result c.args.column c.row.ensures.fits c.requires.column

pub add-requires-clause-fits : goal.add-requires-clause-fits
add-requires-clause-fits c =
    let same = value_lent c.args.column c.args.rows.now.rows c.in-Some.number c.row.result (lent c.field.result) c.row.ensures.row c.field.ensures.value in
    let fit = subst (λ best. FitsNext c.args.made.now.columns c.args.made.now.begun (value_of_best c.args.column c.args.rows.now.rows best)) c.in-Some.is c.requires.fits in
    subst (λ v. FitsNext c.args.made.now.columns c.args.made.now.begun v) same fit

pub returns-in-Some-clause-ok : goal.returns-in-Some-clause-ok
returns-in-Some-clause-ok c =
    let same = value_lent c.args.column c.args.rows.now.rows c.in-Some.number c.row.result (lent c.field.result) c.row.ensures.row c.field.ensures.value in
    rw (c.in-Some.is, same) c.add.ensures.ok
