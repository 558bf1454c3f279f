use Rattle.std.proofs.Common.{◌++◌, [], ◌∷◌, filter, sym, subst}
use Rattle.tuple_schema.specs.Tuples.{lent}
use Rattle.list_algebra.specs.Joins.{is_given}
use Rattle.kind_laws.specs.Accumulators.{IsTotal}
use Rattle.kind_laws.proofs.MakingLists.{column_within, value_lent}
use Rattle.kind_laws.proofs.making.with_field.Goals as goal

pub field-requires : goal.field-requires
field-requires c = column_within c.args.rows.now.columns c.row.result c.args.column c.row.ensures.fits c.requires.column

pub returns : goal.returns
returns c = λ values is.
    subst (λ v. IsTotal c.with.result (values ++ filter is_given (v ∷ [])))
    (sym (value_lent c.args.column c.args.rows.now.rows c.args.number c.row.result (lent c.field.result) c.row.ensures.row c.field.ensures.value))
    (c.with.ensures values is)
