use Rattle.std.proofs.Common.{◌∙◌, ap, sym, arith}
use Rattle.tuple_schema.specs.Tuples.{lent}
use Rattle.list_algebra.specs.Joins.{is_given}
use Rattle.kind_laws.proofs.MakingLists.{column_within, value_lent}
use Rattle.kind_laws.proofs.making.with_given.Goals as goal

pub field-requires : goal.field-requires
field-requires c = column_within c.args.rows.now.columns c.row.result c.args.column c.row.ensures.fits c.requires.column

pub returns-then-is_given : goal.returns-then-is_given
returns-then-is_given c =
    let same = value_lent c.args.column c.args.rows.now.rows c.args.number c.row.result (lent c.field.result) c.row.ensures.row c.field.ensures.value in
    let is = ap is_given same ∙ sym c.is_given.ensures ∙ c.if-is_given.true in
    rw is c.saturating_add.ensures

pub returns-else-is_given : goal.returns-else-is_given
returns-else-is_given c =
    let same = value_lent c.args.column c.args.rows.now.rows c.args.number c.row.result (lent c.field.result) c.row.ensures.row c.field.ensures.value in
    let is = ap is_given same ∙ sym c.is_given.ensures ∙ c.if-is_given.false in
    rw is (omega arith)
