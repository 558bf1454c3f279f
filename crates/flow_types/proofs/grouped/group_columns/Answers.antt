use Rattle.std.proofs.Common.{◌≡◌, ◌≤◌, length, sym, ◌∙◌, subst, Ok}
use Rattle.std.proofs.lemmas.Result.{err_from_is_err_and}
use Rattle.tuple_schema.specs.Schemas.{IsSchema}
use Rattle.flow_types.specs.Makes.{makes_of, only_summable}
use Rattle.flow_types.specs.Grouped.{IsGrouped, group_places, group_output}
use Rattle.flow_types.proofs.Groups.{count_made, is_grouped, grouped_schema, grouped_is, grouped_fails}
use Rattle.flow_types.proofs.grouped.group_columns.Goals as goal

pub group_output-requires : goal.group_output-requires
group_output-requires c =
    let input = c.args.input.now in
    let makes = c.in_ok-made.made in
    let made : makes_of input c.args.makes.now ≡ Ok makes = rw c.columns-2.ensures.same at c.in_ok-made.ensures in
    rw c.items-2.ensures (count_made input c.args.makes.now makes made)

pub returns-in_err-columns-2-clause-grouped : goal.returns-in_err-columns-2-clause-grouped
returns-in_err-columns-2-clause-grouped c =
    let input = c.args.input.now in
    let places = c.in_ok-places.places.items in
    let makes = c.in_ok-made.made in
    let known : group_places input c.args.by.now ≡ Ok places = rw c.columns.ensures.same at c.in_ok-places.ensures in
    let made : makes_of input c.args.makes.now ≡ Ok makes = rw c.columns-2.ensures.same at c.in_ok-made.ensures in
    let summable : only_summable input makes ≡ Ok tt = rw (c.columns-3.ensures.same, c.items.ensures) at c.in_ok-only_summable.ensures.only in
    let columns : c.in_ok-columns.columns.items ≡ group_output input places c.args.makes.now makes =
    rw (c.columns-4.ensures.same, c.deref.ensures.value, c.items-2.ensures) at c.in_ok-columns.ensures in
    let p = err_from_is_err_and c.from_residual-in_err-columns-2.result c.from_residual-in_err-columns-2.ensures.1 in
    let failed = rw columns at c.in_err-columns-2.ensures.only in
    rw (p.1, p.2) (grouped_fails input c.args.by.now c.args.makes.now places makes known made summable c.in_err-columns-2.field-0.0 failed)

pub returns-clause-grouped : goal.returns-clause-grouped
returns-clause-grouped c =
    let input = c.args.input.now in
    let places = c.in_ok-places.places.items in
    let makes = c.in_ok-made.made in
    let known : group_places input c.args.by.now ≡ Ok places = rw c.columns.ensures.same at c.in_ok-places.ensures in
    let made : makes_of input c.args.makes.now ≡ Ok makes = rw c.columns-2.ensures.same at c.in_ok-made.ensures in
    let summable : only_summable input makes ≡ Ok tt = rw (c.columns-3.ensures.same, c.items.ensures) at c.in_ok-only_summable.ensures.only in
    let columns : c.in_ok-columns.columns.items ≡ group_output input places c.args.makes.now makes =
    rw (c.columns-4.ensures.same, c.deref.ensures.value, c.items-2.ensures) at c.in_ok-columns.ensures in
    let only = rw columns at c.in_ok-columns-2.ensures.only in
    grouped_is input c.args.by.now c.args.makes.now places makes known made summable c.in_ok-columns-2.columns.items only

pub returns-clause-is : goal.returns-clause-is
returns-clause-is c =
    let input = c.args.input.now in
    let places = c.in_ok-places.places.items in
    let makes = c.in_ok-made.made in
    let known : group_places input c.args.by.now ≡ Ok places = rw c.columns.ensures.same at c.in_ok-places.ensures in
    let made : makes_of input c.args.makes.now ≡ Ok makes = rw c.columns-2.ensures.same at c.in_ok-made.ensures in
    let may = rw (c.columns-3.ensures.same, c.items.ensures) at c.in_ok-only_summable.ensures.may in
    let columns : c.in_ok-columns.columns.items ≡ group_output input places c.args.makes.now makes =
    rw (c.columns-4.ensures.same, c.deref.ensures.value, c.items-2.ensures) at c.in_ok-columns.ensures in
    let same = c.in_ok-columns-2.ensures.same ∙ columns in
    subst (IsGrouped input places makes) (sym same) (is_grouped input c.args.by.now c.args.makes.now places makes known made may)

pub returns-clause-schema : goal.returns-clause-schema
returns-clause-schema c =
    let input = c.args.input.now in
    let places = c.in_ok-places.places.items in
    let makes = c.in_ok-made.made in
    let made : makes_of input c.args.makes.now ≡ Ok makes = rw c.columns-2.ensures.same at c.in_ok-made.ensures in
    let may = rw (c.columns-3.ensures.same, c.items.ensures) at c.in_ok-only_summable.ensures.may in
    let columns : c.in_ok-columns.columns.items ≡ group_output input places c.args.makes.now makes =
    rw (c.columns-4.ensures.same, c.deref.ensures.value, c.items-2.ensures) at c.in_ok-columns.ensures in
    let same = c.in_ok-columns-2.ensures.same ∙ columns in
    let few : length (group_output input places c.args.makes.now makes) ≤ 64 = rw same at c.in_ok-columns-2.ensures.few in
    let fine = rw same at c.in_ok-columns-2.ensures.distinct in
    subst IsSchema (sym same) (grouped_schema input c.args.makes.now places makes made may c.columns.ensures.schema c.requires.kept.some few fine)
