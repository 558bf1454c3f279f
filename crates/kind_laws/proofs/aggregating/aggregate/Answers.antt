use Rattle.std.proofs.Common.{◌≡◌, ◌<◌, ◌∙◌, ℕ, List, [], ◌∷◌, ◌++◌, length, map, take, get_or, All, ap, sym, subst}
use Rattle.std.proofs.lemmas.List.{map_more, take_all}
use Rattle.tuple_schema.specs.declared.schema.Column.{Column}
use Rattle.tuple_schema.specs.Schemas.{Fits}
use Rattle.list_algebra.specs.Bags.{Tuple}
use Rattle.list_algebra.specs.Groups.{each_group}
use Rattle.flow_types.specs.declared.node.Make.{Make}
use Rattle.flow_types.specs.Grouped.{IsGrouped}
use Rattle.kind_laws.specs.Makes.{made}
use Rattle.kind_laws.specs.Grouping.{IsGrouping, group_row}
use Rattle.kind_laws.proofs.Rows.{fits-length}
use Rattle.kind_laws.proofs.GroupsMade.{reads_within, group_fits}
use Rattle.kind_laws.proofs.GroupsHeld.{rows_of_groups}
use Rattle.kind_laws.proofs.aggregating.aggregate.Goals as goal

-- the row of the group whose turn it is fits
turn_fits : (input columns : List Column) (by : List ℕ) (makes : List Make) (rows : List Tuple) (group_of firsts all numbers given : List ℕ) (k : ℕ) → IsGrouping by rows group_of firsts
    → IsGrouped input by makes columns → All (Fits input) rows → All (λ g. g < length all) numbers → all ≡ firsts → given ≡ numbers → k < length given
    → Fits columns (group_row by makes rows (get_or given k 0))
turn_fits input columns by makes rows group_of firsts all numbers given k is grouped fit within same are small =
    let inside : get_or numbers k 0 < length all = within k 0 (subst (λ xs. k < length xs) are small) in
    let there : get_or given k 0 < length firsts = subst (λ xs. get_or xs k 0 < length firsts) (sym are) (subst (λ fs. get_or numbers k 0 < length fs) same inside) in
    group_fits by rows group_of firsts is (get_or given k 0) there input makes columns grouped fit

pub make_all-requires-clause-columns : goal.make_all-requires-clause-columns
make_all-requires-clause-columns c = reads_within c.args.rows.now.columns c.args.makes.now c.requires.grouped.behind c.requires.grouped.made

pub loop-number-init : goal.loop-number-init
loop-number-init c = record { columns = c.in_ok-made.ensures.columns; rows = c.in_ok-made.ensures.empty; begun = c.in_ok-made.ensures.begun }

pub add_group-requires-clause-columns : goal.add_group-requires-clause-columns
add_group-requires-clause-columns c = reads_within c.args.rows.now.columns c.args.makes.now c.requires.grouped.behind c.requires.grouped.made

pub add_group-requires-clause-fits : goal.add_group-requires-clause-fits
add_group-requires-clause-fits c =
    let fine = turn_fits c.args.rows.now.columns c.args.columns.now c.args.by.now c.args.makes.now c.args.rows.now.rows c.in_ok-groups.groups.group_of.items c.in_ok-groups.groups.firsts.items
    c.deref.result.now c.in_ok-numbers.numbers.items c.deref-number-items.result.now c.loop-number.number-index c.in_ok-groups.ensures c.requires.grouped c.rows_fit.ensures
    c.in_ok-numbers.ensures.within c.deref.ensures.value c.deref-number-items.ensures.value c.loop-number-test.true in
    rw c.loop-number.invariant.columns fine

pub add_group-requires-clause-begins : goal.add_group-requires-clause-begins
add_group-requires-clause-begins c = c.loop-number.invariant.begun

pub end_row-requires : goal.end_row-requires
end_row-requires c =
    let fine = turn_fits c.args.rows.now.columns c.args.columns.now c.args.by.now c.args.makes.now c.args.rows.now.rows c.in_ok-groups.groups.group_of.items c.in_ok-groups.groups.firsts.items
    c.deref.result.now c.in_ok-numbers.numbers.items c.deref-number-items.result.now c.loop-number.number-index c.in_ok-groups.ensures c.requires.grouped c.rows_fit.ensures
    c.in_ok-numbers.ensures.within c.deref.ensures.value c.deref-number-items.ensures.value c.loop-number-test.true in
    let columns = c.in_ok-add_group.ensures.columns ∙ c.loop-number.invariant.columns in
    record { whole = ap length c.in_ok-add_group.ensures.begun ∙ sym (fits-length c.args.columns.now _ fine) ∙ ap length (sym columns) }

pub loop-number-preserved : goal.loop-number-preserved
loop-number-preserved c =
    let row : ℕ → Tuple = group_row c.args.by.now c.args.makes.now c.args.rows.now.rows in
    let given : List ℕ = c.deref-number-items.result.now in
    let k : ℕ = c.loop-number.number-index in
    record {
      columns = c.in_ok-end_row.ensures.columns ∙ c.in_ok-add_group.ensures.columns ∙ c.loop-number.invariant.columns;
      rows = c.in_ok-end_row.ensures.ok ∙ ap (λ rs. rs ++ c.add_group.new.made.begun ∷ []) (c.in_ok-add_group.ensures.rows ∙ c.loop-number.invariant.rows)
          ∙ ap (λ t. map row (take k given) ++ t ∷ []) c.in_ok-add_group.ensures.begun ∙ sym (map_more row given k 0 c.loop-number-test.true);
      begun = c.in_ok-end_row.ensures.next;
    }

pub returns-clause-rows : goal.returns-clause-rows
returns-clause-rows c =
    let by = c.args.by.now in
    let makes : List Make = c.args.makes.now in
    let rows = c.args.rows.now.rows in
    let row : ℕ → Tuple = group_row by makes rows in
    let given : List ℕ = c.deref-number-items.result.now in
    let all : take c.loop-number.number-index given ≡ given = take_all c.loop-number.number-index given c.loop-number-test.false in
    c.finish.ensures.rows ∙ c.loop-number.invariant.rows ∙ ap (map row) (all ∙ c.deref-number-items.ensures.value)
    ∙ rows_of_groups by makes rows c.in_ok-numbers.numbers.items ∙ ap (each_group (made makes) by rows) c.in_ok-numbers.ensures.order

pub returns-clause-columns : goal.returns-clause-columns
returns-clause-columns c = c.finish.ensures.columns ∙ c.loop-number.invariant.columns
