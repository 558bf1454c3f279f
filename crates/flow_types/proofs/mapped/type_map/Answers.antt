use Rattle.std.proofs.Common.{◌≡◌, ◌≤◌, length, filter_map, refl, sym, ap, ◌∙◌, subst}
use Rattle.tuple_schema.specs.Schemas.{IsSchema}
use Rattle.flow_types.specs.Names.{names_in}
use Rattle.flow_types.specs.Mapped.{set_columns, assign_in}
use Rattle.flow_types.specs.Assigned.{IsAssigned}
use Rattle.flow_types.proofs.SetColumns.{assigned, assigned_schema}
use Rattle.flow_types.proofs.mapped.type_map.Goals as goal

pub of-requires : goal.of-requires
of-requires c =
    let input = c.args.input.now in
    let settings = c.in_ok-settings.settings.items in
    let fine = rw c.deref.ensures.value at c.in_ok-differ.ensures in
    let columns : c.in_ok-columns-2.columns.items ≡ set_columns input settings =
    rw (c.columns.ensures.same, c.deref-2.ensures.value) at (c.in_ok-columns-2.ensures.same ∙ c.in_ok-columns.ensures) in
    let few : length (set_columns input settings) ≤ 64 = rw columns at c.in_ok-columns-2.ensures.few in
    subst IsSchema (sym columns) (assigned_schema input settings c.columns.ensures.schema c.in_ok-settings.ensures.hold fine few c.value_laws.ensures.scaled)

pub returns-clause-over : goal.returns-clause-over
returns-clause-over c =
    let input = c.args.input.now in
    let settings = c.in_ok-settings.settings.items in
    let fine = rw c.deref.ensures.value at c.in_ok-differ.ensures in
    let columns : c.in_ok-columns-2.columns.items ≡ set_columns input settings =
    rw (c.columns.ensures.same, c.deref-2.ensures.value) at (c.in_ok-columns-2.ensures.same ∙ c.in_ok-columns.ensures) in
    let sets : c.in_ok-sets.sets ≡ filter_map (assign_in (names_in (set_columns input settings))) settings =
    c.in_ok-sets.ensures ∙ ap (λ cs. filter_map (assign_in (names_in cs)) settings) (c.deref-3.ensures.value ∙ columns) in
    let are = assigned input settings c.columns.ensures.schema c.in_ok-settings.ensures.hold fine in
    let over = subst (λ ss. IsAssigned input ss (set_columns input settings)) (sym sets) are in
    (refl, subst (λ cs. IsAssigned input c.in_ok-sets.sets cs) (sym (c.of.ensures ∙ columns)) over)
