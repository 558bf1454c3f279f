use Rattle.std.proofs.Common.{◌≡◌, ◌<◌, ◌++◌, [], ◌∷◌, List, length, map, take, option_map, All, Option, true, sym, ap, subst, ◌∙◌, arith}
use Rattle.std.proofs.lemmas.Option.{slice_get-map}
use Rattle.tuple_schema.specs.declared.value.Value.{Value}
use Rattle.tuple_schema.specs.Schemas.{HasScale, fits}
use Rattle.list_algebra.specs.Joins.{below}
use Rattle.expr_grammar.specs.declared.expr.Expr.{Expr}
use Rattle.flow_types.specs.Assigned.{set_at}
use Rattle.kind_laws.specs.Expressions.{assigned, cells, mapped}
use Rattle.kind_laws.proofs.Below.{length-map_below}
use Rattle.kind_laws.proofs.Cells.{cells_assigned, own_below, assigned_fits, mapped_more}
use Rattle.kind_laws.proofs.mapping.map.Goals as goal

-- the values that are set, for each place of the output
module _ (c : goal.After-made-in-loop-number-1) where
  abbrev values : List (Option Expr)
  values = map (option_map (λ x. x.now)) c.deref.result.now

  values_are : values ≡ map (set_at c.args.sets.now) (below (length c.args.columns.now))
  values_are =
      ap (map (option_map (λ x. x.now))) c.deref.ensures.value ∙ c.in_ok-values.ensures
      ∙ ap (λ cs. map (set_at c.args.sets.now) (below (length cs))) c.columns.ensures.same

  abbrev new : List Value
  new = assigned c.args.sets.now c.args.rows.now.columns c.row.result

  -- what they make of the row
  new_is : cells c.columns-input.result.now c.row.result values ≡ new
  new_is =
      ap (λ cs. cells cs c.row.result values) (c.columns-input.ensures.same ∙ c.schema.ensures)
      ∙ cells_assigned c.args.rows.now.columns c.args.columns.now c.args.sets.now c.row.result c.requires c.row.ensures.fits values values_are

  new_fits : fits c.args.columns.now new ≡ true
  new_fits =
      let scaled : All (λ col. HasScale col.kind) c.args.rows.now.columns = subst (λ cs. All (λ col. HasScale col.kind) cs) c.schema.ensures c.columns-input.ensures.schema.scaled in
      assigned_fits c.args.rows.now.columns c.args.columns.now c.args.sets.now c.row.result c.requires c.row.ensures.fits scaled c.row.ensures.row_of.encodable c.value_laws.ensures.fits

pub add_cells-requires-clause-own : goal.add_cells-requires-clause-own
add_cells-requires-clause-own c = λ place at.
    own_below c.args.rows.now.columns c.args.columns.now c.args.sets.now c.row.result c.requires c.row.ensures.fits (values c) (values_are c) place
    (slice_get-map (option_map (λ x. x.now)) c.deref.result.now place ∙ ap (option_map (option_map (λ x. x.now))) at)

pub add_cells-requires-clause-fits : goal.add_cells-requires-clause-fits
add_cells-requires-clause-fits c = rw (new_is c, c.loop-number.invariant.columns) (new_fits c)

pub end_row-requires : goal.end_row-requires
end_row-requires c =
    let set = ap (map (option_map (λ x. x.now))) c.deref.ensures.value ∙ c.in_ok-values.ensures
    ∙ ap (λ cs. map (set_at c.args.sets.now) (below (length cs))) c.columns.ensures.same in
    record {
      whole = ap length c.in_ok-add_cells.ensures.begun ∙ length-map_below _ _ ∙ ap length set ∙ length-map_below (set_at c.args.sets.now) (length c.args.columns.now)
          ∙ ap length (sym (c.in_ok-add_cells.ensures.columns ∙ c.loop-number.invariant.columns));
    }

pub loop-number-preserved : goal.loop-number-preserved
loop-number-preserved c =
    let small : c.loop-number.number < length c.args.rows.now.rows = omega (arith, c.len-number-end.ensures.len, c.loop-number-test.true) in
    let set = ap (map (option_map (λ x. x.now))) c.deref.ensures.value ∙ c.in_ok-values.ensures
    ∙ ap (λ cs. map (set_at c.args.sets.now) (below (length cs))) c.columns.ensures.same in
    let new_is =
    ap (λ cs. cells cs c.row.result (map (option_map (λ x. x.now)) c.deref.result.now)) (c.columns-input.ensures.same ∙ c.schema.ensures)
    ∙ cells_assigned c.args.rows.now.columns c.args.columns.now c.args.sets.now c.row.result c.requires c.row.ensures.fits _ set in
    record {
      columns = c.in_ok-end_row.ensures.columns ∙ c.in_ok-add_cells.ensures.columns ∙ c.loop-number.invariant.columns;
      rows = c.in_ok-end_row.ensures.ok ∙ ap (λ rs. rs ++ c.add_cells.new.made.begun ∷ []) (c.in_ok-add_cells.ensures.rows ∙ c.loop-number.invariant.rows)
          ∙ ap (λ r. mapped c.args.sets.now c.args.rows.now.columns (take c.loop-number.number c.args.rows.now.rows) ++ r ∷ []) (c.in_ok-add_cells.ensures.begun ∙ new_is)
          ∙ sym (mapped_more c.args.sets.now c.args.rows.now.columns c.args.rows.now.rows c.loop-number.number c.row.result small c.row.ensures.row);
      begun = c.in_ok-end_row.ensures.next;
    }
