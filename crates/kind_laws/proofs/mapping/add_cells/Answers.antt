use Rattle.std.proofs.Common.{◌≡◌, ℕ, ◌<◌, ◌++◌, [], ◌∷◌, List, length, map, option_map, get_or, Option, Some, None, refl, sym, ap, ◌∙◌}
use Rattle.std.proofs.lemmas.List.{length-map, get_or-map}
use Rattle.std.proofs.lemmas.Option.{slice_get-get_or}
use Rattle.tuple_schema.specs.declared.value.Value.{Value}
use Rattle.list_algebra.specs.Joins.{below}
use Rattle.row_batch.specs.Packing.{FitsNext}
use Rattle.expr_grammar.specs.declared.expr.Expr.{Expr}
use Rattle.kind_laws.specs.Expressions.{cell}
use Rattle.kind_laws.proofs.Below.{map_below_none, map_below_more}
use Rattle.kind_laws.proofs.Cells.{fits_next}
use Rattle.kind_laws.proofs.mapping.add_cells.Goals as goal

pub loop-place-init : goal.loop-place-init
loop-place-init c =
    let made : ℕ → Value = λ place. cell c.args.input.now c.args.row.now (get_or (map (option_map (λ x. x.now)) c.args.values.now) place None) place in
    record {
      columns = refl;
      rows = refl;
      begun = c.requires.begins ∙ sym (map_below_none made);
    }

pub add_cell-requires-clause-own : goal.add_cell-requires-clause-own
add_cell-requires-clause-own c = λ none.
    c.requires.own c.loop-place.place
    (slice_get-get_or c.args.values.now c.loop-place.place c.index-values-place.result c.loop-place-test.true ∙ ap Some (sym c.index-values-place.is ∙ none))

module _ (c : goal.After-add_cell-arg-1) where
  abbrev set : List (Option Expr)
  set = map (option_map (λ x. x.now)) c.args.values.now

  abbrev made : ℕ → Value
  made = λ place. cell c.args.input.now c.args.row.now (get_or set place None) place

  small : c.loop-place.place < length set
  small = rw (length-map c.args.values.now (option_map (λ x. x.now))) c.loop-place-test.true

  -- the value that is added
  value_is : cell c.args.input.now c.args.row.now (option_map (λ x. x.now) c.index-values-place.result) c.loop-place.place ≡ made c.loop-place.place
  value_is =
      ap (λ x. cell c.args.input.now c.args.row.now x c.loop-place.place)
      (ap (option_map (λ x. x.now)) c.index-values-place.is
      ∙ sym (get_or-map (option_map (λ x. x.now)) c.args.values.now c.loop-place.place c.index-values-place.result None c.loop-place-test.true))

  step : (length c.loop-place.made.begun < length c.loop-place.made.columns)
      × FitsNext c.loop-place.made.columns c.loop-place.made.begun
      (cell c.args.input.now c.args.row.now (option_map (λ x. x.now) c.index-values-place.result) c.loop-place.place)
  step =
      fits_next c.args.made.now.columns c.loop-place.made.columns c.loop-place.made.begun made (length set) c.loop-place.place _
      c.requires.fits small c.loop-place.invariant.columns c.loop-place.invariant.begun value_is

pub add_cell-requires-clause-next : goal.add_cell-requires-clause-next
add_cell-requires-clause-next c = (step c).0

pub add_cell-requires-clause-fits : goal.add_cell-requires-clause-fits
add_cell-requires-clause-fits c = (step c).1

pub loop-place-preserved : goal.loop-place-preserved
loop-place-preserved c =
    let read : Option Expr → Value = λ x. cell c.args.input.now c.args.row.now x c.loop-place.place in
    let made : ℕ → Value = λ place. cell c.args.input.now c.args.row.now (get_or (map (option_map (λ x. x.now)) c.args.values.now) place None) place in
    record {
      columns = c.in_ok-add_cell.ensures.columns ∙ c.loop-place.invariant.columns;
      rows = c.in_ok-add_cell.ensures.rows ∙ c.loop-place.invariant.rows;
      begun = c.in_ok-add_cell.ensures.begun
          ∙ ap (λ vs. vs ++ read (option_map (λ x. x.now) c.index-values-place.result) ∷ []) c.loop-place.invariant.begun
          ∙ ap (λ x. map made (below c.loop-place.place) ++ read x ∷ [])
          (ap (option_map (λ x. x.now)) c.index-values-place.is
          ∙ sym (get_or-map (option_map (λ x. x.now)) c.args.values.now c.loop-place.place c.index-values-place.result None c.loop-place-test.true))
          ∙ sym (map_below_more made c.loop-place.place);
    }
