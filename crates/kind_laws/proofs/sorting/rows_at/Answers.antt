use Rattle.std.proofs.Common.{◌≡◌, ◌∙◌, ◌++◌, ◌∷◌, [], get_or, map, take, sym, ap, subst}
use Rattle.std.proofs.lemmas.List.{map_more}
use Rattle.std.proofs.lemmas.Option.{get_or_from_slice_get}
use Rattle.tuple_schema.specs.Schemas.{Fits}
use Rattle.kind_laws.specs.Indexes.{row_at}
use Rattle.kind_laws.proofs.sorting.rows_at.Goals as goal

pub push_view-requires : goal.push_view-requires
push_view-requires c = record {
  fits = subst (λ columns. Fits columns c.row.result) (sym c.loop-number.invariant.columns) c.row.ensures.fits;
}

pub loop-number-preserved : goal.loop-number-preserved
loop-number-preserved c =
    let rows = c.args.rows.now.rows in
    let numbers = c.args.numbers.now in
    let i = c.loop-number.number-index in
    let is : row_at rows (get_or numbers i 0) ≡ c.row.result = get_or_from_slice_get rows _ c.row.result [] c.row.ensures.row in
    record {
      columns = c.in_ok-push_view.ensures.columns ∙ c.loop-number.invariant.columns;
      rows = c.in_ok-push_view.ensures.ok ∙ ap (λ rs. rs ++ c.row.result ∷ []) c.loop-number.invariant.rows
          ∙ ap (λ r. map (row_at rows) (take i numbers) ++ r ∷ []) (sym is)
          ∙ sym (map_more (row_at rows) numbers i 0 c.loop-number-test.true);
    }
