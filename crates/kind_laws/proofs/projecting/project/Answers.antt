use Rattle.std.proofs.Common.{◌≡◌, ℕ, ◌+◌, ◌<◌, ◌++◌, [], ◌∷◌, List, length, take, Some, slice_get, get_or, sym, ap, ◌∙◌, arith}
use Rattle.std.proofs.lemmas.List.{take_more, map-append}
use Rattle.std.proofs.lemmas.Option.{get_or_from_slice_get}
use Rattle.tuple_schema.specs.declared.value.Value.{Value}
use Rattle.tuple_schema.specs.Tuples.{part}
use Rattle.kind_laws.specs.Outputs.{projected}
use Rattle.kind_laws.proofs.Rows.{fits-length, part_fits, places_within}
use Rattle.kind_laws.proofs.projecting.project.Goals as goal

pub add_part-requires-clause-within : goal.add_part-requires-clause-within
add_part-requires-clause-within c = places_within c.args.rows.now.columns c.args.columns.now c.args.from.now c.row.result c.requires c.row.ensures.fits

pub add_part-requires-clause-fits : goal.add_part-requires-clause-fits
add_part-requires-clause-fits c =
    rw c.loop-number.invariant.columns
    (part_fits c.args.rows.now.columns c.args.columns.now c.args.from.now c.row.result c.requires c.row.ensures.fits)

pub end_row-requires : goal.end_row-requires
end_row-requires c = record {
  whole = rw (c.in_ok-add_part.ensures.columns, c.in_ok-add_part.ensures.begun, c.loop-number.invariant.columns)
      (sym (fits-length c.args.columns.now (part c.row.result c.args.from.now)
      (part_fits c.args.rows.now.columns c.args.columns.now c.args.from.now c.row.result c.requires c.row.ensures.fits)));
}

-- the parts of one row more
projected_more : (from : List ℕ) (rows : List (List Value)) (number : ℕ) (row : List Value) → number < length rows → slice_get rows number ≡ Some row
    → projected from (take (number + 1) rows) ≡ projected from (take number rows) ++ part row from ∷ []
projected_more from rows number row small there =
    let is : get_or rows number [] ≡ row = get_or_from_slice_get rows number row [] there in
    ap (projected from) (take_more rows number [] small ∙ ap (λ r. take number rows ++ r ∷ []) is) ∙ map-append (λ r. part r from) (take number rows) (row ∷ [])

pub loop-number-preserved : goal.loop-number-preserved
loop-number-preserved c =
    let small : c.loop-number.number < length c.args.rows.now.rows = omega (arith, c.len-number-end.ensures.len, c.loop-number-test.true) in
    record {
      columns = c.in_ok-end_row.ensures.columns ∙ c.in_ok-add_part.ensures.columns ∙ c.loop-number.invariant.columns;
      rows = c.in_ok-end_row.ensures.ok ∙ ap (λ rs. rs ++ c.add_part.new.parts.begun ∷ []) (c.in_ok-add_part.ensures.rows ∙ c.loop-number.invariant.rows)
          ∙ ap (λ r. projected c.args.from.now (take c.loop-number.number c.args.rows.now.rows) ++ r ∷ []) c.in_ok-add_part.ensures.begun
          ∙ sym (projected_more c.args.from.now c.args.rows.now.rows c.loop-number.number c.row.result small c.row.ensures.row);
      begun = c.in_ok-end_row.ensures.next;
    }
