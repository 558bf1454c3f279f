use Rattle.std.proofs.Common.{◌≡◌, ◌++◌, [], ◌∷◌, length, Some, true, slice_get, sym, ap, ◌∙◌}
use Rattle.std.proofs.lemmas.Option.{slice_get_within}
use Rattle.tuple_schema.specs.declared.schema.Column.{Column}
use Rattle.tuple_schema.specs.Schemas.{is_of}
use Rattle.tuple_schema.specs.Tuples.{lent}
use Rattle.kind_laws.proofs.Rows.{next_fits, part_more}
use Rattle.kind_laws.proofs.projecting.add_part.Goals as goal

-- the column of the value that is added
next : (c : goal.After-field) → (column : Column) × (slice_get c.loop-place.parts.columns (length c.loop-place.parts.begun) ≡ Some column)
    × (is_of column.kind column.nullable (lent c.field.result) ≡ true)
next c =
    rw (c.loop-place.invariant.columns, c.loop-place.invariant.begun)
    (next_fits c.args.parts.now.columns c.args.row.now c.args.from.now c.loop-place.place-index _ c.requires.fits c.loop-place-test.true c.field.ensures.value)

pub add-requires-clause-next : goal.add-requires-clause-next
add-requires-clause-next c = slice_get_within _ _ (next c).0 (next c).1

pub add-requires-clause-fits : goal.add-requires-clause-fits
add-requires-clause-fits c = rw (next c).1 (next c).2

pub loop-place-preserved : goal.loop-place-preserved
loop-place-preserved c = record {
  columns = c.in_ok-add.ensures.columns ∙ c.loop-place.invariant.columns;
  rows = c.in_ok-add.ensures.rows ∙ c.loop-place.invariant.rows;
  begun = c.in_ok-add.ensures.ok ∙ ap (λ vs. vs ++ lent c.field.result ∷ []) c.loop-place.invariant.begun
      ∙ sym (part_more c.args.row.now c.args.from.now c.loop-place.place-index _ c.loop-place-test.true c.field.ensures.value);
}
