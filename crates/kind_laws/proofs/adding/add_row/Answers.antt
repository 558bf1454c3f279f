use Rattle.std.proofs.Common.{◌≡◌, ◌∙◌, ◌++◌, [], ◌∷◌, suc, drop, length, take, Some, true, slice_get, sym, ap, append_assoc}
use Rattle.std.proofs.lemmas.Option.{slice_get_within}
use Rattle.tuple_schema.specs.declared.schema.Column.{Column}
use Rattle.tuple_schema.specs.Schemas.{is_of}
use Rattle.tuple_schema.specs.Tuples.{lent}
use Rattle.kind_laws.proofs.Added.{next_added, row_around, row_more}
use Rattle.kind_laws.proofs.adding.add_row.Goals as goal

-- the column of the value that is added
next : (c : goal.After-field) → (column : Column) × (slice_get c.loop-place.made.columns (length c.loop-place.made.begun) ≡ Some column)
    × (is_of column.kind column.nullable (lent c.field.result) ≡ true)
next c =
    rw (c.loop-place.invariant.columns, c.loop-place.invariant.begun)
    (next_added c.args.made.now.columns c.args.made.now.begun c.args.row.now (take c.loop-place.place c.args.row.now) (drop (suc c.loop-place.place) c.args.row.now)
    (lent c.field.result) c.requires.fits (row_around c.args.row.now c.loop-place.place _ c.field.ensures.value))

pub add-requires-clause-next : goal.add-requires-clause-next
add-requires-clause-next c = slice_get_within _ _ (next c).0 (next c).1

pub add-requires-clause-fits : goal.add-requires-clause-fits
add-requires-clause-fits c = rw (next c).1 (next c).2

pub loop-place-preserved : goal.loop-place-preserved
loop-place-preserved c = record {
  columns = c.in_ok-add.ensures.columns ∙ c.loop-place.invariant.columns;
  rows = c.in_ok-add.ensures.rows ∙ c.loop-place.invariant.rows;
  begun = c.in_ok-add.ensures.ok ∙ ap (λ vs. vs ++ lent c.field.result ∷ []) c.loop-place.invariant.begun
      ∙ append_assoc c.args.made.now.begun (take c.loop-place.place c.args.row.now) (lent c.field.result ∷ [])
      ∙ ap (λ vs. c.args.made.now.begun ++ vs) (sym (row_more c.args.row.now c.loop-place.place _ c.field.ensures.value));
}
