use Rattle.std.proofs.Common.{◌≡◌, ◌∙◌, ◌++◌, ◌∷◌, [], ℕ, List, length, ap, sym, refl, arith}
use Rattle.std.proofs.lemmas.Option.{slice_get_read}
use Rattle.tuple_schema.specs.Tuples.{lent}
use Rattle.row_codec.specs.Printing.{field_text}
use Rattle.table_dump.proofs.Printing.{as_many, of_kind, printed_more, printed_end}
use Rattle.table_dump.proofs.record.print_row.Goals as goal

pub field-requires : goal.field-requires
field-requires g c =
    omega (arith, as_many c.args.columns.now (g.F.Fields.tuple c.args.row.now) c.requires.fits, c.loop-i-test.true)

pub print_field-requires-clause-kind : goal.print_field-requires-clause-kind
print_field-requires-clause-kind g c =
    let columns = c.args.columns.now in
    let at = slice_get_read columns (length columns) c.loop-i.i c.index-columns-i.result refl c.loop-i-test.true c.index-columns-i.is in
    of_kind columns (g.F.Fields.tuple c.args.row.now) c.loop-i.i c.index-columns-i.result (lent c.field.result) c.requires.fits at c.field.ensures.value

pub loop-i-preserved : goal.loop-i-preserved
loop-i-preserved g c =
    let columns = c.args.columns.now in
    let column = c.index-columns-i.result in
    let text = field_text column.kind (lent c.field.result) in
    let at = slice_get_read columns (length columns) c.loop-i.i column refl c.loop-i-test.true c.index-columns-i.is in
    let prints : c.deref.result.now ≡ text =
    c.deref.ensures.value ∙ c.in_ok-print_field.ensures.ok ∙ ap (λ (l : List ℕ). l ++ text) c.clear-in-loop-i.ensures.items in
    record {
      fields = c.in_ok-push_field.ensures.fields
          ∙ (λ j. c.loop-i.invariant.fields j ++ (c.loop-i.invariant.partial j ++ prints j) ∷ [])
          ∙ sym (printed_more columns (g.F.Fields.tuple c.args.row.now) c.loop-i.i column (lent c.field.result) at c.field.ensures.value);
      partial = c.in_ok-push_field.ensures.partial;
    }

pub returns : goal.returns
returns g c =
    let columns = c.args.columns.now in
    c.loop-i.invariant.fields ∙ printed_end columns (g.F.Fields.tuple c.args.row.now) c.loop-i.i (omega (arith, c.loop-i-test.false))
