use Rattle.std.proofs.Common.{◌≡◌, ◌∙◌, ◌++◌, ℕ, List, take, ap, sym, subst, append_assoc, All, arith}
use Rattle.std.proofs.lemmas.List.{take_all}
use Rattle.tuple_schema.specs.declared.schema.Column.{Column}
use Rattle.tuple_schema.specs.Schemas.{Fits}
use Rattle.table_dump.specs.Texts.{record_text, printed, rows_text}
use Rattle.table_dump.proofs.Rows.{rows_more, fits_more, on_ok}
use Rattle.table_dump.proofs.text.append_rows.Goals as goal

pub loop-i-preserved : goal.loop-i-preserved
loop-i-preserved c =
    let columns = c.args.batch.now.columns in
    let rows = c.args.batch.now.rows in
    let row = c.row.result in
    let same : c.columns-columns.result.now ≡ columns = c.columns-columns.ensures.same ∙ c.schema.ensures in
    let i = c.loop-i.i in
    record {
      between = c.in_ok-write.ensures.between;
      wrote = c.in_ok-write.ensures.wrote
          ∙ (λ j. c.loop-i.invariant.wrote j ++ record_text (c.in_ok-print_row.ensures j))
          ∙ ap (λ (cs : List Column). (c.args.text.items ++ rows_text columns (take i rows)) ++ record_text (printed cs row)) same
          ∙ append_assoc c.args.text.items (rows_text columns (take i rows)) (record_text (printed columns row))
          ∙ ap (λ (l : List ℕ). c.args.text.items ++ l) (sym (rows_more columns rows i row c.row.ensures.row));
      fit = fits_more columns rows i row c.row.ensures.row c.loop-i.invariant.fit c.row.ensures.fits;
    }

pub returns-clause-fit : goal.returns-clause-fit
returns-clause-fit c =
    let columns = c.args.batch.now.columns in
    let rows = c.args.batch.now.rows in
    on_ok c.written.result (All (Fits columns) rows)
    (subst (All (Fits columns)) (take_all c.loop-i.i rows (omega (arith, c.loop-i-test.false, c.len-i-end.ensures.len))) c.loop-i.invariant.fit)
