use Rattle.std.proofs.Common.{Ok, length, sym, ap, ◌∙◌, arith}
use Rattle.std.proofs.lemmas.Result.{err_from_is_err_and}
use Rattle.extractors.specs.CsvContent.{csv_records}
use Rattle.extractors.proofs.CheckLemmas.{csv_records_few, mark_shorter}
use Rattle.extractors.proofs.SourceLemmas.{content_is, content_fits}
use Rattle.extractors.proofs.PackLemmas.{header_fails, rows_fail, packed_content}
use Rattle.extractors.proofs.content.content_of.Goals as goal

pub returns-in_err-read_header-clause-content : goal.returns-in_err-read_header-clause-content
returns-in_err-read_header-clause-content c =
    let all = c.reader_over-reader.ensures.all ∙ ap csv_records c.without_mark.ensures in
    let p = err_from_is_err_and c.from_residual.result c.from_residual.ensures.1 in
    let fails = header_fails c.args.any_header c.columns-columns.result.now c.args.file.now _ _ all c.in_err-read_header.ensures.fault in
    rw (p.1, p.2) (rw c.columns-columns.ensures.same at fails)

pub pack_rows-requires-clause-few : goal.pack_rows-requires-clause-few
pack_rows-requires-clause-few c =
    let fewer = c.in_ok-read_header.ensures.fewer in
    let few = csv_records_few c.without_mark.result.now in
    let all = ap (λ rs. length rs) c.reader_over-reader.ensures.all in
    let shorter = mark_shorter c.args.file.now in
    let text = ap (λ bs. length bs) c.without_mark.ensures in
    omega arith

pub returns-in_err-pack_rows-clause-content : goal.returns-in_err-pack_rows-clause-content
returns-in_err-pack_rows-clause-content c =
    let all = c.reader_over-reader.ensures.all ∙ ap csv_records c.without_mark.ensures in
    let p = err_from_is_err_and c.from_residual-in_err-pack_rows.result c.from_residual-in_err-pack_rows.ensures.1 in
    let content = content_is c.args.any_header c.columns-columns.result.now c.args.file.now _ _ all c.in_ok-read_header.ensures.under in
    let fails = rows_fail _ _ _ c.in_err-pack_rows.ensures.rows in
    rw (p.1, p.2, ← c.columns-columns.ensures.same, content) fails

pub returns-clause-content : goal.returns-clause-content
returns-clause-content c =
    let all = c.reader_over-reader.ensures.all ∙ ap csv_records c.without_mark.ensures in
    let packed = packed_content c.args.any_header c.columns-columns.result.now c.args.file.now _ _ _ _ all c.in_ok-read_header.ensures.under c.in_ok-into.ensures.empty c.in_ok-pack_rows.ensures.rows in
    rw (← c.columns-columns.ensures.same) (packed ∙ ap (λ rows. Ok rows) (sym c.finish.ensures.rows))

pub returns-clause-fit : goal.returns-clause-fit
returns-clause-fit c =
    let all = c.reader_over-reader.ensures.all ∙ ap csv_records c.without_mark.ensures in
    let packed = packed_content c.args.any_header c.columns-columns.result.now c.args.file.now _ _ _ _ all c.in_ok-read_header.ensures.under c.in_ok-into.ensures.empty c.in_ok-pack_rows.ensures.rows in
    let content = packed ∙ ap (λ rows. Ok rows) (sym c.finish.ensures.rows) in
    content_fits c.args.any_header _ c.args.file.now _ (rw c.columns-columns.ensures.same at content)
