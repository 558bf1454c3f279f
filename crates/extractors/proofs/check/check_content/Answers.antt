use Rattle.std.proofs.Common.{length, ap, ◌∙◌, arith}
use Rattle.std.proofs.lemmas.Result.{err_from_is_err_and}
use Rattle.extractors.specs.CsvContent.{csv_records}
use Rattle.extractors.proofs.CheckLemmas.{csv_records_few, mark_shorter}
use Rattle.extractors.proofs.SourceLemmas.{content_is}
use Rattle.extractors.proofs.PackLemmas.{header_fails, tested_fails}
use Rattle.extractors.proofs.check.check_content.Goals as goal

pub check_rows-requires-clause-few : goal.check_rows-requires-clause-few
check_rows-requires-clause-few c =
    let fewer = c.in_ok-read_header.ensures.fewer in
    let few = csv_records_few c.without_mark.result.now in
    let all = ap (λ rs. length rs) c.reader_over-reader.ensures.all in
    let shorter = mark_shorter c.args.file.now in
    let text = ap (λ bs. length bs) c.without_mark.ensures in
    omega arith

pub returns-in_err-read_header : goal.returns-in_err-read_header
returns-in_err-read_header c =
    let all = c.reader_over-reader.ensures.all ∙ ap csv_records c.without_mark.ensures in
    let p = err_from_is_err_and c.from_residual.result c.from_residual.ensures.1 in
    let fails = header_fails c.args.any_header c.columns-columns.result.now c.args.file.now _ _ all c.in_err-read_header.ensures.fault in
    rw (p.1, p.2) (tested_fails _ _ (rw c.columns-columns.ensures.same at fails))

pub returns : goal.returns
returns c =
    let all = c.reader_over-reader.ensures.all ∙ ap csv_records c.without_mark.ensures in
    let content = content_is c.args.any_header c.columns-columns.result.now c.args.file.now _ _ all c.in_ok-read_header.ensures.under in
    rw (← c.columns-columns.ensures.same, content) c.check_rows.ensures
