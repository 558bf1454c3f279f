use Rattle.std.proofs.Common.{All, ap, sym, subst, ◌∙◌}
use Rattle.tuple_schema.specs.Schemas.{Fits}
use Rattle.extractors.specs.CsvContent.{csv_records, without_mark}
use Rattle.extractors.specs.Sources.{SourceOf, good_rows}
use Rattle.extractors.specs.Readers.{to_come}
use Rattle.extractors.proofs.SourceLemmas.{rows_behind, source_fits}
use Rattle.extractors.proofs.source.CsvSource.rows.Goals as goal

pub returns-clause-to_come : goal.returns-clause-to_come
returns-clause-to_come c =
    let records =
    c.reader_over-reader.ensures.all
    ∙ ap csv_records (c.without_mark.ensures ∙ ap without_mark c.deref.ensures.value) in
    ap (λ cs. good_rows cs (to_come c.next_record.new.reader)) c.columns.ensures.same
    ∙ rows_behind _ _ _ _ _ _ records c.self.invariant c.in_ok-_header.ensures.next
    ∙ ap (λ (s : SourceOf). s.rows) c.self.view_is

pub returns-clause-fit : goal.returns-clause-fit
returns-clause-fit c =
    let records =
    c.reader_over-reader.ensures.all
    ∙ ap csv_records (c.without_mark.ensures ∙ ap without_mark c.deref.ensures.value) in
    let rows =
    ap (λ cs. good_rows cs (to_come c.next_record.new.reader)) c.columns.ensures.same
    ∙ rows_behind _ _ _ _ _ _ records c.self.invariant c.in_ok-_header.ensures.next
    ∙ ap (λ (s : SourceOf). s.rows) c.self.view_is in
    subst (All (Fits c.args.self.now.columns)) (sym rows) (source_fits _ _ _ c.self.invariant c.self.view_is)
