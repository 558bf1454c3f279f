-- The words of clauses, from one place.
pub use Rattle.extractors.specs.CsvContent.{csv_content, csv_records, header_of, named_columns, row_fault}
pub use Rattle.extractors.specs.CsvContent.{tuple_of, tuples_from, under_header, without_mark}
pub use Rattle.extractors.specs.Opening.{bytes_of, source_content}
pub use Rattle.extractors.specs.Readers.{GivesNext, IsOpen, to_come}
pub use Rattle.extractors.specs.Sources.{CanGoOn, GoesOn, IsFullUnlessEnded, good_rows, rows_left}
