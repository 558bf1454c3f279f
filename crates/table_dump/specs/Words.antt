-- The words of clauses, from one place.
pub use Rattle.table_dump.specs.Texts.{Leaves, dump_text, names_text, printed, record_text, rows_text}
pub use Rattle.table_dump.specs.Stops.{IsCaused, IsOfReading, IsOutputFault, IsStopOf, Judges}
pub use Rattle.table_dump.specs.Writers.{IsBetween, so_far}
