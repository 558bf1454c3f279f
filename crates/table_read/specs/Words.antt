-- The words of clauses, from one place.
pub use Rattle.table_read.specs.Rows.{StoreAll, block_rows, next_gate, rows_at, table_rows}
pub use Rattle.table_read.specs.Places.{IsCaused, IsDisk, NoDisk, StopsOutside, Verifies, wrong_place}
pub use Rattle.table_read.specs.Calls.{IsRead, RowTells}
pub use Rattle.table_read.specs.Blocks.{ReadsBlock, TakesRow, TakesRows}
