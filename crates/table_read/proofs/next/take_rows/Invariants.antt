use Rattle.std.proofs.Common.{◌≡◌, ◌+◌, ◌-◌, length}
use Rattle.table_read.specs.Rows.{rows_at}
use Rattle.table_read.proofs.Taking.{behind_rows}
use Rattle.table_read.proofs.next.take_rows.Given as goal

abbrev pub invariant-loop : goal.invariant-loop
invariant-loop l = record {
  size : l.at + length l.rest ≡ l.place + length l.bytes;
  columns : l.into.columns ≡ l.fn.into.columns;
  same : rows_at l.fn.into.columns l.count l.place l.bytes ≡ behind_rows l.into.rows (rows_at l.into.columns (l.count - l.counter) l.at l.rest);
}
