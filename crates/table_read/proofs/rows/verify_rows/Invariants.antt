use Rattle.std.proofs.Common.{◌≡◌, ◌+◌, ◌-◌, length}
use Rattle.table_read.specs.Rows.{rows_at}
use Rattle.table_read.specs.Places.{wrong_place}
use Rattle.table_read.proofs.rows.verify_rows.Given as goal

abbrev pub invariant-loop : goal.invariant-loop
invariant-loop l = record {
  size : l.at + length l.rest ≡ l.place + length l.bytes;
  same : wrong_place (rows_at l.schema (l.count - l.counter) l.at l.rest) ≡ wrong_place (rows_at l.schema l.count l.place l.bytes);
}
