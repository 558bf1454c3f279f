use Rattle.std.proofs.Common.{length, ◌-◌, ◌+◌, ◌≡◌, ◌≤◌, take, drop, All}
use Rattle.row_codec.specs.Decoding.{IsRowOf}
use Rattle.table_write.specs.Cut.{cut, cut_on}
use Rattle.table_write.specs.Rows.{stored_of}
use Rattle.table_write.proofs.fill.fill.Given as goal

abbrev pub invariant-loop-count : goal.invariant-loop-count
invariant-loop-count l = record {
  within : l.from + l.count ≤ length l.rows.rows;
  block : l.block ≡ stored_of (take l.count (drop l.from l.rows.rows));
  of_columns : All (IsRowOf l.rows.columns) (take l.count (drop l.from l.rows.rows));
  rest : cut l.batch (drop l.from l.rows.rows)
      ≡ cut_on l.batch (take l.count (drop l.from l.rows.rows)) (drop l.count (drop l.from l.rows.rows));
}

abbrev pub decreases-loop-count : goal.decreases-loop-count
decreases-loop-count l = length l.rows.rows - l.from - l.count
