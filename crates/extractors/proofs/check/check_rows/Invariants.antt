use Rattle.std.proofs.Common.{◌≤◌, ◌+◌, length}
use Rattle.extractors.specs.Readers.{IsOpen, to_come}
use Rattle.extractors.proofs.CheckLemmas.{RowsFrom}
use Rattle.extractors.proofs.check.check_rows.Given as goal

abbrev pub invariant-loop-row : goal.invariant-loop-row
invariant-loop-row l = record {
  running : IsOpen l.reader;
  so_far : RowsFrom l.columns (to_come l.fn.reader) l.row (to_come l.reader);
  few : l.row + length (to_come l.reader) ≤ length (to_come l.fn.reader);
}

abbrev pub decreases-loop-row : goal.decreases-loop-row
decreases-loop-row l = length (to_come l.reader)
