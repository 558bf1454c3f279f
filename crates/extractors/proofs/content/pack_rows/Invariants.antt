use Rattle.std.proofs.Common.{◌≡◌, ◌≤◌, ◌+◌, [], length}
use Rattle.extractors.specs.Readers.{IsOpen, to_come}
use Rattle.extractors.proofs.PackLemmas.{PackedWith}
use Rattle.extractors.proofs.content.pack_rows.Given as goal

abbrev pub invariant-loop-row : goal.invariant-loop-row
invariant-loop-row l = record {
  running : IsOpen l.reader;
  so_far : PackedWith l.columns l.fn.into.rows (to_come l.fn.reader) l.into.rows l.row (to_come l.reader);
  few : l.row + length (to_come l.reader) ≤ length (to_come l.fn.reader);
  columns : l.into.columns ≡ l.columns;
  none_begun : l.into.begun ≡ [];
}

abbrev pub decreases-loop-row : goal.decreases-loop-row
decreases-loop-row l = length (to_come l.reader)
