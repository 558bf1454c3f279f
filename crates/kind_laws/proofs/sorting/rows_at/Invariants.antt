use Rattle.std.proofs.Common.{◌≡◌, map, take}
use Rattle.kind_laws.specs.Indexes.{row_at}
use Rattle.kind_laws.proofs.sorting.rows_at.Given as goal

abbrev pub invariant-loop-number : goal.invariant-loop-number
invariant-loop-number l = record {
  columns : l.made.columns ≡ l.rows.columns;
  rows : l.made.rows ≡ map (row_at l.rows.rows) (take l.number-index l.numbers);
}
