use Rattle.std.proofs.Common.{◌≡◌, [], length, take}
use Rattle.list_algebra.specs.Joins.{lookup, others}
use Rattle.kind_laws.proofs.joining.lookup.Given as goal

abbrev pub invariant-loop-number : goal.invariant-loop-number
invariant-loop-number l = record {
  columns : l.made.columns ≡ l.columns;
  rows : l.made.rows ≡ lookup l.cols_left l.cols_right (others (length l.right.columns) l.cols_right) l.right.rows (take l.number l.left.rows);
  begun : l.made.begun ≡ [];
}
