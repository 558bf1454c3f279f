use Rattle.std.proofs.Common.{◌≡◌, ◌++◌, take}
use Rattle.kind_laws.proofs.adding.add_row.Given as goal

abbrev pub invariant-loop-place : goal.invariant-loop-place
invariant-loop-place l = record {
  columns : l.made.columns ≡ l.initial.made.columns;
  rows : l.made.rows ≡ l.initial.made.rows;
  begun : l.made.begun ≡ l.initial.made.begun ++ take l.place l.row;
}
