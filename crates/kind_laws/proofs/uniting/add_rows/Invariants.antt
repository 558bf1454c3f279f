use Rattle.std.proofs.Common.{◌≡◌, ◌++◌, take}
use Rattle.kind_laws.proofs.uniting.add_rows.Given as goal

abbrev pub invariant-loop-number : goal.invariant-loop-number
invariant-loop-number l = record {
  columns : l.made.columns ≡ l.initial.made.columns;
  rows : l.made.rows ≡ l.initial.made.rows ++ take l.number l.rows.rows;
}
