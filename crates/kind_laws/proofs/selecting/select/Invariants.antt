use Rattle.std.proofs.Common.{◌≡◌, take}
use Rattle.kind_laws.specs.Expressions.{selected}
use Rattle.kind_laws.proofs.selecting.select.Given as goal

abbrev pub invariant-loop-number : goal.invariant-loop-number
invariant-loop-number l = record {
  columns : l.kept.columns ≡ l.rows.columns;
  rows : l.kept.rows ≡ selected l.test l.rows.columns (take l.number l.rows.rows);
}
