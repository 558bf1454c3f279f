use Rattle.std.proofs.Common.{◌≡◌, [], take}
use Rattle.kind_laws.specs.Expressions.{mapped}
use Rattle.kind_laws.proofs.mapping.map.Given as goal

abbrev pub invariant-loop-number : goal.invariant-loop-number
invariant-loop-number l = record {
  columns : l.made.columns ≡ l.columns;
  rows : l.made.rows ≡ mapped l.sets l.rows.columns (take l.number l.rows.rows);
  begun : l.made.begun ≡ [];
}
