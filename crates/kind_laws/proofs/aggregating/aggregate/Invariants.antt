use Rattle.std.proofs.Common.{◌≡◌, [], map, take}
use Rattle.kind_laws.specs.Grouping.{group_row}
use Rattle.kind_laws.proofs.aggregating.aggregate.Given as goal

abbrev pub invariant-loop-number : goal.invariant-loop-number
invariant-loop-number l = record {
  columns : l.made.columns ≡ l.columns;
  rows : l.made.rows ≡ map (group_row l.by l.makes l.rows.rows) (take l.number-index l.number-items);
  begun : l.made.begun ≡ [];
}
