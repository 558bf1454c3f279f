use Rattle.std.proofs.Common.{◌≡◌, ◌++◌, [], map, take}
use Rattle.list_algebra.specs.Joins.{together}
use Rattle.kind_laws.specs.Indexes.{row_at}
use Rattle.kind_laws.proofs.adding.add_pairs.Given as goal

abbrev pub invariant-loop-number : goal.invariant-loop-number
invariant-loop-number l = record {
  columns : l.made.columns ≡ l.initial.made.columns;
  rows : l.made.rows ≡ l.initial.made.rows ++ map (together l.rest l.left) (map (row_at l.rights.rows) (take l.number-index l.numbers));
  begun : l.made.begun ≡ [];
}
