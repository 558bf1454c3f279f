use Rattle.std.proofs.Common.{◌≡◌, ◌++◌}
use Rattle.list_algebra.specs.Joins.{nulls}
use Rattle.kind_laws.proofs.adding.add_nulls.Given as goal

abbrev pub invariant-loop : goal.invariant-loop
invariant-loop l = record {
  columns : l.made.columns ≡ l.initial.made.columns;
  rows : l.made.rows ≡ l.initial.made.rows;
  begun : l.made.begun ≡ l.initial.made.begun ++ nulls l.counter;
}
