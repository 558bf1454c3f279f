use Rattle.std.proofs.Common.{◌≡◌, map, take}
use Rattle.list_algebra.specs.Unions.{appended}
use Rattle.kind_laws.proofs.uniting.unite.Given as goal

abbrev pub invariant-loop-input : goal.invariant-loop-input
invariant-loop-input l = record {
  columns : l.made.columns ≡ l.columns;
  rows : l.made.rows ≡ appended (map (λ b. b.rows) (take l.input-index l.inputs));
}
