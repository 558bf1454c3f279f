use Rattle.std.proofs.Common.{◌≡◌, [], take}
use Rattle.kind_laws.specs.Outputs.{projected}
use Rattle.kind_laws.proofs.projecting.project.Given as goal

abbrev pub invariant-loop-number : goal.invariant-loop-number
invariant-loop-number l = record {
  columns : l.parts.columns ≡ l.columns;
  rows : l.parts.rows ≡ projected l.from (take l.number l.rows.rows);
  begun : l.parts.begun ≡ [];
}
