use Rattle.std.proofs.Common.{◌≡◌, ◌++◌, take}
use Rattle.list_algebra.specs.Groups.{members}
use Rattle.kind_laws.specs.Makes.{made}
use Rattle.kind_laws.specs.Grouping.{group_at}
use Rattle.kind_laws.proofs.aggregating.add_group.Given as goal

abbrev pub invariant-loop-place : goal.invariant-loop-place
invariant-loop-place l = record {
  columns : l.made.columns ≡ l.initial.made.columns;
  rows : l.made.rows ≡ l.initial.made.rows;
  begun : l.made.begun ≡ group_at l.by l.rows.rows l.number ++ take l.place (made l.makes (members l.by l.rows.rows (group_at l.by l.rows.rows l.number)));
}
