use Rattle.std.proofs.Common.{◌≡◌, map, take}
use Rattle.row_codec.specs.Rows.{row_bytes}
use Rattle.list_algebra.specs.Groups.{distinct}
use Rattle.kind_laws.proofs.distinct.distinct.Given as goal

abbrev pub invariant-loop-number : goal.invariant-loop-number
invariant-loop-number l = record {
  columns : l.kept.columns ≡ l.rows.columns;
  rows : l.kept.rows ≡ distinct (take l.number l.rows.rows);
  seen : l.seen ≡ map row_bytes l.kept.rows;
}
