use Rattle.std.proofs.Common.{◌≡◌, ℕ, take, slice_get, Some}
use Rattle.list_algebra.specs.Bags.{Tuple, same}
use Rattle.list_algebra.specs.Groups.{groups}
use Rattle.kind_laws.specs.Keys.{key_number}
use Rattle.kind_laws.specs.Grouping.{IsGrouping}
use Rattle.kind_laws.proofs.grouping.group.Given as goal

abbrev pub invariant-loop-number : goal.invariant-loop-number
invariant-loop-number l = record {
  columns : l.keys.columns ≡ l.rows.columns;
  cols : l.keys.cols ≡ l.by;
  keys : l.keys.keys ≡ groups l.by (take l.number l.rows.rows);
  grouping : IsGrouping l.by (take l.number l.rows.rows) l.group_of.items l.firsts.items;
  numbers : (i : ℕ) (key : Tuple) → slice_get l.keys.keys i ≡ Some key → key_number same l.keys.keys key ≡ i;
}
