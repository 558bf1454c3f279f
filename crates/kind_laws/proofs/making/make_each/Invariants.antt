use Rattle.std.proofs.Common.{◌≡◌, length}
use Rattle.kind_laws.specs.Accumulators.{StandFor}
use Rattle.kind_laws.proofs.making.make_each.Given as goal

abbrev pub invariant-loop-number : goal.invariant-loop-number
invariant-loop-number l = record {
  count : length l.each.items ≡ l.count;
  stand : StandFor l.make.what l.make.column l.rows.rows l.group_of l.number l.each.items;
}
