use Rattle.std.proofs.Common.{◌≡◌}
use Rattle.list_algebra.specs.Joins.{below}
use Rattle.kind_laws.proofs.sorted.all_numbers.Given as goal

abbrev pub invariant-loop-number : goal.invariant-loop-number
invariant-loop-number l = l.numbers.items ≡ below l.number
