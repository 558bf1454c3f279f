use Rattle.list_algebra.proofs.Rearranged.{ascending_bag, sorted_bag}
use Rattle.list_algebra.proofs.Sorted.{ascending_moves, ascending_sorted, ascending_stable, ascending_only}
use Rattle.list_algebra.proofs.laws.sort_laws.Goals as goal

pub returns-clause-permutation : goal.returns-clause-permutation
returns-clause-permutation c = ascending_moves

pub returns-clause-sorted : goal.returns-clause-sorted
returns-clause-sorted c = ascending_sorted

pub returns-clause-stable : goal.returns-clause-stable
returns-clause-stable c = ascending_stable

pub returns-clause-only : goal.returns-clause-only
returns-clause-only c = ascending_only

pub returns-clause-order_free : goal.returns-clause-order_free
returns-clause-order_free c = sorted_bag

pub returns-clause-bag : goal.returns-clause-bag
returns-clause-bag c = ascending_bag
