use Rattle.std.proofs.Common.{rules}
use Rattle.tuple_sets.proofs.RunLemmas.{sorted_by_calls}
use Rattle.tuple_sets.proofs.join.sort.Goals as goal

pub returns-clause-sorted : goal.returns-clause-sorted
returns-clause-sorted c = sorted_by_calls _ _ c.sort_by.ensures.sorted (λ a r f' k. search rules)
