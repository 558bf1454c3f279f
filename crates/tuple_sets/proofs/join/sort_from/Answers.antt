use Rattle.std.proofs.Common.{rules}
use Rattle.std.proofs.lemmas.List.Sorted.{IsPermutation-put_mid}
use Rattle.tuple_sets.proofs.join.sort_from.Goals as goal

pub returns-clause-same : goal.returns-clause-same
returns-clause-same c = search (rules, IsPermutation-put_mid)
