use Rattle.std.proofs.Common.{rules}
use Rattle.tuple_sets.proofs.RunLemmas.{found_by_calls}
use Rattle.tuple_sets.proofs.search.search.Goals as goal

pub returns : goal.returns
returns g c =
    rw c.ok.ensures.value
    (found_by_calls c.args.run.now (g.F.Fields.tuple c.args.row.now) c.binary_search_by.result
    c.binary_search_by.ensures.bound c.binary_search_by.ensures.position (λ a o f' k. search rules) c.requires)
