use Rattle.tuple_sets.proofs.bag.TupleBag.copy.Goals as goal

pub invariant_of-result : goal.invariant_of-result
invariant_of-result c = rw c.in_ok-runs.ensures c.self.invariant
