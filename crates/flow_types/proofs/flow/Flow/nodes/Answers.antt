use Rattle.flow_types.proofs.FlowTrees.{fixed_root}
use Rattle.flow_types.proofs.flow.Flow.nodes.Goals as goal

pub returns-clause-fixed : goal.returns-clause-fixed
returns-clause-fixed c = rw (← c.self.view_is) (fixed_root _ c.self.invariant)
