use Rattle.flow_types.proofs.FlowTrees.{made_of, alone_in, root_at, found_in, next_in}
use Rattle.flow_types.proofs.laws.tree_laws.Goals as goal

pub returns-clause-made : goal.returns-clause-made
returns-clause-made c = made_of

pub returns-clause-next : goal.returns-clause-next
returns-clause-next c = next_in

pub returns-clause-alone : goal.returns-clause-alone
returns-clause-alone c = alone_in

pub returns-clause-root : goal.returns-clause-root
returns-clause-root c = root_at

pub returns-clause-found : goal.returns-clause-found
returns-clause-found c = found_in
