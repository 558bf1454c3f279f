use Rattle.std.proofs.Common.{◌≡◌, ◌-◌, length, Some, sym, refl, arith}
use Rattle.std.proofs.lemmas.Option.{slice_get_read}
use Rattle.flow_types.specs.Flows.{root_in}
use Rattle.flow_types.proofs.FlowTrees.{some_nodes, fixed_root}
use Rattle.flow_types.proofs.flow.Flow.root_node.Goals as goal

pub overflow_sub-len : goal.overflow_sub-len
overflow_sub-len c = let some = some_nodes _ c.self.invariant in omega (arith, some, c.len.ensures, c.self.inside.nodes.ok.0)

pub index-requires : goal.index-requires
index-requires c = let some = some_nodes _ c.self.invariant in omega (arith, some, c.len.ensures, c.self.inside.nodes.ok.0)

at : (c : goal.After-index) → root_in c.self.inside.nodes.items ≡ Some c.index.result.now
at c =
    let nodes = c.self.inside.nodes.items in
    let some = some_nodes _ c.self.invariant in
    let count : c.len.result ≡ length nodes = omega (arith, c.len.ensures, c.self.inside.nodes.ok.0) in
    slice_get_read nodes (length nodes) (length nodes - 1) c.index.result.now refl (omega (arith, some)) (rw count at c.index.ensures)

pub returns-clause-last : goal.returns-clause-last
returns-clause-last c = rw (← c.self.view_is) (sym (at c))

pub returns-clause-fixed : goal.returns-clause-fixed
returns-clause-fixed c = rw (← c.self.view_is) (fixed_root _ c.self.invariant)
