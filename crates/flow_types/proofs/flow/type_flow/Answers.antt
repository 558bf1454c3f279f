use Rattle.std.proofs.Common.{◌≡◌, length, arith}
use Rattle.flow_types.specs.Graph.{flow_tree}
use Rattle.flow_types.proofs.FlowTrees.{flow_of}
use Rattle.flow_types.proofs.flow.type_flow.Goals as goal

pub invariant_of-result : goal.invariant_of-result
invariant_of-result c =
    let links = c.in_ok-graph.graph.links in
    let count : c.len-depth.result ≡ length links.items = omega (arith, c.len-depth.ensures, links.ok.0) in
    let has = rw (c.deref.ensures.value, count, c.new-nodes.ensures.items) at c.in_ok-type_tree.ensures.tree in
    flow_of c.args.raw.now (flow_tree c.in_ok-graph.graph.root links.items) c.type_tree.new.nodes.items c.in_ok-type_tree.field-0 c.in_ok-graph.ensures.graph has c.in_ok-graph.ensures.inside c.in_ok-graph.ensures.once c.in_ok-graph.ensures.few
