use Rattle.std.proofs.Common.{◌≡◌, ◌++◌, map, take}
use Rattle.flow_types.proofs.graph.names_of.Given as goal

abbrev pub invariant-loop-node : goal.invariant-loop-node
invariant-loop-node l = map (λ n. n.now) l.names.items ≡ map (λ s. s.name) l.raw.sources ++ map (λ n. n.name) (take l.node-index l.raw.nodes)
