use Rattle.std.proofs.Common.{◌≡◌, map, take}
use Rattle.flow_types.specs.Flows.{ids_of}
use Rattle.flow_types.proofs.typing.ids_of.Given as goal

abbrev pub invariant-loop-node : goal.invariant-loop-node
invariant-loop-node l = l.ids.items ≡ ids_of (map (λ n. n.now) (take l.node-index l.nodes))
