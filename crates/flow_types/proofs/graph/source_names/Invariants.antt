use Rattle.std.proofs.Common.{◌≡◌, map, take}
use Rattle.flow_types.proofs.graph.source_names.Given as goal

abbrev pub invariant-loop-source : goal.invariant-loop-source
invariant-loop-source l = map (λ n. n.now) l.names.items ≡ map (λ s. s.name) (take l.source-index l.raw.sources)
