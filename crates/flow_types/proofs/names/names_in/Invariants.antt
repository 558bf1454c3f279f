use Rattle.std.proofs.Common.{◌≡◌, map, take}
use Rattle.flow_types.specs.Names.{names_in}
use Rattle.flow_types.proofs.names.names_in.Given as goal

abbrev pub invariant-loop-column : goal.invariant-loop-column
invariant-loop-column l = map (λ t. t.now) l.names.items ≡ names_in (take l.column-index l.columns)
