use Rattle.std.proofs.Common.{◌≡◌, map, take}
use Rattle.flow_types.specs.Mapped.{replaced}
use Rattle.flow_types.proofs.mapped.replaced_columns.Given as goal

abbrev pub invariant-loop-column : goal.invariant-loop-column
invariant-loop-column l = l.columns.items ≡ map (replaced l.settings) (take l.column-index l.input)
