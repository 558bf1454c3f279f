use Rattle.std.proofs.Common.{◌≡◌, map, take}
use Rattle.flow_types.specs.Names.{names_in}
use Rattle.flow_types.specs.Mapped.{columns_set}
use Rattle.flow_types.proofs.mapped.names_set.Given as goal

abbrev pub invariant-loop-setting : goal.invariant-loop-setting
invariant-loop-setting l = map (λ t. t.now) l.names.items ≡ names_in (columns_set (take l.setting-index l.settings))
