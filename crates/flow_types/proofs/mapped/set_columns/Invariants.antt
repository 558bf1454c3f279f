use Rattle.std.proofs.Common.{◌≡◌, ◌++◌, map, take}
use Rattle.std.specs.List.{filter}
use Rattle.flow_types.specs.Names.{names_in}
use Rattle.flow_types.specs.Mapped.{replaced, columns_set, is_new}
use Rattle.flow_types.proofs.mapped.set_columns.Given as goal

abbrev pub invariant-loop-setting : goal.invariant-loop-setting
invariant-loop-setting l =
    l.columns.items ≡ map (replaced l.settings) l.input ++ columns_set (filter (is_new (names_in l.input)) (take l.setting-index l.settings))
