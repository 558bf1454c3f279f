use Rattle.std.proofs.Common.{◌≡◌, Ok, All, take}
use Rattle.flow_types.specs.Each.{each_made}
use Rattle.flow_types.specs.Mapped.{setting_of}
use Rattle.flow_types.specs.Assigned.{HoldsValue}
use Rattle.flow_types.proofs.mapped.settings_of.Given as goal

abbrev pub invariant-loop-text : goal.invariant-loop-text
invariant-loop-text l = record {
  made : each_made (setting_of l.input) (take l.text-index l.texts) ≡ Ok l.settings.items;
  hold : All (λ s. HoldsValue l.input s.value s.column) l.settings.items;
}
