use Rattle.std.proofs.Common.{◌≡◌, map, take}
use Rattle.flow_types.specs.Names.{last_name}
use Rattle.flow_types.proofs.paired.right_names.Given as goal

abbrev pub invariant-loop-text : goal.invariant-loop-text
invariant-loop-text l = l.names.items ≡ map last_name (take l.text-index l.texts)
