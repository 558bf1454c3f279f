use Rattle.std.proofs.Common.{◌≡◌, map, take}
use Rattle.tuple_schema.specs.Texts.{head_of}
use Rattle.flow_types.proofs.paired.left_names.Given as goal

abbrev pub invariant-loop-text : goal.invariant-loop-text
invariant-loop-text l = l.names.items ≡ map head_of (take l.text-index l.texts)
