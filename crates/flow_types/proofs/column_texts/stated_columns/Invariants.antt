use Rattle.std.proofs.Common.{◌≡◌, map, take}
use Rattle.flow_types.specs.Columns.{stated_column}
use Rattle.flow_types.proofs.column_texts.stated_columns.Given as goal

abbrev pub invariant-loop-text : goal.invariant-loop-text
invariant-loop-text l = l.columns.items ≡ map stated_column (take l.text-index l.texts)
