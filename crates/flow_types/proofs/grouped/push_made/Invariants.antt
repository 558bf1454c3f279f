use Rattle.std.proofs.Common.{◌≡◌, ◌++◌, take}
use Rattle.flow_types.specs.Makes.{made_columns}
use Rattle.flow_types.proofs.grouped.push_made.Given as goal

abbrev pub invariant-loop-place : goal.invariant-loop-place
invariant-loop-place l = l.columns.items ≡ l.initial.columns.items ++ made_columns l.input (take l.place l.texts) (take l.place l.makes)
