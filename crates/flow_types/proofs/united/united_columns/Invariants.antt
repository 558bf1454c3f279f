use Rattle.std.proofs.Common.{◌≡◌, map, take}
use Rattle.flow_types.specs.Flows.{columns_of}
use Rattle.flow_types.specs.United.{united_from}
use Rattle.flow_types.proofs.united.united_columns.Given as goal

abbrev pub invariant-loop-place : goal.invariant-loop-place
invariant-loop-place l = l.columns.items ≡ united_from (columns_of (map (λ n. n.now) l.inputs)) 0 (take l.place l.first)
