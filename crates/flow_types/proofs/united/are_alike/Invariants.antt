use Rattle.std.proofs.Common.{◌≡◌, drop}
use Rattle.flow_types.specs.United.{are_alike}
use Rattle.flow_types.proofs.united.are_alike.Given as goal

abbrev pub invariant-loop-place : goal.invariant-loop-place
invariant-loop-place l = are_alike l.first l.other ≡ are_alike (drop l.place l.first) (drop l.place l.other)
