use Rattle.std.proofs.Common.{◌≡◌, map, take}
use Rattle.flow_types.specs.Joined.{as_nullable}
use Rattle.flow_types.proofs.joined.as_nullable.Given as goal

abbrev pub invariant-loop-column : goal.invariant-loop-column
invariant-loop-column l = l.all.items ≡ map as_nullable (take l.column-index l.columns)
