use Rattle.std.proofs.Common.{◌≡◌, take}
use Rattle.flow_types.specs.Paired.{rights}
use Rattle.flow_types.proofs.paired.rights.Given as goal

abbrev pub invariant-loop-pair : goal.invariant-loop-pair
invariant-loop-pair l = l.places.items ≡ rights (take l.pair-index l.pairs)
