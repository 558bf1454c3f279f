use Rattle.std.proofs.Common.{◌≡◌, take}
use Rattle.flow_types.specs.Paired.{lefts}
use Rattle.flow_types.proofs.paired.lefts.Given as goal

abbrev pub invariant-loop-pair : goal.invariant-loop-pair
invariant-loop-pair l = l.places.items ≡ lefts (take l.pair-index l.pairs)
