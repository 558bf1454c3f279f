use Rattle.std.proofs.Common.{◌≡◌, Ok, take}
use Rattle.flow_types.specs.Each.{each_made}
use Rattle.flow_types.specs.Names.{names_in}
use Rattle.flow_types.specs.Paired.{pair_of}
use Rattle.flow_types.proofs.paired.known_pairs.Given as goal

abbrev pub invariant-loop-text : goal.invariant-loop-text
invariant-loop-text l = each_made (pair_of (names_in l.left) (names_in l.right)) (take l.text-index l.texts) ≡ Ok l.pairs.items
