use Rattle.std.proofs.Common.{◌≡◌, ◌∷◌, take}
use Rattle.std.specs.List.{concat}
use Rattle.flow_types.proofs.graph.all_uses.Given as goal

abbrev pub invariant-loop-link : goal.invariant-loop-link
invariant-loop-link l = l.uses.items ≡ l.root ∷ concat (take l.link-index l.links)
