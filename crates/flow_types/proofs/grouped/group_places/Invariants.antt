use Rattle.std.proofs.Common.{◌≡◌, Ok, take}
use Rattle.flow_types.specs.Grouped.{group_places}
use Rattle.flow_types.proofs.grouped.group_places.Given as goal

abbrev pub invariant-loop-name : goal.invariant-loop-name
invariant-loop-name l = group_places l.columns (take l.name-index l.by) ≡ Ok l.places.items
