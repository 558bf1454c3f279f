use Rattle.std.proofs.Common.{◌≡◌, Ok, take}
use Rattle.flow_types.specs.Makes.{makes_of}
use Rattle.flow_types.proofs.grouped.makes_of.Given as goal

abbrev pub invariant-loop-text : goal.invariant-loop-text
invariant-loop-text l = makes_of l.columns (take l.text-index l.texts) ≡ Ok l.makes
