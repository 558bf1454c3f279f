use Rattle.std.proofs.Common.{◌≡◌, take}
use Rattle.tuple_sets.proofs.runs.Runs.copy.Given as goal

abbrev pub invariant-loop-entry : goal.invariant-loop-entry
invariant-loop-entry l = l.entries.items ≡ take l.entry-index l.self-inside.entries.items
