use Rattle.std.proofs.Common.{◌<◌, length}
use Rattle.tuple_sets.proofs.join.first_joined.Given as goal

abbrev pub invariant-loop-run : goal.invariant-loop-run
invariant-loop-run l = l.run < length l.ends

abbrev pub decreases-loop-run : goal.decreases-loop-run
decreases-loop-run l = l.run
