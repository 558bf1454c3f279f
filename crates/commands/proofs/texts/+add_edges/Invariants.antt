use Rattle.std.proofs.Common.{length}
use Rattle.commands.proofs.texts.+add_edges.Given as goal

abbrev pub decreases-add_edges : goal.decreases-add_edges
decreases-add_edges l = length l.edges.now
