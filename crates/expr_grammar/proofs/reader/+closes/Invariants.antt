use Rattle.std.proofs.Common.{length}
use Rattle.expr_grammar.proofs.reader.+closes.Given as goal

abbrev pub decreases-closes : goal.decreases-closes
decreases-closes l = length l.frames.now
