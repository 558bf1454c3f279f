use Rattle.std.proofs.Common.{length}
use Rattle.expr_grammar.proofs.reader.+levels.Given as goal

abbrev pub decreases-levels : goal.decreases-levels
decreases-levels l = length l.frames.now
