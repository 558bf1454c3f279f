use Rattle.std.proofs.Common.{length}
use Rattle.expr_grammar.proofs.reader.+parts.Given as goal

abbrev pub decreases-parts : goal.decreases-parts
decreases-parts l = length l.frames.now
