use Rattle.std.proofs.Common.{length}
use Rattle.expr_grammar.proofs.reader.+reduced_level.Given as goal

abbrev pub decreases-reduced_level : goal.decreases-reduced_level
decreases-reduced_level l = length l.frames.now
