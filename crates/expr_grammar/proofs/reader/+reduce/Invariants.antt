use Rattle.std.proofs.Common.{vec_len}
use Rattle.expr_grammar.proofs.reader.+reduce.Given as goal

abbrev pub decreases-reduce : goal.decreases-reduce
decreases-reduce l = vec_len l.frames.now
