use Rattle.std.proofs.Common.{◌+◌, ◌*◌, max}
use Rattle.expr_grammar.proofs.expr.Expr.TheLaws.{the_size}
use Rattle.expr_lang.proofs.evaluation.+evaluation.Given as goal

abbrev pub decreases-evaluate : goal.decreases-evaluate
decreases-evaluate g l = 2 * the_size l.expr.now

abbrev pub decreases-changed : goal.decreases-changed
decreases-changed g l = 2 * the_size l.a.now + 1

abbrev pub decreases-infix : goal.decreases-infix
decreases-infix g l = 2 * max (the_size l.a.now) (the_size l.b.now) + 1

abbrev pub decreases-first_value : goal.decreases-first_value
decreases-first_value g l = 2 * max (the_size l.a.now) (the_size l.b.now) + 1

abbrev pub decreases-branch : goal.decreases-branch
decreases-branch g l = 2 * max (the_size l.c.now) (max (the_size l.a.now) (the_size l.b.now)) + 1
