use Rattle.expr_grammar.proofs.reader.take_operand.Goals as goal

pub returns-in-Infix : goal.returns-in-Infix
returns-in-Infix c = rw c.in-Infix.is (c.take_minus.ensures _)
