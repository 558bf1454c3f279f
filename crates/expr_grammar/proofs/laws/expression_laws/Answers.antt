use Rattle.expr_grammar.proofs.Answering.{one_expression, one_fault, not_both, either, reads}
use Rattle.expr_grammar.proofs.laws.expression_laws.Goals as goal

pub returns-clause-one_expression : goal.returns-clause-one_expression
returns-clause-one_expression c = one_expression

pub returns-clause-one_fault : goal.returns-clause-one_fault
returns-clause-one_fault c = one_fault

pub returns-clause-not_both : goal.returns-clause-not_both
returns-clause-not_both c = not_both

pub returns-clause-either : goal.returns-clause-either
returns-clause-either c = either

pub returns-clause-reads : goal.returns-clause-reads
returns-clause-reads c = reads
