use Rattle.flow_types.proofs.expressions.expression_of.Goals as goal

pub returns-in-Ok-clause-leaves : goal.returns-in-Ok-clause-leaves
returns-in-Ok-clause-leaves c = c.value_laws.ensures.leaves c.args.text.now c.in-Ok.expression c.in-Ok.ensures.found
