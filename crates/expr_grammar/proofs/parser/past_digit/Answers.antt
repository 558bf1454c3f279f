use Rattle.expr_grammar.specs.Machine.{at_mode}
use Rattle.expr_grammar.specs.declared.state.Kind.TheVariants as kind
use Rattle.expr_grammar.proofs.Past.{digit_some, digit_none}
use Rattle.expr_grammar.proofs.parser.past_digit.Goals as goal

pub returns-in-Some : goal.returns-in-Some
returns-in-Some c = λ fs. digit_some c.args.at c.args.token.now c.args.operand fs (at_mode c.in-Some.mode fs) (c.in-Some.ensures fs kind.Number)

pub returns-in-None : goal.returns-in-None
returns-in-None c = λ fs. rw c.unexpected.ensures (digit_none c.args.at c.args.token.now _ c.requires.number (c.in-None.ensures fs kind.Number))
