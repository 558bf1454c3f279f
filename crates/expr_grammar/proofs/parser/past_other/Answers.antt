use Rattle.std.proofs.Common.{true, reverse}
use Rattle.expr_grammar.specs.Machine.{at_mode}
use Rattle.expr_grammar.proofs.Past.{past_by, given_at, kind_number, kind_text}
use Rattle.expr_grammar.proofs.parser.past_other.Goals as goal

pub take-requires-clause-number : goal.take-requires-clause-number
take-requires-clause-number c = kind_number c.kind_of.result c.args.token.now c.kind_of.ensures c.requires.number

pub take-requires-clause-text : goal.take-requires-clause-text
take-requires-clause-text c = kind_text c.kind_of.result c.args.token.now c.kind_of.ensures c.requires.text

pub returns : goal.returns
returns c =
    let s = at_mode c.args.mode (reverse c.args.frames.now.items) in
    given_at _ c.led.result _ _
    (past_by true c.args.at s c.args.token.now c.kind_of.result _ c.requires.some c.kind_of.ensures c.in_ok-next.ensures) (rw c.deref.ensures.value at c.led.ensures)
