use Rattle.std.proofs.Common.{sym, ◌∙◌, arith}
use Rattle.expr_grammar.proofs.Numbers.{if_too_large}
use Rattle.expr_grammar.proofs.tokens.digits_of.Goals as goal

pub returns-in_err-checked_mul-clause-large : goal.returns-in_err-checked_mul-clause-large
returns-in_err-checked_mul-clause-large c =
    if_too_large c.from_residual.result c.args.token.now c.loop-byte.byte-index c.loop-byte.number c.loop-byte-test.true
    (sym c.is_digit.ensures ∙ c.if-is_digit.true) c.loop-byte.invariant (let large = c.in_err-checked_mul.ensures in omega (arith, large))

pub returns-in_err-number-clause-large : goal.returns-in_err-number-clause-large
returns-in_err-number-clause-large c =
    if_too_large c.from_residual-in_err-number.result c.args.token.now c.loop-byte.byte-index c.loop-byte.number c.loop-byte-test.true
    (sym c.is_digit.ensures ∙ c.if-is_digit.true) c.loop-byte.invariant
    (let large = c.in_err-number.ensures in let more = c.in_ok-checked_mul.ensures in let digit = c.from.ensures in omega (arith, large, more, digit))
