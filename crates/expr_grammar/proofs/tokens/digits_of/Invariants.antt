use Rattle.std.proofs.Common.{◌≡◌, drop, filter}
use Rattle.std.specs.Str.Parse.{digits_value_after}
use Rattle.tuple_schema.specs.Texts.{is_digit}
use Rattle.expr_grammar.specs.Tokens.{units}
use Rattle.expr_grammar.proofs.tokens.digits_of.Given as goal

abbrev pub invariant-loop-byte : goal.invariant-loop-byte
invariant-loop-byte l = digits_value_after 10 l.number (filter is_digit (drop l.byte-index l.token)) ≡ units l.token
