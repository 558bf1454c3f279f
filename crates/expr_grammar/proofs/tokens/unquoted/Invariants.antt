use Rattle.std.proofs.Common.{◌≡◌, ◌++◌, drop, true}
use Rattle.expr_grammar.specs.Tokens.{unquoted}
use Rattle.expr_grammar.proofs.tokens.unquoted.Given as goal

abbrev pub invariant-loop-byte : goal.invariant-loop-byte
invariant-loop-byte l = l.out.items ++ unquoted l.is_open (drop l.byte-index l.bytes) ≡ unquoted true l.bytes
