use Rattle.std.proofs.Common.{◌≡◌, ◌≤◌, true, [], reverse, drop, slice_range}
use Rattle.expr_grammar.specs.Scans.{IsScanned}
use Rattle.expr_grammar.specs.Machine.{at_mode, read, start}
use Rattle.expr_grammar.proofs.parser.read_all.Given as goal

abbrev pub invariant-loop-at : goal.invariant-loop-at
invariant-loop-at l = record {
  before : l.token.start ≤ l.at;
  scanned : IsScanned l.token.scan (slice_range l.text l.token.start l.at);
  same : read true l.at (at_mode l.mode (reverse l.frames.items)) (slice_range l.text l.token.start l.at) (drop l.at l.text) ≡ read true 0 start [] l.text;
}
