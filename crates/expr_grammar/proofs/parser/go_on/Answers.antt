use Rattle.std.proofs.Common.{slice_range, slice_index}
use Rattle.expr_grammar.proofs.Ranges.{range_more}
use Rattle.expr_grammar.proofs.ScanLemmas.{scanned_more}
use Rattle.expr_grammar.proofs.parser.go_on.Goals as goal

pub returns-then-begins-clause-scanned : goal.returns-then-begins-clause-scanned
returns-then-begins-clause-scanned c =
    let text = c.args.text.now in
    let at = c.args.at in
    let start = c.args.token.start in
    let more = range_more text start at c.requires.before c.requires.inside in
    rw (c.next-scan.ensures, more)
    (scanned_more c.args.token.scan (slice_range text start at) (slice_index text at) c.requires.scanned c.requires.goes_on)
