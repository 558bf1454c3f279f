use Rattle.std.proofs.Common.{◌≡◌, true, reverse, sym, ap, ◌∙◌}
use Rattle.expr_grammar.specs.Machine.{at_mode}
use Rattle.expr_grammar.specs.Tokens.{is_number}
use Rattle.expr_grammar.specs.Scans.{is_whole_number}
use Rattle.expr_grammar.proofs.Past.{past_number_is, given_at}
use Rattle.expr_grammar.proofs.ScanLemmas.{number_whole}
use Rattle.expr_grammar.proofs.parser.past.Goals as goal

pub returns-then-is_number : goal.returns-then-is_number
returns-then-is_number c =
    let fs = reverse c.args.frames.now.items in
    let w = c.args.token.now in
    let number : is_number w ≡ true =
    number_whole w ∙ ap is_whole_number (sym c.requires.scanned) ∙ sym c.is_number.ensures ∙ c.if-is_number.true in
    given_at _ c.past_number.result _ _ (past_number_is c.args.at (at_mode c.args.mode fs) w number) (c.past_number.ensures fs)
