use Rattle.std.proofs.Common.{[], reverse, slice_range, refl, arith, true}
use Rattle.std.proofs.lemmas.Result.{err_from_is_err_and}
use Rattle.expr_grammar.specs.Machine.{at_mode, read, start}
use Rattle.expr_grammar.proofs.ScanLemmas.{scanned_none}
use Rattle.expr_grammar.proofs.Turns.{turn, turn_fails}
use Rattle.expr_grammar.proofs.parser.read_all.Goals as goal

pub loop-at-init : goal.loop-at-init
loop-at-init c = record { before = omega arith; scanned = scanned_none; same = rw c.new-frames.ensures.items refl }

pub loop-at-preserved : goal.loop-at-preserved
loop-at-preserved c = record {
  before = c.in_ok-next.ensures.within;
  scanned = c.in_ok-next.ensures.scanned;
  same =
      turn c.args.text.now c.loop-at.at (at_mode c.loop-at.mode (reverse c.loop-at.frames.items)) _
      (slice_range c.args.text.now c.loop-at.token.start c.loop-at.at) _ _ (omega arith) c.in_ok-next.ensures.stepped c.loop-at.invariant.same;
}

pub returns-in_err-next : goal.returns-in_err-next
returns-in_err-next c =
    let p = err_from_is_err_and c.from_residual.result c.from_residual.ensures.1 in
    rw (p.1, p.2)
    (turn_fails c.args.text.now c.loop-at.at (at_mode c.loop-at.mode (reverse c.loop-at.frames.items))
    (slice_range c.args.text.now c.loop-at.token.start c.loop-at.at) (read true 0 start [] c.args.text.now) c.in_err-next.field-0.0 (omega arith)
    c.in_err-next.ensures.stepped c.loop-at.invariant.same)
