use Rattle.std.proofs.Common.{Err, length, sym, ap, ◌∙◌, arith}
use Rattle.extractors.proofs.CheckLemmas.{rows_more, rows_stop, rows_end}
use Rattle.extractors.proofs.check.check_rows.Goals as goal

pub loop-row-preserved : goal.loop-row-preserved
loop-row-preserved c =
    let next = rw c.if-branch.true at c.in_ok-next_record.ensures.next in
    let shorter = ap (λ rs. length rs) next in
    record {
      running = c.in_ok-next_record.ensures.goes_on;
      so_far = rows_more _ _ _ _ _ _ next c.in-Ok.ensures c.loop-row.invariant.so_far;
      few = omega arith;
    }

pub returns-in-Err : goal.returns-in-Err
returns-in-Err c =
    let next = rw c.if-branch.true at c.in_ok-next_record.ensures.next in
    rows_stop _ _ _ _ _ _ _ next c.in-Err.ensures c.loop-row.invariant.so_far ∙ ap (λ f. Err f) (sym c.at.ensures)

pub returns : goal.returns
returns c =
    let none = rw c.if-branch.false at c.in_ok-next_record.ensures.next in
    rows_end _ _ _ _ none c.loop-row.invariant.so_far
