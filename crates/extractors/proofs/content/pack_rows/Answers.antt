use Rattle.std.proofs.Common.{Err, length, sym, ap, ◌∙◌, arith}
use Rattle.extractors.proofs.PackLemmas.{packed_more, packed_stops, packed_all}
use Rattle.extractors.proofs.content.pack_rows.Goals as goal

pub loop-row-preserved : goal.loop-row-preserved
loop-row-preserved c =
    let next = rw c.if-branch.true at c.in_ok-next_record.ensures.next in
    let shorter = ap (λ rs. length rs) next in
    record {
      running = c.in_ok-next_record.ensures.goes_on;
      so_far = packed_more _ _ _ _ _ _ _ _ _ next c.in-Ok.ensures.rows c.loop-row.invariant.so_far;
      few = omega arith;
      columns = c.pack_record.ensures.columns;
      none_begun = c.in-Ok.ensures.none_begun;
    }

pub returns-in-Err-Fault-clause-rows : goal.returns-in-Err-Fault-clause-rows
returns-in-Err-Fault-clause-rows c =
    let next = rw c.if-branch.true at c.in_ok-next_record.ensures.next in
    let bad = rw c.in-Err-Fault.field-0-is at c.in-Err-Fault.ensures.rows in
    packed_stops _ _ _ _ _ _ _ _ _ next bad c.loop-row.invariant.so_far ∙ ap (λ f. Err f) (sym c.at.ensures)

pub returns-clause-rows : goal.returns-clause-rows
returns-clause-rows c =
    let none = rw c.if-branch.false at c.in_ok-next_record.ensures.next in
    packed_all _ _ _ _ _ _ none c.loop-row.invariant.so_far
