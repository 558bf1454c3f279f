use Rattle.std.proofs.Common.{◌∙◌, arith}
use Rattle.kind_laws.proofs.Keyed.{within_row, by_rows_left, by_rows_right}
use Rattle.kind_laws.proofs.sorted.compare_rows.Goals as goal
use Rattle.kind_laws.proofs.sorted.compare_rows.Goals.{else-one-len-via-then-one-len+else-other-len, else-one-len-via-else-one-len}

pub compare_parts-requires-clause-left : goal.compare_parts-requires-clause-left
compare_parts-requires-clause-left c = within_row c.args.rows.now.columns c.row.result c.args.cols.now c.row.ensures.fits c.requires

pub compare_parts-requires-clause-right : goal.compare_parts-requires-clause-right
compare_parts-requires-clause-right c = within_row c.args.rows.now.columns c.row-then-other-len.result c.args.cols.now c.row-then-other-len.ensures.fits c.requires

pub returns-else-one-len : goal.returns-else-one-len
returns-else-one-len c =
    let one = c.len-else-one-len.ensures.len in
    let other = c.len-else-one-len-2.ensures.len in
    elim c.else-one-len.branch [
      | else-one-len-via-then-one-len+else-other-len w ↦
          c.cmp.ensures ∙ by_rows_right c.args.cols.now c.args.rows.now.rows c.args.one c.args.other _ _ one other
          (omega (arith, c.len.ensures.len, w.if-one-len.true)) (omega (arith, w.len-then-one-len.ensures.len, w.if-other-len.false))
      | else-one-len-via-else-one-len w ↦
          c.cmp.ensures ∙ by_rows_left c.args.cols.now c.args.rows.now.rows c.args.one c.args.other _ _ one other
          (omega (arith, c.len.ensures.len, w.if-one-len.false))
    ]
