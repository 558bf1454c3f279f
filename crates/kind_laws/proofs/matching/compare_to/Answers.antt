use Rattle.std.proofs.Common.{Some, sym, ap, arith}
use Rattle.tuple_schema.specs.Tuples.{part}
use Rattle.kind_laws.specs.Indexes.{compare_keys}
use Rattle.kind_laws.proofs.Keyed.{within_row, key_past}
use Rattle.kind_laws.proofs.matching.compare_to.Goals as goal

pub compare_parts-requires-clause-left : goal.compare_parts-requires-clause-left
compare_parts-requires-clause-left c = within_row c.args.rights.now.columns c.row.result c.args.cols_right.now c.row.ensures.fits c.requires.right

pub returns-else-number-len : goal.returns-else-number-len
returns-else-number-len c =
    let past = key_past c.args.cols_right.now c.args.rights.now.rows c.args.number (omega (arith, c.len.ensures.len, c.if-number-len.false)) in
    sym (ap (λ k. compare_keys k (Some (part c.args.left.now c.args.cols_left.now))) past)
