use Rattle.std.proofs.Common.{◌≡◌, take}
use Rattle.tuple_schema.specs.Tuples.{part}
use Rattle.row_batch.proofs.view.RowView.part.Given as goal

abbrev pub invariant-loop-col : goal.invariant-loop-col
invariant-loop-col l = l.values.items ≡ part l.self (take l.col-index l.cols)
