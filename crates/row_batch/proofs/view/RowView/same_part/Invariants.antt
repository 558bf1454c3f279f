use Rattle.std.proofs.Common.{◌≡◌, take}
use Rattle.tuple_schema.specs.Tuples.{part}
use Rattle.row_batch.proofs.view.RowView.same_part.Given as goal

abbrev pub invariant-loop-i : goal.invariant-loop-i
invariant-loop-i l = part l.self (take l.i l.cols) ≡ take l.i l.key
