use Rattle.row_batch.proofs.Fronts.{Walked}
use Rattle.row_batch.proofs.packing.append_places.Given as goal

abbrev pub invariant-loop-column : goal.invariant-loop-column
invariant-loop-column l = Walked l.columns l.front l.column-index l.len l.fn.places.items l.places.items
