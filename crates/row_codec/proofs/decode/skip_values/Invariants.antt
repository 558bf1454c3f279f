use Rattle.std.proofs.Common.{◌≡◌, drop}
use Rattle.row_codec.specs.Decoding.{row_at}
use Rattle.row_codec.proofs.ReadingLoop.{left}
use Rattle.row_codec.proofs.decode.skip_values.Given as goal

abbrev pub invariant-loop-column : goal.invariant-loop-column
invariant-loop-column l = left (row_at (drop l.column-index l.columns) l.rest) ≡ left (row_at l.columns l.bytes)
