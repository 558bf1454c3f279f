use Rattle.std.proofs.Common.{◌≡◌, ◌++◌, take}
use Rattle.tuple_schema.specs.Tuples.{part}
use Rattle.row_codec.specs.Rows.{row_bytes}
use Rattle.kind_laws.proofs.keys.append_part.Given as goal

abbrev pub invariant-loop-col : goal.invariant-loop-col
invariant-loop-col l = l.into.items ≡ l.initial.into.items ++ row_bytes (part l.row (take l.col-index l.cols))
