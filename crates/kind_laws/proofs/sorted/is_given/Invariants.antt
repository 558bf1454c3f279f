use Rattle.std.proofs.Common.{◌≡◌, drop}
use Rattle.std.specs.List.{list_all}
use Rattle.tuple_schema.specs.Tuples.{part}
use Rattle.list_algebra.specs.Joins.{is_given}
use Rattle.kind_laws.proofs.sorted.is_given.Given as goal

abbrev pub invariant-loop-col : goal.invariant-loop-col
invariant-loop-col l = list_all is_given (part l.row (drop l.col-index l.cols)) ≡ list_all is_given (part l.row l.cols)
