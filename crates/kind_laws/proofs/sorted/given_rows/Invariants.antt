use Rattle.std.proofs.Common.{◌≡◌, filter}
use Rattle.std.specs.List.{list_all}
use Rattle.tuple_schema.specs.Tuples.{part}
use Rattle.list_algebra.specs.Joins.{below, is_given}
use Rattle.kind_laws.specs.Indexes.{row_at}
use Rattle.kind_laws.proofs.sorted.given_rows.Given as goal

abbrev pub invariant-loop-number : goal.invariant-loop-number
invariant-loop-number l = l.numbers.items ≡ filter (λ n. list_all is_given (part (row_at l.rows.rows n) l.cols)) (below l.number)
