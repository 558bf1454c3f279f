use Rattle.std.proofs.Common.{◌≡◌, filter_map, slice_get}
use Rattle.std.specs.List.{filter}
use Rattle.list_algebra.specs.Joins.{below}
use Rattle.flow_types.proofs.Pairs.{is_other}
use Rattle.flow_types.proofs.joined.other_columns.Given as goal

abbrev pub invariant-loop-place : goal.invariant-loop-place
invariant-loop-place l = l.columns.items ≡ filter_map (slice_get l.right) (filter (is_other l.cols) (below l.place))
