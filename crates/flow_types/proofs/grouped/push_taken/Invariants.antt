use Rattle.std.proofs.Common.{◌≡◌, ◌++◌, take, filter_map, slice_get}
use Rattle.flow_types.proofs.grouped.push_taken.Given as goal

abbrev pub invariant-loop-place : goal.invariant-loop-place
invariant-loop-place l = l.columns.items ≡ l.initial.columns.items ++ filter_map (slice_get l.input) (take l.place-index l.places)
