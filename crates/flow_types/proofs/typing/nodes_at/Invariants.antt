use Rattle.std.proofs.Common.{◌≡◌, map, filter_map, slice_get, take, vec_len}
use Rattle.flow_types.proofs.typing.nodes_at.Given as goal

abbrev pub invariant-loop-place : goal.invariant-loop-place
invariant-loop-place l = record {
  nodes : map (λ n. n.now) l.found.items ≡ filter_map (slice_get l.nodes) (take l.place-index l.places);
  len : vec_len l.found ≡ l.place-index;
}
