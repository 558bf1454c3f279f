use Rattle.std.proofs.Common.{◌≡◌, map, option_map}
use Rattle.list_algebra.specs.Joins.{below}
use Rattle.flow_types.specs.Assigned.{set_at}
use Rattle.kind_laws.proofs.mapping.values_set.Given as goal

abbrev pub invariant-loop-place : goal.invariant-loop-place
invariant-loop-place l = record {
  values : map (option_map (λ x. x.now)) l.values.items ≡ map (set_at l.sets) (below l.place);
}
