use Rattle.std.proofs.Common.{◌≡◌, ◌<◌, map, take, drop, filter_map, length, All}
use Rattle.flow_types.specs.Names.{unknown, place_of}
use Rattle.flow_types.proofs.names.places_of.Given as goal

abbrev pub invariant-loop-name : goal.invariant-loop-name
invariant-loop-name l = record {
  places : l.places.items ≡ filter_map (place_of (map (λ n. n.now) l.names)) (map (λ n. n.now) (take l.name-index l.wanted));
  within : All (λ place. place < length l.names) l.places.items;
  known : unknown (map (λ n. n.now) l.names) (map (λ n. n.now) l.wanted) ≡ unknown (map (λ n. n.now) l.names) (map (λ n. n.now) (drop l.name-index l.wanted));
}
