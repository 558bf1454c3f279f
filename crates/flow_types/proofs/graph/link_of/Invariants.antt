use Rattle.std.proofs.Common.{◌≡◌, ◌<◌, map, take, drop, filter_map, length, All}
use Rattle.flow_types.specs.Names.{unknown, place_of}
use Rattle.flow_types.proofs.graph.link_of.Given as goal

abbrev pub invariant-loop-name : goal.invariant-loop-name
invariant-loop-name l = record {
  inputs : l.inputs.items ≡ filter_map (place_of l.places) (map (λ n. n.now) (take l.name-index l.name-items));
  known : unknown l.places (map (λ n. n.now) l.name-items) ≡ unknown l.places (map (λ n. n.now) (drop l.name-index l.name-items));
  within : All (λ input. input < length l.places) l.inputs.items;
}
