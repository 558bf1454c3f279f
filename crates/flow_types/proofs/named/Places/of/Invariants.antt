use Rattle.std.proofs.Common.{◌≡◌, ◌<◌, ℕ, map, take, false}
use Rattle.std.specs.List.{range_with_len}
use Rattle.indexmap.specs.IndexMap.{keys, values}
use Rattle.flow_types.specs.Names.{is_again}
use Rattle.flow_types.proofs.named.Places.of.Given as goal

abbrev pub invariant-loop-place : goal.invariant-loop-place
invariant-loop-place l = record {
  names : map (λ name. name.now) (keys l.places) ≡ map (λ n. n.now) (take l.place l.names);
  numbers : values l.places ≡ range_with_len 0 l.place;
  differ : (k : ℕ) → k < l.place → is_again (map (λ n. n.now) l.names) k ≡ false;
}
