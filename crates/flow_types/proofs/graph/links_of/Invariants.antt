use Rattle.std.proofs.Common.{◌≡◌, ◌<◌, ℕ, false, is_some, take, length, vec_len, All}
use Rattle.flow_types.specs.Graph.{links_of, names_of, needs_of, input_fault}
use Rattle.flow_types.proofs.graph.links_of.Given as goal

abbrev pub invariant-loop-place : goal.invariant-loop-place
invariant-loop-place l = record {
  links : l.links.items ≡ take l.place (links_of l.raw);
  there : (k : ℕ) → k < l.place → is_some (input_fault (names_of l.raw) (needs_of l.raw) k) ≡ false;
  within : All (λ link. All (λ input. input < length l.places) link) l.links.items;
  len : vec_len l.links ≡ l.place;
}
