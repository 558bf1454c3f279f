use Rattle.std.proofs.Common.{◌≡◌, ◌-◌, ◌||◌, ℕ, take, get_or, length, false}
use Rattle.flow_types.specs.Trees.{tree_below}
use Rattle.flow_types.proofs.Reached.{is_in_all}
use Rattle.flow_types.proofs.graph.+reach.Given as goal

abbrev pub decreases-reach : goal.decreases-reach
decreases-reach l = l.depth

abbrev pub invariant-loop-input : goal.invariant-loop-input
invariant-loop-input l = record {
  len : length l.reached ≡ length l.initial.reached;
  marked : (k : ℕ) → get_or l.reached k false ≡ (get_or l.initial.reached k false || is_in_all (tree_below l.links (l.depth - 1)) (take l.input-index l.input-items) k);
}
