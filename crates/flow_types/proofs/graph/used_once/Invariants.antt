use Rattle.std.proofs.Common.{◌≡◌, ◌<◌, ℕ, nat_lt, false}
use Rattle.flow_types.specs.Graph.{uses_of}
use Rattle.flow_types.proofs.graph.used_once.Given as goal

abbrev pub invariant-loop-place : goal.invariant-loop-place
invariant-loop-place l = (k : ℕ) → k < l.place → nat_lt 1 (uses_of l.root l.links k) ≡ false
