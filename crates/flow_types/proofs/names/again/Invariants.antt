use Rattle.std.proofs.Common.{◌≡◌, ◌<◌, ℕ, map, false}
use Rattle.flow_types.specs.Names.{is_again}
use Rattle.flow_types.proofs.names.again.Given as goal

abbrev pub invariant-loop-place : goal.invariant-loop-place
invariant-loop-place l = (k : ℕ) → k < l.place → is_again (map (λ n. n.now) l.names) k ≡ false
