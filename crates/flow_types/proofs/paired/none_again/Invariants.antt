use Rattle.std.proofs.Common.{◌≡◌, ◌<◌, ℕ, map, false, is_some}
use Rattle.flow_types.specs.Paired.{paired_again}
use Rattle.flow_types.proofs.paired.none_again.Given as goal

abbrev pub invariant-loop-place : goal.invariant-loop-place
invariant-loop-place l = (k : ℕ) → k < l.place → is_some (paired_again (map (λ n. n.now) l.lefts) (map (λ n. n.now) l.rights) k) ≡ false
