use Rattle.std.proofs.Common.{◌≡◌, ℕ, List, [], length, All}
use Rattle.list_algebra.specs.Bags.{Tuple}
use Rattle.kind_laws.specs.Accumulators.{Stands}
use Rattle.kind_laws.proofs.making.begin.Given as goal

abbrev pub invariant-loop : goal.invariant-loop
invariant-loop l = record {
  count : length l.each.items ≡ l.counter;
  each : (column : ℕ) (all : List Tuple) → All (λ held. Stands l.what column all held []) l.each.items;
}
