use Rattle.std.proofs.Common.{◌≡◌, ◌==◌, filter, not}
use Rattle.std.specs.List.{list_any}
use Rattle.list_algebra.specs.Joins.{below}
use Rattle.kind_laws.proofs.others.others.Given as goal

abbrev pub invariant-loop-place : goal.invariant-loop-place
invariant-loop-place l = l.places.items ≡ filter (λ place. not (list_any (λ c. c == place) l.cols)) (below l.place-counter)
