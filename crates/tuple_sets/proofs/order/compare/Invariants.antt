use Rattle.std.proofs.Common.{◌≡◌, drop}
use Rattle.tuple_sets.specs.Order.{tuple_cmp}
use Rattle.tuple_sets.proofs.order.compare.Given as goal

abbrev pub invariant-loop-i : goal.invariant-loop-i
invariant-loop-i g l =
    tuple_cmp l.tuple (g.F.Fields.tuple l.row) ≡ tuple_cmp (drop l.i l.tuple) (drop l.i (g.F.Fields.tuple l.row))
