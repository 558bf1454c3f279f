use Rattle.std.proofs.Common.{◌≡◌, drop}
use Rattle.tuple_schema.specs.Tuples.{part}
use Rattle.list_algebra.specs.Comparing.{compare_tuples}
use Rattle.kind_laws.proofs.sorted.compare_parts.Given as goal

abbrev pub invariant-loop-i : goal.invariant-loop-i
invariant-loop-i l = compare_tuples (part l.left (drop l.i l.cols_left)) (part l.right (drop l.i l.cols_right)) ≡ compare_tuples (part l.left l.cols_left) (part l.right l.cols_right)
