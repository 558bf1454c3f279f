use Rattle.std.proofs.Common.{◌≡◌, ◌<◌, ℕ, get_or, Some, true, is_le}
use Rattle.tuple_schema.specs.Tuples.{part}
use Rattle.kind_laws.specs.Indexes.{compare_keys, key_at}
use Rattle.kind_laws.proofs.matching.run_length.Given as goal

abbrev pub invariant-loop-i : goal.invariant-loop-i
invariant-loop-i l =
    (k : ℕ) → k < l.i → is_le (compare_keys (key_at l.cols_right l.rights.rows (get_or l.numbers k 0)) (Some (part l.left l.cols_left))) ≡ true
