-- Rows in ascending order.
use Rattle.std.specs.Prelude.{ℕ, List, [], ◌∷◌, ◌++◌, Bool, if◌then◌else◌}
use Rattle.std.specs.Ordering.{is_lt}
use Rattle.tuple_schema.specs.Tuples.{part}
use Rattle.list_algebra.specs.Bags.{Tuple}
use Rattle.list_algebra.specs.Comparing.{compare_tuples}
use Rattle.list_algebra.specs.Joins.{others}

-- a row comes before another one by its values in these columns
abbrev pub comes_before : List ℕ → Tuple → Tuple → Bool
comes_before cols t u = is_lt (compare_tuples (part t cols) (part u cols))

-- ascending rows, and one more: it stands before those that don't come before it
abbrev pub put : List ℕ → Tuple → List Tuple → List Tuple
put cols t [] = t ∷ []
put cols t (first ∷ rest) = if comes_before cols first t then first ∷ put cols t rest else t ∷ first ∷ rest

-- the rows, ascending by these columns; rows that have equal values there stay in their order
abbrev pub ascending : List ℕ → List Tuple → List Tuple
ascending cols [] = []
ascending cols (first ∷ rest) = put cols first (ascending cols rest)

-- rows of so many columns, ascending by these columns, then by the others in their order
abbrev pub sort : ℕ → List ℕ → List Tuple → List Tuple
sort count cols rows = ascending (cols ++ others count cols) rows
