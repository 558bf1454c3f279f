-- Keys of lists.
use Rattle.std.specs.Prelude.{ℕ, List, map}
use Rattle.std.specs.List.{IsDistinct}
use Rattle.tuple_schema.specs.Tuples.{part}
use Rattle.list_algebra.specs.Bags.{Tuple, same}

-- the tuples' values in the columns
abbrev pub parts : List ℕ → List Tuple → List Tuple
parts cols rows = map (λ t. part t cols) rows

-- no two tuples of the list have the same values in the columns
abbrev pub KeepsKey : List ℕ → List Tuple → Type 0
KeepsKey cols rows = IsDistinct same (parts cols rows)
