-- Equal tuples as one, and the groups of rows.
use Rattle.std.specs.Prelude.{ℕ, List, [], ◌∷◌, ◌++◌, map, Bool, not}
use Rattle.std.specs.List.{filter}
use Rattle.tuple_schema.specs.Tuples.{part}
use Rattle.list_algebra.specs.Bags.{Tuple, same}
use Rattle.list_algebra.specs.Keys.{parts}

-- the first of each equal tuple, in their order
abbrev pub distinct : List Tuple → List Tuple
distinct [] = []
distinct (first ∷ rest) = first ∷ filter (λ t. not (same first t)) (distinct rest)

-- the groups of the rows by these columns, in the order in which they appear: the values that some row has there
abbrev pub groups : List ℕ → List Tuple → List Tuple
groups cols rows = distinct (parts cols rows)

-- the rows of a group, in their order: those that have its values in these columns
abbrev pub members : List ℕ → List Tuple → Tuple → List Tuple
members cols rows group = filter (λ t. same group (part t cols)) rows

-- of each of these groups its values, and behind them what is made of its rows
abbrev pub each_group : (List Tuple → Tuple) → List ℕ → List Tuple → List Tuple → List Tuple
each_group make cols rows those = map (λ group. group ++ make (members cols rows group)) those
