-- The index of a join: the numbers of the right rows that may agree with some, in the order of their join columns.
use Rattle.std.specs.Prelude.{ℕ, List, [], get_or, length, slice_get, ◌++◌, Option, option_map, Bool}
use Rattle.std.specs.List.{filter, list_all}
use Rattle.std.specs.List.Sorted.{IsPermutation, IsSortedBy, IsStableBy}
use Rattle.std.specs.Option.{option_cmp}
use Rattle.std.specs.Ordering.{is_lt}
use Rattle.std.specs.declared.cmp.Ordering.{Ordering}
use Rattle.tuple_schema.specs.declared.value.Value.{Value}
use Rattle.tuple_schema.specs.Schemas.{Fits}
use Rattle.tuple_schema.specs.declared.schema.Column.{Column}
use Rattle.tuple_schema.specs.Tuples.{part}
use Rattle.list_algebra.specs.Bags.{Tuple}
use Rattle.list_algebra.specs.Comparing.{compare_tuples}
use Rattle.list_algebra.specs.Joins.{below, is_given, together}

-- the row of a number
abbrev pub row_at : List Tuple → ℕ → Tuple
row_at rows number = get_or rows number []

-- the join columns of the row of a number, if there is one
abbrev pub key_at : List ℕ → List Tuple → ℕ → Option Tuple
key_at cols rows number = option_map (λ row. part row cols) (slice_get rows number)

-- keys in their order: none comes before all others
abbrev pub compare_keys : Option Tuple → Option Tuple → Ordering
compare_keys = option_cmp compare_tuples

-- a row comes before another one by its join columns
abbrev pub comes_before : List ℕ → List Tuple → ℕ → ℕ → Bool
comes_before cols rows m n = is_lt (compare_keys (key_at cols rows m) (key_at cols rows n))

-- the numbers of the rows with no Null in a join column, ascending
abbrev pub given_rows : List ℕ → List Tuple → List ℕ
given_rows cols rows = filter (λ n. list_all is_given (part (row_at rows n) cols)) (below (length rows))

-- those numbers in the order of the join columns, and where these are equal as before
pub record IsIndex (cols : List ℕ) (rows : List Tuple) (numbers : List ℕ) : Type 0 where
  pub all : IsPermutation (given_rows cols rows) numbers
  pub sorted : IsSortedBy (comes_before cols rows) numbers
  pub stable : IsStableBy (comes_before cols rows) (given_rows cols rows) numbers

-- the values may stand in the columns behind those of the row that is begun: some row that fits begins so
pub record FitBehind (columns : List Column) (begun values : List Value) : Type 0 where
  pub behind : List Value
  pub fits : Fits columns (begun ++ values ++ behind)

-- the left row with each right row that fits its columns, together, fits these columns
abbrev pub PairsFit : List Column → List ℕ → Tuple → List Column → Type 0
PairsFit columns_right rest left columns =
    (right : Tuple) → Fits columns_right right → Fits columns (together rest left right)
