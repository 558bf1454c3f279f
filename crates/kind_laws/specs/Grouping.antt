-- The groups of rows, numbered in the order in which they appear.
use Rattle.std.specs.Prelude.{◌≡◌, ℕ, ◌<◌, List, [], ◌++◌, length, map, get_or, slice_get, Some, All}
use Rattle.std.specs.List.{AllZip}
use Rattle.tuple_schema.specs.Tuples.{part}
use Rattle.list_algebra.specs.Bags.{Tuple}
use Rattle.list_algebra.specs.Groups.{groups, members}
use Rattle.flow_types.specs.declared.node.Make.{Make}
use Rattle.kind_laws.specs.Accumulators.{StandEach, rows_of}
use Rattle.kind_laws.specs.Indexes.{row_at}
use Rattle.kind_laws.specs.Makes.{made}
use Rattle.kind_laws.specs.declared.making.Accumulator.{Accumulator}

-- for each row the number of its group, and for each group the number of its first row
pub record IsGrouping (by : List ℕ) (rows : List Tuple) (group_of firsts : List ℕ) : Type 0 where
  pub counted : length group_of ≡ length rows
  pub within : All (λ g. g < length firsts) group_of
  pub firsts_within : All (λ n. n < length rows) firsts
  pub keys : map (λ n. part (row_at rows n) by) firsts ≡ groups by rows
  pub members : (g : ℕ) (group : Tuple) → slice_get (groups by rows) g ≡ Some group
      → rows_of group_of rows g ≡ members by rows group

-- the values of the group of a number, in the columns by which the rows are grouped
abbrev pub group_at : List ℕ → List Tuple → ℕ → Tuple
group_at by rows number = get_or (groups by rows) number []

-- the values of the group of a number, and behind them what is made of its rows
abbrev pub group_row : List ℕ → List Make → List Tuple → ℕ → Tuple
group_row by makes rows number =
    group_at by rows number ++ made makes (members by rows (group_at by rows number))

-- the accumulators of so many groups, each of which stands for the rows of its group
pub record StandForAll (rows : List Tuple) (group_of : List ℕ) (count : ℕ) (make : Make) (each : List Accumulator)
    : Type 0 where
  pub counted : length each ≡ count
  pub stand : StandEach make.what make.column rows group_of each

-- for each make such accumulators
abbrev pub AreHeld : List Tuple → List ℕ → ℕ → List Make → List (List Accumulator) → Type 0
AreHeld rows group_of count makes held = AllZip (StandForAll rows group_of count) makes held
