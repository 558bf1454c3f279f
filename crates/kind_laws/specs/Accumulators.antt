-- What an accumulator holds of the rows of a group.
use Rattle.std.specs.Prelude.{◌≡◌, ℕ, ℤ, ◌<◌, ◌-◌, ◌^◌, ◌==◌, min, List, [], ◌∷◌, length, map, get_or, slice_get, Option, Some, None, option_map, IfSome, ⊤}
use Rattle.std.specs.List.{filter, reduce}
use Rattle.tuple_schema.specs.declared.value.Value.{Value}
use Rattle.tuple_schema.specs.declared.value.Value.TheVariants as value
use Rattle.list_algebra.specs.Bags.{Tuple}
use Rattle.list_algebra.specs.Joins.{below}
use Rattle.flow_types.specs.declared.node.Agg.{Agg}
use Rattle.flow_types.specs.declared.node.Agg.TheVariants as agg
use Rattle.kind_laws.specs.Indexes.{row_at}
use Rattle.kind_laws.specs.Makes.{given_in, counted, above, under, difference, lesser, greater, made_of}
use Rattle.kind_laws.specs.declared.summing.Kind.{Kind}
use Rattle.kind_laws.specs.declared.summing.Kind.TheVariants as kind
use Rattle.kind_laws.specs.declared.summing.Total.{Total}
use Rattle.kind_laws.specs.declared.picking.Better.{Better}
use Rattle.kind_laws.specs.declared.picking.Better.TheVariants as better
use Rattle.kind_laws.specs.declared.making.Accumulator.{Accumulator}
use Rattle.kind_laws.specs.declared.making.Accumulator.TheVariants as acc

-- the value of the row of a number in the column
abbrev pub value_at : ℕ → List Tuple → ℕ → Value
value_at column all number = get_or (row_at all number) column value.Null

-- of which kind a value is
abbrev pub kind_of : Value → Kind
kind_of value.Null = kind.Other
kind_of (value.Int n) = kind.Int
kind_of (value.Dec n) = kind.Dec
kind_of (value.Text t) = kind.Other

-- of which kind the first value is, if there is one
abbrev pub first_kind : List Value → Option Kind
first_kind [] = None
first_kind (first ∷ rest) = Some (kind_of first)

-- this kind, or where there is none yet, the next one
abbrev pub first_or : Option Kind → Kind → Option Kind
first_or None next = Some next
first_or (Some first) next = Some first

-- a total is that of these values; either part stops at the greatest number of 128 bits
pub record IsTotal (total : Total) (values : List Value) : Type 0 where
  pub kinds : total.first ≡ first_kind values
  pub up : total.above ≡ min (above values) (2 ^ 128 - 1)
  pub down : total.under ≡ min (under values) (2 ^ 128 - 1)

-- so many units of that kind; Null of none
abbrev pub units_of : Option Kind → Option ℤ → Value
units_of (Some kind.Int) (Some n) = value.Int n
units_of (Some kind.Dec) (Some n) = value.Dec n
units_of _ _ = value.Null

-- the sum that a total gives
abbrev pub total_value : Total → Value
total_value total = units_of total.first (difference total.above total.under)

-- the better one of two values
abbrev pub pick : Better → Value → Value → Value
pick better.Lesser = lesser
pick better.Greater = greater

-- the row of the number, if there is one, has the best of these values, which is of none if there are none
abbrev pub IsBest : Better → ℕ → List Tuple → Option ℕ → List Value → Type 0
IsBest by column all best values = option_map (value_at column all) best ≡ reduce (pick by) values

-- the value of the row of the number; Null of none
abbrev pub value_of_best : ℕ → List Tuple → Option ℕ → Value
value_of_best column all None = value.Null
value_of_best column all (Some number) = value_at column all number

-- what an accumulator is for
abbrev pub what_of : Accumulator → Agg
what_of (acc.Rows n) = agg.Count
what_of (acc.Given n) = agg.CountOf
what_of (acc.Sum total) = agg.Sum
what_of (acc.Least best) = agg.Min
what_of (acc.Greatest best) = agg.Max

-- the number is that of a row, if there is one
abbrev pub IsWithin : ℕ → Option ℕ → Type 0
IsWithin count best = IfSome best (λ n. n < count)

-- the number that an accumulator holds is that of a row
abbrev pub HoldsWithin : ℕ → Accumulator → Type 0
HoldsWithin count (acc.Rows n) = ⊤
HoldsWithin count (acc.Given n) = ⊤
HoldsWithin count (acc.Sum total) = ⊤
HoldsWithin count (acc.Least best) = IsWithin count best
HoldsWithin count (acc.Greatest best) = IsWithin count best

-- what an accumulator holds of these rows, which are among all rows; a count stops at the greatest number of 64 bits
abbrev pub Holds : ℕ → List Tuple → Accumulator → List Tuple → Type 0
Holds column all (acc.Rows n) rows = n ≡ min (length rows) (2 ^ 64 - 1)
Holds column all (acc.Given n) rows = n ≡ min (length (given_in column rows)) (2 ^ 64 - 1)
Holds column all (acc.Sum total) rows = IsTotal total (given_in column rows)
Holds column all (acc.Least best) rows = IsBest better.Lesser column all best (given_in column rows)
Holds column all (acc.Greatest best) rows = IsBest better.Greater column all best (given_in column rows)

-- an accumulator stands for these rows, which are among all rows, where this is made of them
pub record Stands (what : Agg) (column : ℕ) (all : List Tuple) (held : Accumulator) (rows : List Tuple) : Type 0 where
  pub is_for : what_of held ≡ what
  pub within : HoldsWithin (length all) held
  pub holds : Holds column all held rows

-- the value that an accumulator gives
abbrev pub value_held : ℕ → List Tuple → Accumulator → Value
value_held column all (acc.Rows n) = counted n
value_held column all (acc.Given n) = counted n
value_held column all (acc.Sum total) = total_value total
value_held column all (acc.Least best) = value_of_best column all best
value_held column all (acc.Greatest best) = value_of_best column all best

-- the column is one of so many, where it says something
abbrev pub ReadsWithin : ℕ → Agg → ℕ → Type 0
ReadsWithin width agg.Count column = ⊤
ReadsWithin width agg.CountOf column = column < width
ReadsWithin width agg.Sum column = column < width
ReadsWithin width agg.Min column = column < width
ReadsWithin width agg.Max column = column < width

-- the rows of a group among so many first ones, in their order
abbrev pub first_rows_of : List ℕ → List Tuple → ℕ → ℕ → List Tuple
first_rows_of group_of rows count group = map (row_at rows) (filter (λ n. get_or group_of n 0 == group) (below count))

-- the rows of a group, in their order
abbrev pub rows_of : List ℕ → List Tuple → ℕ → List Tuple
rows_of group_of rows group = first_rows_of group_of rows (length rows) group

-- each accumulator stands for the rows of its group among so many first ones
abbrev pub StandFor : Agg → ℕ → List Tuple → List ℕ → ℕ → List Accumulator → Type 0
StandFor what column rows group_of count each =
    (group : ℕ) (held : Accumulator) → slice_get each group ≡ Some held
    → Stands what column rows held (first_rows_of group_of rows count group)

-- each accumulator stands for the rows of its group
abbrev pub StandEach : Agg → ℕ → List Tuple → List ℕ → List Accumulator → Type 0
StandEach what column rows group_of each =
    (group : ℕ) (held : Accumulator) → slice_get each group ≡ Some held
    → Stands what column rows held (rows_of group_of rows group)

-- each accumulator gives what is made of the rows of its group
abbrev pub GiveEach : Agg → ℕ → List Tuple → List ℕ → List Accumulator → Type 0
GiveEach what column rows group_of each =
    (group : ℕ) (held : Accumulator) → slice_get each group ≡ Some held
    → value_held column rows held ≡ made_of what column (rows_of group_of rows group)
