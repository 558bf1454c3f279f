-- What an aggregate makes of the rows of its groups.
use Rattle.std.specs.Prelude.{ℕ, ℤ, pos, negsuc, suc, ◌-◌, ◌-ℤ◌, ◌^◌, min, nat_lt, List, [], ◌∷◌, length, map, fold, get_or, ◌&&◌, if◌then◌else◌, Option, Some, None}
use Rattle.std.specs.List.{filter, sum_by}
use Rattle.std.specs.Ordering.{is_lt}
use Rattle.tuple_schema.specs.declared.value.Value.{Value}
use Rattle.tuple_schema.specs.declared.value.Value.TheVariants as value
use Rattle.list_algebra.specs.Bags.{Tuple}
use Rattle.list_algebra.specs.Comparing.{compare_values}
use Rattle.list_algebra.specs.Groups.{each_group, groups}
use Rattle.list_algebra.specs.Joins.{below, is_given}
use Rattle.list_algebra.specs.Sorting.{ascending}
use Rattle.expr_lang.specs.Values.{fits64}
use Rattle.flow_types.specs.declared.node.Agg.{Agg}
use Rattle.flow_types.specs.declared.node.Agg.TheVariants as agg
use Rattle.flow_types.specs.declared.node.Make.{Make}
use Rattle.flow_types.specs.declared.node.GroupOrder.{GroupOrder}
use Rattle.flow_types.specs.declared.node.GroupOrder.TheVariants as order

-- the values of a column, row by row, without Null
abbrev pub given_in : ℕ → List Tuple → List Value
given_in column rows = filter is_given (map (λ t. get_or t column value.Null) rows)

-- a count, which stops at the greatest number of 64 bits
abbrev pub counted : ℕ → Value
counted n = value.Int (pos (min n (2 ^ 63 - 1)))

-- the units of a number; a text has none
abbrev pub units_in : Value → ℤ
units_in (value.Int n) = n
units_in (value.Dec n) = n
units_in _ = pos 0

-- how far a number is above zero, and how far below
abbrev pub rise : ℤ → ℕ
rise (pos n) = n
rise (negsuc n) = 0

abbrev pub fall : ℤ → ℕ
fall (pos n) = 0
fall (negsuc n) = suc n

-- the positive values added up, and the negative ones by their size
abbrev pub above : List Value → ℕ
above values = sum_by (λ v. rise (units_in v)) values

abbrev pub under : List Value → ℕ
under values = sum_by (λ v. fall (units_in v)) values

-- a rise less a fall; none where one of them is 2^126 or more, or the difference isn't one of 64 bits
abbrev pub difference : ℕ → ℕ → Option ℤ
difference up down =
    if nat_lt up (2 ^ 126) && nat_lt down (2 ^ 126) && fits64 (pos up -ℤ pos down)
    then Some (pos up -ℤ pos down) else None

-- so many units, of the kind of this value; Null of none
abbrev pub units_like : Value → Option ℤ → Value
units_like (value.Int m) (Some n) = value.Int n
units_like (value.Dec m) (Some n) = value.Dec n
units_like _ _ = value.Null

-- the sum of values, which is exact; Null of none
abbrev pub sum_of : List Value → Value
sum_of [] = value.Null
sum_of (first ∷ rest) = units_like first (difference (above (first ∷ rest)) (under (first ∷ rest)))

-- the lesser of two values, and the greater
abbrev pub lesser : Value → Value → Value
lesser v w = if is_lt (compare_values w v) then w else v

abbrev pub greater : Value → Value → Value
greater v w = if is_lt (compare_values v w) then w else v

-- the least of values, and the greatest; Null of none
abbrev pub least_of : List Value → Value
least_of [] = value.Null
least_of (first ∷ rest) = fold lesser first rest

abbrev pub greatest_of : List Value → Value
greatest_of [] = value.Null
greatest_of (first ∷ rest) = fold greater first rest

-- what is made of the rows of a group
abbrev pub made_of : Agg → ℕ → List Tuple → Value
made_of agg.Count column rows = counted (length rows)
made_of agg.CountOf column rows = counted (length (given_in column rows))
made_of agg.Sum column rows = sum_of (given_in column rows)
made_of agg.Min column rows = least_of (given_in column rows)
made_of agg.Max column rows = greatest_of (given_in column rows)

abbrev pub made : List Make → List Tuple → Tuple
made makes rows = map (λ make. made_of make.what make.column rows) makes

-- groups of so many values: as they appear, or ascending
abbrev pub ordered : GroupOrder → ℕ → List Tuple → List Tuple
ordered order.First width those = those
ordered order.Key width those = ascending (below width) those

-- of each group of the rows by these columns its values, and behind them what is made of its rows
abbrev pub aggregated : List ℕ → List Make → GroupOrder → List Tuple → List Tuple
aggregated by makes order rows = each_group (made makes) by rows (ordered order (length by) (groups by rows))
