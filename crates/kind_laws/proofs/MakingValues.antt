-- What accumulators give.
use Rattle.std.proofs.Common.{◌≡◌, ◌∙◌, ℕ, ◌-◌, ◌^◌, pos, List, [], ◌∷◌, length, Option, Some, None, option_map, unwrap_or, min, refl, ap, arith}
use Rattle.std.specs.List.{reduce}
use Rattle.tuple_schema.specs.declared.value.Value.{Value}
use Rattle.tuple_schema.specs.declared.value.Value.TheVariants as value
use Rattle.list_algebra.specs.Bags.{Tuple}
use Rattle.flow_types.specs.declared.node.Agg.{Agg}
use Rattle.kind_laws.specs.Makes.{counted, given_in, lesser, greater, least_of, greatest_of, made_of}
use Rattle.kind_laws.specs.Accumulators.{Holds, Stands, value_at, value_held, value_of_best, what_of}
use Rattle.kind_laws.specs.declared.making.Accumulator.{Accumulator}
use Rattle.kind_laws.specs.declared.making.Accumulator.TheVariants as acc
use Rattle.kind_laws.proofs.MakingTotals.{total_is_sum}

-- a count that stops at 64 bits gives the count
counted_stops : (n : ℕ) → counted (min n (2 ^ 64 - 1)) ≡ counted n
counted_stops n = ap (λ k. value.Int (pos k)) (omega arith)

best_value : (column : ℕ) (all : List Tuple) (best : Option ℕ) → value_of_best column all best ≡ unwrap_or (option_map (value_at column all) best) value.Null
best_value column all None = refl
best_value column all (Some number) = refl

least_value : (values : List Value) → unwrap_or (reduce lesser values) value.Null ≡ least_of values
least_value [] = refl
least_value (v ∷ rest) = refl

greatest_value : (values : List Value) → unwrap_or (reduce greater values) value.Null ≡ greatest_of values
greatest_value [] = refl
greatest_value (v ∷ rest) = refl

value_by : (column : ℕ) (all : List Tuple) (held : Accumulator) (rows : List Tuple) → Holds column all held rows
    → value_held column all held ≡ made_of (what_of held) column rows
value_by column all (acc.Rows n) rows is = ap counted is ∙ counted_stops (length rows)
value_by column all (acc.Given n) rows is = ap counted is ∙ counted_stops (length (given_in column rows))
value_by column all (acc.Sum total) rows is = total_is_sum total (given_in column rows) is
value_by column all (acc.Least best) rows is =
    best_value column all best ∙ ap (λ v. unwrap_or v value.Null) is ∙ least_value (given_in column rows)
value_by column all (acc.Greatest best) rows is =
    best_value column all best ∙ ap (λ v. unwrap_or v value.Null) is ∙ greatest_value (given_in column rows)

-- an accumulator gives what is made of the rows for which it stands
pub value_made : (what : Agg) (column : ℕ) (all : List Tuple) (held : Accumulator) (rows : List Tuple) → Stands what column all held rows
    → value_held column all held ≡ made_of what column rows
value_made what column all held rows stands =
    value_by column all held rows stands.holds ∙ ap (λ a. made_of a column rows) stands.is_for
