-- Totals give sums.
use Rattle.std.proofs.Common.{◌≡◌, ◌∙◌, ℕ, ℤ, ◌-◌, ◌^◌, ◌≤◌, List, [], ◌∷◌, Option, Some, None, inl, inr, min, nat_lt, Bool, true, false, ◌&&◌, refl, ap, ap₂, sym, arith}
use Rattle.std.proofs.lemmas.Bool.{cases_lt, le-ltb}
use Rattle.tuple_schema.specs.declared.value.Value.{Value}
use Rattle.tuple_schema.specs.declared.value.Value.TheVariants as value
use Rattle.kind_laws.specs.Makes.{above, under, difference, units_like, sum_of}
use Rattle.kind_laws.specs.Accumulators.{IsTotal, kind_of, total_value, units_of}
use Rattle.kind_laws.specs.declared.summing.Total.{Total}

and_none : (b : Bool) → (b && false) ≡ false
and_none true = refl
and_none false = refl

-- a part that is too great gives no difference
great_above : (up down : ℕ) → 2 ^ 126 ≤ up → difference up down ≡ None
great_above up down great = let no : nat_lt up (2 ^ 126) ≡ false = le-ltb up (2 ^ 126) great in rw no refl

great_under : (up down : ℕ) → 2 ^ 126 ≤ down → difference up down ≡ None
great_under up down great =
    let no : nat_lt down (2 ^ 126) ≡ false = le-ltb down (2 ^ 126) great in
    rw (no, and_none (nat_lt up (2 ^ 126))) refl

-- where a part stops changes no difference
difference_stops : (up down : ℕ) → difference (min up (2 ^ 128 - 1)) (min down (2 ^ 128 - 1)) ≡ difference up down
difference_stops up down =
    elim (cases_lt up (2 ^ 126)) [
      | inl few ↦
          elim (cases_lt down (2 ^ 126)) [
            | inl less ↦
                let e : min up (2 ^ 128 - 1) ≡ up = omega (arith, few) in
                let f : min down (2 ^ 128 - 1) ≡ down = omega (arith, less) in
                ap₂ difference e f
            | inr many ↦ great_under (min up (2 ^ 128 - 1)) (min down (2 ^ 128 - 1)) (omega (arith, many)) ∙ sym (great_under up down many)
          ]
      | inr many ↦ great_above (min up (2 ^ 128 - 1)) (min down (2 ^ 128 - 1)) (omega (arith, many)) ∙ sym (great_above up down many)
    ]

units_alike : (v : Value) (n : Option ℤ) → units_of (Some (kind_of v)) n ≡ units_like v n
units_alike value.Null None = refl
units_alike value.Null (Some n) = refl
units_alike (value.Int m) None = refl
units_alike (value.Int m) (Some n) = refl
units_alike (value.Dec m) None = refl
units_alike (value.Dec m) (Some n) = refl
units_alike (value.Text t) None = refl
units_alike (value.Text t) (Some n) = refl

units_of_none : (n : Option ℤ) → units_of None n ≡ value.Null
units_of_none None = refl
units_of_none (Some n) = refl

-- a total gives the sum of its values
pub total_is_sum : (total : Total) (values : List Value) → IsTotal total values → total_value total ≡ sum_of values
total_is_sum total [] is = ap (λ k. units_of k (difference total.above total.under)) is.kinds ∙ units_of_none (difference total.above total.under)
total_is_sum total (v ∷ rest) is =
    ap (λ k. units_of k (difference total.above total.under)) is.kinds
    ∙ ap (units_of (Some (kind_of v))) (ap₂ difference is.up is.down ∙ difference_stops (above (v ∷ rest)) (under (v ∷ rest)))
    ∙ units_alike v (difference (above (v ∷ rest)) (under (v ∷ rest)))
