-- The rows of groups, and the accumulators that stand for them.
use Rattle.std.proofs.Common.{◌≡◌, ◌∙◌, inl, inr, ℕ, ◌+◌, ◌<◌, ◌==◌, List, [], ◌∷◌, ◌++◌, length, map, filter, get_or, slice_get, set, Some, All, refl, ap, sym, subst, arith, eq-eqb}
use Rattle.std.proofs.lemmas.Bool.{cases_eq, ne_eqb}
use Rattle.std.proofs.lemmas.List.{map-append, length-set, get_or-set_same, get_or-set_other}
use Rattle.std.proofs.lemmas.Option.{slice_get-get_or, slice_get_read, slice_get_within, get_or_from_slice_get}
use Rattle.list_algebra.specs.Bags.{Tuple}
use Rattle.list_algebra.specs.Joins.{below}
use Rattle.flow_types.specs.declared.node.Agg.{Agg}
use Rattle.kind_laws.specs.Indexes.{row_at}
use Rattle.kind_laws.specs.Accumulators.{Stands, StandFor, first_rows_of}
use Rattle.kind_laws.specs.declared.making.Accumulator.{Accumulator}
use Rattle.kind_laws.proofs.Numbered.{number_kept, number_left, no_numbers}

-- a group has none of no rows
pub no_rows_of : (group_of : List ℕ) (rows : List Tuple) (group : ℕ) → first_rows_of group_of rows 0 group ≡ []
no_rows_of group_of rows group = ap (map (row_at rows)) (no_numbers (λ n. get_or group_of n 0 == group))

module _ (group_of : List ℕ) (rows : List Tuple) (n group : ℕ) where
  -- the rows of a group with its next row
  pub row_added : get_or group_of n 0 ≡ group → first_rows_of group_of rows (n + 1) group ≡ first_rows_of group_of rows n group ++ row_at rows n ∷ []
  row_added is =
      ap (map (row_at rows)) (number_kept (λ m. get_or group_of m 0 == group) n (eq-eqb (get_or group_of n 0) group is))
      ∙ map-append (row_at rows) (filter (λ m. get_or group_of m 0 == group) (below n)) (n ∷ [])

  -- a row of another group changes nothing
  pub row_passed : (get_or group_of n 0 ≡ group → ⊥) → first_rows_of group_of rows (n + 1) group ≡ first_rows_of group_of rows n group
  row_passed other =
      ap (map (row_at rows)) (number_left (λ m. get_or group_of m 0 == group) n (ne_eqb (get_or group_of n 0) group other))

module _ (group_of : List ℕ) (count n : ℕ) (each : List Accumulator) (all : length each ≡ count) (groups : All (λ g. g < count) group_of) (small : n < length group_of) where
  -- there is an accumulator for the group of the next row
  pub group_within : get_or group_of n 0 < length each
  group_within = let inside : get_or group_of n 0 < count = groups n 0 small in omega (arith, inside, all)

  -- and it stands for the group's rows so far
  pub group_stands : (what : Agg) (column : ℕ) (rows : List Tuple) (held : Accumulator) → held ≡ get_or each (get_or group_of n 0) held
      → StandFor what column rows group_of n each → Stands what column rows held (first_rows_of group_of rows n (get_or group_of n 0))
  group_stands what column rows held is stand =
      stand (get_or group_of n 0) held (slice_get_read each (length each) (get_or group_of n 0) held refl group_within is)

module _ (what : Agg) (column : ℕ) (rows : List Tuple) (group_of : List ℕ) (n group : ℕ) (each : List Accumulator) (new : Accumulator) where
  -- one row more, for which the accumulator of its group is set to a new one
  pub stand_more : get_or group_of n 0 ≡ group → group < length each → StandFor what column rows group_of n each
      → Stands what column rows new (first_rows_of group_of rows n group ++ row_at rows n ∷ [])
      → StandFor what column rows group_of (n + 1) (set each group new)
  stand_more is small stand stands other held at =
      elim (cases_eq other group) [
        | inl same ↦
            let here : get_or (set each group new) other held ≡ held = get_or_from_slice_get (set each group new) other held held at in
            let there : get_or (set each group new) group held ≡ new = get_or-set_same each group new held small in
            let e : new ≡ held = sym there ∙ ap (λ i. get_or (set each group new) i held) (sym same) ∙ here in
            subst (λ g. Stands what column rows held (first_rows_of group_of rows (n + 1) g)) (sym same)
            (subst (λ h. Stands what column rows h (first_rows_of group_of rows (n + 1) group)) e
            (subst (Stands what column rows new) (sym (row_added group_of rows n group is)) stands))
        | inr apart ↦
            let within : other < length (set each group new) = slice_get_within (set each group new) other held at in
            let inside : other < length each = subst (λ k. other < k) (length-set each group new) within in
            let here : get_or (set each group new) other held ≡ held = get_or_from_slice_get (set each group new) other held held at in
            let e : get_or each other held ≡ held = sym (get_or-set_other each group other new held apart) ∙ here in
            let before : slice_get each other ≡ Some held = slice_get-get_or each other held inside ∙ ap Some e in
            subst (Stands what column rows held) (sym (row_passed group_of rows n other (λ same. apart (sym same ∙ is)))) (stand other held before)
      ]
