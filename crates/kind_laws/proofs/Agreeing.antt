-- The rows that agree with a left one, by number and by key.
use Rattle.std.proofs.Common.{◌≡◌, ◌∙◌, ℕ, ◌<◌, List, [], length, map, filter, get_or, All, Bool, true, false, ◌&&◌, Some, refl, ap, sym}
use Rattle.std.specs.List.{list_all}
use Rattle.std.specs.Ordering.{is_eq}
use Rattle.std.specs.Cmp.Lexicographic.{lists_ties, lists_total}
use Rattle.std.proofs.lemmas.Cmp.{eq_by_cmp_equiv}
use Rattle.std.proofs.lemmas.List.Elements.{All-filter}
use Rattle.std.proofs.lemmas.List.Sorted.{All-permutation}
use Rattle.tuple_schema.specs.declared.value.Value.{Value}
use Rattle.tuple_schema.specs.declared.value.Value.TheVariants as value
use Rattle.tuple_schema.specs.contracts.value.ValuePartialEq.TheImpl as value_eq
use Rattle.tuple_schema.specs.contracts.value.ValueOrd.TheImpl.Laws as value_ord_laws
use Rattle.tuple_schema.specs.Tuples.{part}
use Rattle.list_algebra.specs.Bags.{Tuple, same, same_value}
use Rattle.list_algebra.specs.Comparing.{compare_tuples, compare_values}
use Rattle.list_algebra.specs.Joins.{agree, below, is_given, matches}
use Rattle.list_algebra.proofs.Same.{same-equal}
use Rattle.kind_laws.specs.Indexes.{IsIndex, compare_keys, given_rows, key_at, row_at}
use Rattle.kind_laws.proofs.Keyed.{key_within}
use Rattle.kind_laws.proofs.Numbered.{All-below, filter-filter, filter_alike, filter_numbers}
use Rattle.kind_laws.proofs.Runs.{stable_level}
use Rattle.kind_laws.proofs.Keyed.{keys_total}

-- values are the same where neither comes before the other
derived_same : (v w : Value) → same_value v w ≡ value_eq.ghosts.eq v w
derived_same value.Null value.Null = refl
derived_same value.Null (value.Int n) = refl
derived_same value.Null (value.Dec n) = refl
derived_same value.Null (value.Text t) = refl
derived_same (value.Int m) value.Null = refl
derived_same (value.Int m) (value.Int n) = refl
derived_same (value.Int m) (value.Dec n) = refl
derived_same (value.Int m) (value.Text t) = refl
derived_same (value.Dec m) value.Null = refl
derived_same (value.Dec m) (value.Int n) = refl
derived_same (value.Dec m) (value.Dec n) = refl
derived_same (value.Dec m) (value.Text t) = refl
derived_same (value.Text s) value.Null = refl
derived_same (value.Text s) (value.Int n) = refl
derived_same (value.Text s) (value.Dec n) = refl
derived_same (value.Text s) (value.Text t) = refl

same_level : (x y : Tuple) → same x y ≡ is_eq (compare_tuples x y)
same_level x y = lists_ties compare_values (λ v w. derived_same v w ∙ value_ord_laws.matches_eq-law v w) x y

level_back : (x y : Tuple) → is_eq (compare_tuples x y) ≡ is_eq (compare_tuples y x)
level_back x y = (eq_by_cmp_equiv (lists_total value_ord_laws.total-law)).symm x y

-- a right key with no Null that is level with the left one: both agree
agree_by : (left right : Tuple) (b : Bool) → same left right ≡ b
    → (list_all is_given right && same left right) ≡ (list_all is_given left && same left right)
agree_by left right true is = ap (λ t. list_all is_given t && same left right) (sym (same-equal left right is))
agree_by left right false is =
    ap (λ b. list_all is_given right && b) is ∙ and_false (list_all is_given right)
    ∙ sym (ap (λ b. list_all is_given left && b) is ∙ and_false (list_all is_given left))
  where
    and_false : (b : Bool) → (b && false) ≡ false
    and_false true = refl
    and_false false = refl

key_agrees : (left right : Tuple)
    → (list_all is_given right && is_eq (compare_keys (Some right) (Some left))) ≡ (list_all is_given left && same left right)
key_agrees left right =
    ap (λ b. list_all is_given right && b) (level_back right left ∙ sym (same_level left right))
    ∙ agree_by left right (same left right) refl

module _ (cols_left cols_right : List ℕ) (rows : List Tuple) (left : Tuple) where
  -- a number of the index is level with the left row, where its row agrees
  abbrev pub level : ℕ → Bool
  level n = is_eq (compare_keys (key_at cols_right rows n) (Some (part left cols_left)))

  level_agrees : filter level (given_rows cols_right rows) ≡ filter (λ n. agree cols_left cols_right left (row_at rows n)) (below (length rows))
  level_agrees =
      filter-filter level (λ n. list_all is_given (part (row_at rows n) cols_right)) (below (length rows))
      ∙ filter_alike _ _ (below (length rows)) (λ k d small.
      let n : ℕ = get_or (below (length rows)) k d in
      let within : n < length rows = All-below (length rows) k d small in
      ap (λ key. list_all is_given (part (row_at rows n) cols_right) && is_eq (compare_keys key (Some (part left cols_left)))) (key_within cols_right rows n within)
      ∙ key_agrees (part left cols_left) (part (row_at rows n) cols_right))

  -- the rows of the index that are level are those that agree, in their order
  pub run_matches : (index : List ℕ) → IsIndex cols_right rows index
      → map (row_at rows) (filter level index) ≡ matches cols_left cols_right rows left
  run_matches index is =
      ap (map (row_at rows)) (stable_level keys_total (key_at cols_right rows) (given_rows cols_right rows) index (Some (part left cols_left)) is.all is.stable
      ∙ level_agrees) ∙ sym (filter_numbers [] (agree cols_left cols_right left) rows)

-- the numbers of an index are those of rows
pub index_within : (cols : List ℕ) (rows : List Tuple) (index : List ℕ) → IsIndex cols rows index → All (λ n. n < length rows) index
index_within cols rows index is =
    All-permutation (λ n. n < length rows) (given_rows cols rows) index is.all
    (All-filter (λ n. list_all is_given (part (row_at rows n) cols)) (λ n. n < length rows) (below (length rows)) (All-below (length rows)))
