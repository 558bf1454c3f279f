-- The rows of numbers that were sorted by the rows' columns.
use Rattle.std.proofs.Common.{◌≡◌, ◌∙◌, ℕ, ◌+◌, ◌<◌, List, [], length, map, filter, get_or, All, not, ◌&&◌, Some, ap, ap₂, sym, subst, arith}
use Rattle.std.specs.List.Sorted.{IsPermutation, IsSortedBy, IsStableBy, ties}
use Rattle.std.specs.Cmp.{IsTotalOrder}
use Rattle.std.specs.Cmp.Lexicographic.{lists_total}
use Rattle.std.specs.Ordering.{is_eq, is_lt}
use Rattle.std.proofs.lemmas.List.{get_or-map, length-map}
use Rattle.std.proofs.lemmas.List.Sorted.{All-permutation, IsPermutation-map}
use Rattle.std.proofs.lemmas.List.Elements.{All-weaker}
use Rattle.tuple_schema.specs.contracts.value.ValueOrd.TheImpl.Laws as value_ord_laws
use Rattle.tuple_schema.specs.Tuples.{part}
use Rattle.list_algebra.specs.Bags.{Tuple}
use Rattle.list_algebra.specs.Comparing.{compare_tuples}
use Rattle.list_algebra.specs.Joins.{below}
use Rattle.list_algebra.specs.Sorting.{comes_before as row_before}
use Rattle.kind_laws.specs.Indexes.{comes_before, compare_keys, key_at, row_at}
use Rattle.kind_laws.proofs.Keyed.{key_within, keys_total}
use Rattle.kind_laws.proofs.Numbered.{All-below, filter-map, filter_alike, items_below}
use Rattle.kind_laws.proofs.Runs.{stable_level, tied_level}

tuples_total : IsTotalOrder compare_tuples
tuples_total = lists_total value_ord_laws.total-law

-- tuples tie where they are level
tied : (x y : Tuple) → (not (is_lt (compare_tuples x y)) && not (is_lt (compare_tuples y x))) ≡ is_eq (compare_tuples y x)
tied x y =
    ap (λ o. not (is_lt o) && not (is_lt (compare_tuples y x))) (tuples_total.antisymm x y) ∙ tied_level (compare_tuples y x)

module _ (cols : List ℕ) (rows : List Tuple) (numbers : List ℕ) (all : IsPermutation (below (length rows)) numbers) where
  pub numbers_within : All (λ n. n < length rows) numbers
  numbers_within = All-permutation (λ n. n < length rows) (below (length rows)) numbers all (All-below (length rows))

  -- the numbers' rows are the rows
  pub rows_all : IsPermutation rows (map (row_at rows) numbers)
  rows_all =
      subst (λ rs. IsPermutation rs (map (row_at rows) numbers)) (items_below [] rows)
      (IsPermutation-map (row_at rows) (below (length rows)) numbers all)

  before_rows : (m n : ℕ) → m < length rows → n < length rows → row_before cols (row_at rows m) (row_at rows n) ≡ comes_before cols rows m n
  before_rows m n small also =
      sym (ap₂ (λ k l. is_lt (compare_keys k l)) (key_within cols rows m small) (key_within cols rows n also))

  -- they are sorted as the numbers are
  pub rows_sorted : IsSortedBy (comes_before cols rows) numbers → IsSortedBy (row_before cols) (map (row_at rows) numbers)
  rows_sorted up k d from small =
      let inside : k + 1 < length numbers = rw (← length-map numbers (row_at rows)) small in
      let here : k < length numbers = omega (arith, inside) in
      ap₂ (row_before cols) (get_or-map (row_at rows) numbers (k + 1) 0 d inside) (get_or-map (row_at rows) numbers k 0 d here)
      ∙ before_rows (get_or numbers (k + 1) 0) (get_or numbers k 0) (numbers_within (k + 1) 0 inside) (numbers_within k 0 here)
      ∙ up k 0 from inside

  -- a number ties with a row by its row
  level_rows : (x : Tuple) (ns : List ℕ) → All (λ n. n < length rows) ns
      → filter (ties (row_before cols) x) (map (row_at rows) ns)
      ≡ map (row_at rows) (filter (λ n. is_eq (compare_keys (key_at cols rows n) (Some (part x cols)))) ns)
  level_rows x ns within =
      filter-map (ties (row_before cols) x) (row_at rows) ns
      ∙ ap (map (row_at rows)) (filter_alike (λ n. ties (row_before cols) x (row_at rows n))
      (λ n. is_eq (compare_keys (key_at cols rows n) (Some (part x cols)))) ns
      (All-weaker (λ n. n < length rows)
      (λ n. ties (row_before cols) x (row_at rows n) ≡ is_eq (compare_keys (key_at cols rows n) (Some (part x cols))))
      (λ n small. tied (part x cols) (part (row_at rows n) cols)
      ∙ sym (ap (λ key. is_eq (compare_keys key (Some (part x cols)))) (key_within cols rows n small))) ns within))

  -- those that tie stay in their order
  pub rows_stable : IsStableBy (comes_before cols rows) (below (length rows)) numbers → IsStableBy (row_before cols) rows (map (row_at rows) numbers)
  rows_stable stable x =
      level_rows x numbers numbers_within
      ∙ ap (map (row_at rows)) (stable_level keys_total (key_at cols rows) (below (length rows)) numbers (Some (part x cols)) all stable)
      ∙ sym (level_rows x (below (length rows)) (All-below (length rows)))
      ∙ ap (filter (ties (row_before cols) x)) (items_below [] rows)
