-- The order of tuples, and of rows by some of their columns.
use Rattle.std.proofs.Common.{◌≡◌, ◌∙◌, ℕ, List, refl}
use Rattle.std.specs.Cmp.{IsTotalOrder, IsStrictWeakOrder}
use Rattle.std.specs.Cmp.Lexicographic.{lists_ties, lists_total}
use Rattle.std.specs.Ordering.{is_eq}
use Rattle.std.proofs.lemmas.Cmp.{eq_by_cmp_equiv}
use Rattle.std.proofs.lemmas.List.Sorted.{ranks_by}
use Rattle.tuple_schema.specs.declared.value.Value.{Value}
use Rattle.tuple_schema.specs.declared.value.Value.TheVariants as value
use Rattle.tuple_schema.specs.contracts.value.ValuePartialEq.TheImpl as value_eq
use Rattle.tuple_schema.specs.contracts.value.ValueOrd.TheImpl.Laws as value_ord_laws
use Rattle.tuple_schema.specs.Tuples.{part}
use Rattle.list_algebra.specs.Bags.{Tuple, same, same_value}
use Rattle.list_algebra.specs.Comparing.{compare_tuples, compare_values}
use Rattle.list_algebra.specs.Sorting.{comes_before}

-- the order of tuples is total
pub tuples_total : IsTotalOrder compare_tuples
tuples_total = lists_total value_ord_laws.total-law

-- rows are ordered by their values in these columns
pub rows_ranked : (cols : List ℕ) → IsStrictWeakOrder (comes_before cols)
rows_ranked cols = ranks_by tuples_total (λ (t : Tuple). part t cols)

-- values are the same where neither comes before the other
derived_same : (v w : Value) → same_value v w ≡ value_eq.ghosts.eq v w
derived_same value.Null value.Null = refl
derived_same value.Null (value.Int n) = refl
derived_same value.Null (value.Dec n) = refl
derived_same value.Null (value.Text t) = refl
derived_same (value.Int m) value.Null = refl
derived_same (value.Int m) (value.Int n) = refl
derived_same (value.Int m) (value.Dec n) = refl
derived_same (value.Int m) (value.Text t) = refl
derived_same (value.Dec m) value.Null = refl
derived_same (value.Dec m) (value.Int n) = refl
derived_same (value.Dec m) (value.Dec n) = refl
derived_same (value.Dec m) (value.Text t) = refl
derived_same (value.Text s) value.Null = refl
derived_same (value.Text s) (value.Int n) = refl
derived_same (value.Text s) (value.Dec n) = refl
derived_same (value.Text s) (value.Text t) = refl

-- so are tuples
pub same_level : (x y : Tuple) → same x y ≡ is_eq (compare_tuples x y)
same_level x y = lists_ties compare_values (λ v w. derived_same v w ∙ value_ord_laws.matches_eq-law v w) x y

pub level_back : (x y : Tuple) → is_eq (compare_tuples x y) ≡ is_eq (compare_tuples y x)
level_back x y = (eq_by_cmp_equiv tuples_total).symm x y
