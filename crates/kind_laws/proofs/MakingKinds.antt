-- What is made of a column is of its kind.
use Rattle.std.proofs.Common.{◌≡◌, ℕ, ℤ, List, [], ◌∷◌, map, filter, get_or, slice_get, All, Bool, true, false, cond, Option, Some, None, refl, sym, subst}
use Rattle.std.specs.List.{fold}
use Rattle.std.specs.Ordering.{is_lt}
use Rattle.std.proofs.lemmas.List.Elements.{All-nil, All-cons, All-head, All-tail}
use Rattle.std.proofs.lemmas.Option.{get_or_from_slice_get}
use Rattle.tuple_schema.specs.declared.value.Value.{Value}
use Rattle.tuple_schema.specs.declared.value.Value.TheVariants as value
use Rattle.tuple_schema.specs.declared.schema.Column.{Column}
use Rattle.tuple_schema.specs.declared.schema.ColumnKind.{ColumnKind}
use Rattle.tuple_schema.specs.declared.schema.ColumnKind.TheVariants as kind
use Rattle.tuple_schema.specs.Schemas.{Fits, is_of}
use Rattle.list_algebra.specs.Bags.{Tuple}
use Rattle.list_algebra.specs.Comparing.{compare_values}
use Rattle.list_algebra.specs.Joins.{is_given}
use Rattle.flow_types.specs.declared.node.Agg.TheVariants as agg
use Rattle.kind_laws.specs.Makes.{above, under, counted, difference, given_in, units_like, sum_of, lesser, greater, least_of, greatest_of, made_of}
use Rattle.kind_laws.proofs.Rows.{value_at}

-- the value is of the kind, or a Null that may stand there
abbrev pub IsOf : ColumnKind → Bool → Value → Type 0
IsOf k nullable v = is_of k nullable v ≡ true

-- of a kind, and given or not
given_is_of : (k : ColumnKind) (nullable : Bool) (v : Value) → is_given v ≡ true → IsOf k nullable v → IsOf k false v
given_is_of k nullable value.Null given is = cc
given_is_of kind.Int nullable (value.Int n) given is = is
given_is_of kind.Int nullable (value.Dec n) given is = is
given_is_of kind.Int nullable (value.Text t) given is = is
given_is_of (kind.Dec s) nullable (value.Int n) given is = is
given_is_of (kind.Dec s) nullable (value.Dec n) given is = is
given_is_of (kind.Dec s) nullable (value.Text t) given is = is
given_is_of kind.Text nullable (value.Int n) given is = is
given_is_of kind.Text nullable (value.Dec n) given is = is
given_is_of kind.Text nullable (value.Text t) given is = is

of_nullable : (k : ColumnKind) (nullable : Bool) (v : Value) → IsOf k false v → IsOf k nullable v
of_nullable k nullable value.Null is = cc
of_nullable kind.Int nullable (value.Int n) is = is
of_nullable kind.Int nullable (value.Dec n) is = is
of_nullable kind.Int nullable (value.Text t) is = is
of_nullable (kind.Dec s) nullable (value.Int n) is = is
of_nullable (kind.Dec s) nullable (value.Dec n) is = is
of_nullable (kind.Dec s) nullable (value.Text t) is = is
of_nullable kind.Text nullable (value.Int n) is = is
of_nullable kind.Text nullable (value.Dec n) is = is
of_nullable kind.Text nullable (value.Text t) is = is

kept_by : (k : ColumnKind) (nullable : Bool) (v : Value) (rest : List Value) (b : Bool) → is_given v ≡ b → IsOf k nullable v → All (IsOf k false) rest
    → All (IsOf k false) (cond b (v ∷ rest) rest)
kept_by k nullable v rest true given is others = All-cons (IsOf k false) v rest (given_is_of k nullable v given is) others
kept_by k nullable v rest false given is others = others

-- the values of a column that are given are of its kind
given_are_of : (k : ColumnKind) (nullable : Bool) (values : List Value) → All (IsOf k nullable) values → All (IsOf k false) (filter is_given values)
given_are_of k nullable [] all = All-nil (IsOf k false)
given_are_of k nullable (v ∷ rest) all =
    kept_by k nullable v (filter is_given rest) (is_given v) refl (All-head (IsOf k nullable) v rest all)
    (given_are_of k nullable rest (All-tail (IsOf k nullable) v rest all))

-- the column's values in rows that fit
column_of : (columns : List Column) (column : ℕ) (c : Column) (rows : List Tuple) → slice_get columns column ≡ Some c → All (Fits columns) rows
    → All (IsOf c.kind c.nullable) (map (λ t. get_or t column value.Null) rows)
column_of columns column c [] at fit = All-nil (IsOf c.kind c.nullable)
column_of columns column c (row ∷ rows) at fit =
    let one = value_at columns row column c at (All-head (Fits columns) row rows fit) in
    All-cons (IsOf c.kind c.nullable) (get_or row column value.Null) (map (λ t. get_or t column value.Null) rows)
    (subst (IsOf c.kind c.nullable) (sym (get_or_from_slice_get row column one.0 value.Null one.1)) one.2)
    (column_of columns column c rows at (All-tail (Fits columns) row rows fit))

-- a sum is of the kind of its values, or Null
sum_like : (k : ColumnKind) (first : Value) (v : Option ℤ) → IsOf k false first → IsOf k true (units_like first v)
sum_like k value.Null None is = refl
sum_like k value.Null (Some n) is = refl
sum_like k (value.Text t) None is = refl
sum_like k (value.Text t) (Some n) is = refl
sum_like k (value.Int m) None is = refl
sum_like k (value.Dec m) None is = refl
sum_like kind.Int (value.Int m) (Some n) is = refl
sum_like (kind.Dec s) (value.Int m) (Some n) is = cc
sum_like kind.Text (value.Int m) (Some n) is = cc
sum_like kind.Int (value.Dec m) (Some n) is = cc
sum_like (kind.Dec s) (value.Dec m) (Some n) is = refl
sum_like kind.Text (value.Dec m) (Some n) is = cc

sum_is_of : (k : ColumnKind) (values : List Value) → All (IsOf k false) values → IsOf k true (sum_of values)
sum_is_of k [] all = refl
sum_is_of k (first ∷ rest) all =
    sum_like k first (difference (above (first ∷ rest)) (under (first ∷ rest))) (All-head (IsOf k false) first rest all)

-- what is picked of two is one of them
picked : (P : Value → Type 0) (b : Bool) (v w : Value) → P v → P w → P (cond b v w)
picked P true v w p q = p
picked P false v w p q = q

fold_is_of : (P : Value → Type 0) (f : Value → Value → Value) → ((v w : Value) → P v → P w → P (f v w)) → (first : Value) (rest : List Value)
    → P first → All P rest → P (fold f first rest)
fold_is_of P f keeps first [] is all = is
fold_is_of P f keeps first (v ∷ rest) is all =
    fold_is_of P f keeps (f first v) rest (keeps first v is (All-head P v rest all)) (All-tail P v rest all)

least_is_of : (k : ColumnKind) (first : Value) (rest : List Value) → All (IsOf k false) (first ∷ rest) → IsOf k false (least_of (first ∷ rest))
least_is_of k first rest all =
    fold_is_of (IsOf k false) lesser (λ v w p q. picked (IsOf k false) (is_lt (compare_values w v)) w v q p) first rest
    (All-head (IsOf k false) first rest all) (All-tail (IsOf k false) first rest all)

greatest_is_of : (k : ColumnKind) (first : Value) (rest : List Value) → All (IsOf k false) (first ∷ rest) → IsOf k false (greatest_of (first ∷ rest))
greatest_is_of k first rest all =
    fold_is_of (IsOf k false) greater (λ v w p q. picked (IsOf k false) (is_lt (compare_values v w)) w v q p) first rest
    (All-head (IsOf k false) first rest all) (All-tail (IsOf k false) first rest all)

-- where none is given, Null may stand there
none_given : (k : ColumnKind) (nullable : Bool) (v : Value) (rest : List Value) → IsOf k nullable v → filter is_given (v ∷ rest) ≡ [] → nullable ≡ true
none_given k nullable value.Null rest is none = is
none_given k nullable (value.Int n) rest is none = cc
none_given k nullable (value.Dec n) rest is none = cc
none_given k nullable (value.Text t) rest is none = cc

least_or_null : (k : ColumnKind) (nullable : Bool) (given : List Value) → All (IsOf k false) given → (given ≡ [] → nullable ≡ true)
    → IsOf k nullable (least_of given)
least_or_null k nullable [] all none = none refl
least_or_null k nullable (v ∷ rest) all none = of_nullable k nullable (least_of (v ∷ rest)) (least_is_of k v rest all)

greatest_or_null : (k : ColumnKind) (nullable : Bool) (given : List Value) → All (IsOf k false) given → (given ≡ [] → nullable ≡ true)
    → IsOf k nullable (greatest_of given)
greatest_or_null k nullable [] all none = none refl
greatest_or_null k nullable (v ∷ rest) all none = of_nullable k nullable (greatest_of (v ∷ rest)) (greatest_is_of k v rest all)

-- a count is an Int
pub count_is_of : (n : ℕ) → IsOf kind.Int false (counted n)
count_is_of n = refl

-- what is made of a column of rows that fit: a sum is of the column's kind, or Null
module _ (columns : List Column) (column : ℕ) (c : Column) (at : slice_get columns column ≡ Some c) where
  pub sum_made_is_of : (rows : List Tuple) → All (Fits columns) rows → IsOf c.kind true (made_of agg.Sum column rows)
  sum_made_is_of rows fit =
      sum_is_of c.kind (given_in column rows)
      (given_are_of c.kind c.nullable (map (λ t. get_or t column value.Null) rows) (column_of columns column c rows at fit))

  -- of one row or more, the least and the greatest are of the column
  of_some : (row : Tuple) (others : List Tuple) → All (Fits columns) (row ∷ others) → given_in column (row ∷ others) ≡ [] → c.nullable ≡ true
  of_some row others fit none =
      none_given c.kind c.nullable (get_or row column value.Null) (map (λ t. get_or t column value.Null) others)
      (All-head (IsOf c.kind c.nullable) (get_or row column value.Null) (map (λ t. get_or t column value.Null) others) (column_of columns column c (row ∷ others) at fit))
      none

  pub least_made_is_of : (row : Tuple) (others : List Tuple) → All (Fits columns) (row ∷ others)
      → IsOf c.kind c.nullable (made_of agg.Min column (row ∷ others))
  least_made_is_of row others fit =
      least_or_null c.kind c.nullable (given_in column (row ∷ others))
      (given_are_of c.kind c.nullable (map (λ t. get_or t column value.Null) (row ∷ others)) (column_of columns column c (row ∷ others) at fit))
      (of_some row others fit)

  pub greatest_made_is_of : (row : Tuple) (others : List Tuple) → All (Fits columns) (row ∷ others)
      → IsOf c.kind c.nullable (made_of agg.Max column (row ∷ others))
  greatest_made_is_of row others fit =
      greatest_or_null c.kind c.nullable (given_in column (row ∷ others))
      (given_are_of c.kind c.nullable (map (λ t. get_or t column value.Null) (row ∷ others)) (column_of columns column c (row ∷ others) at fit))
      (of_some row others fit)
