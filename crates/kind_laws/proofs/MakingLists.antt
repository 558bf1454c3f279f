-- Lists of values that grow by one.
use Rattle.std.proofs.Common.{◌≡◌, ◌∙◌, ℕ, ◌+◌, ◌<◌, slice_get, true, false, cond, List, [], ◌∷◌, ◌++◌, length, map, filter, get_or, Some, None, min, refl, ap, sym, arith}
use Rattle.std.specs.List.{fold, reduce}
use Rattle.std.proofs.lemmas.List.{map-append, append-nil}
use Rattle.std.proofs.lemmas.Option.{get_or_from_slice_get}
use Rattle.std.proofs.lemmas.List.Elements.{filter-append}
use Rattle.std.proofs.lemmas.List.Sums.{fold_push}
use Rattle.tuple_schema.specs.declared.value.Value.{Value}
use Rattle.tuple_schema.specs.declared.value.Value.TheVariants as value
use Rattle.list_algebra.specs.Bags.{Tuple}
use Rattle.list_algebra.specs.Joins.{is_given}
use Rattle.tuple_schema.specs.declared.schema.Column.{Column}
use Rattle.tuple_schema.specs.Schemas.{Fits}
use Rattle.kind_laws.specs.Makes.{given_in}
use Rattle.kind_laws.specs.Accumulators.{value_at}
use Rattle.kind_laws.proofs.Rows.{fits-length}

-- a row that fits has a value in a column that is one of the columns
pub column_within : (columns : List Column) (row : Tuple) (column : ℕ) → Fits columns row → column < length columns → column < length row
column_within columns row column fit small = rw (← fits-length columns row fit) small

-- the value that a row lends is that of its number
pub value_lent : (column : ℕ) (rows : List Tuple) (number : ℕ) (row : Tuple) (v : Value) → slice_get rows number ≡ Some row → slice_get row column ≡ Some v
    → value_at column rows number ≡ v
value_lent column rows number row v there here =
    ap (λ r. get_or r column value.Null) (get_or_from_slice_get rows number row [] there) ∙ get_or_from_slice_get row column v value.Null here

-- a value is added where it is given
pub added_given : (values : List Value) (v : Value) → is_given v ≡ true → values ++ filter is_given (v ∷ []) ≡ values ++ v ∷ []
added_given values v is = ap (λ b. values ++ cond b (v ∷ []) []) is

pub added_null : (values : List Value) (v : Value) → is_given v ≡ false → values ++ filter is_given (v ∷ []) ≡ values
added_null values v is = ap (λ b. values ++ cond b (v ∷ []) []) is ∙ append-nil values

-- the value of one row more
pub given_more : (column : ℕ) (rows : List Tuple) (row : Tuple)
    → given_in column (rows ++ row ∷ []) ≡ given_in column rows ++ filter is_given (get_or row column value.Null ∷ [])
given_more column rows row =
    ap (filter is_given) (map-append (λ t. get_or t column value.Null) rows (row ∷ []))
    ∙ filter-append is_given (map (λ t. get_or t column value.Null) rows) (get_or row column value.Null ∷ [])

-- the best of one value more
pub best_first : {X : Type 0} (f : X → X → X) (xs : List X) (x : X) → reduce f xs ≡ None → reduce f (xs ++ x ∷ []) ≡ Some x
best_first f [] x e = refl
best_first f (y ∷ ys) x e = cc

pub best_more : {X : Type 0} (f : X → X → X) (xs : List X) (x best : X) → reduce f xs ≡ Some best → reduce f (xs ++ x ∷ []) ≡ Some (f best x)
best_more f [] x best e = cc
best_more f (y ∷ ys) x best e =
    let same : fold f y ys ≡ best = cc in
    ap Some (fold_push f y ys x ∙ ap (λ b. f b x) same)

-- the best of one value more, which may be Null
pub best_begun : (f : Value → Value → Value) (values : List Value) (v : Value) → is_given v ≡ true → None ≡ reduce f values
    → Some v ≡ reduce f (values ++ filter is_given (v ∷ []))
best_begun f values v given none = sym (ap (reduce f) (added_given values v given) ∙ best_first f values v (sym none))

pub best_step : (f : Value → Value → Value) (values : List Value) (v best next : Value) → is_given v ≡ true → Some best ≡ reduce f values → f best v ≡ next
    → Some next ≡ reduce f (values ++ filter is_given (v ∷ []))
best_step f values v best next given some step =
    sym (ap (reduce f) (added_given values v given) ∙ best_more f values v best (sym some) ∙ ap Some step)

-- a part that stops at a number, and more
pub stops : (m a b : ℕ) → min (min a m + b) m ≡ min (a + b) m
stops m a b = omega arith
