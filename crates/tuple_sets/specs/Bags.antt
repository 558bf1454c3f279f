-- Sets and bags of tuples, told by which tuples are in them and how often.
use Rattle.std.specs.Prelude.{◌≡◌, ℕ, List, Bool, true, false}
use Rattle.std.specs.List.{count_by, list_any}
use Rattle.std.specs.Ordering.{int_eq}
use Rattle.std.specs.Str.{bytes_eq}
use Rattle.std.specs.Cmp.Lexicographic.{pointwise}
use Rattle.tuple_schema.specs.declared.value.Value.{Value}
use Rattle.tuple_schema.specs.declared.value.Value.TheVariants as value

-- two values are equal; Null equals Null
abbrev pub same_value : Value → Value → Bool
same_value value.Null value.Null = true
same_value (value.Int m) (value.Int n) = int_eq m n
same_value (value.Dec m) (value.Dec n) = int_eq m n
same_value (value.Text s) (value.Text t) = bytes_eq s t
same_value v w = false

-- two tuples are equal, value by value
abbrev pub same : List Value → List Value → Bool
same = pointwise same_value

-- the tuple is among the keys
abbrev pub has : List (List Value) → List Value → Bool
has keys tuple = list_any (same tuple) keys

-- how often the tuple is in the bag
abbrev pub count_of : List (List Value) → List Value → ℕ
count_of bag tuple = count_by (same tuple) bag

-- every tuple is in both sets or in neither
abbrev pub SameSet : List (List Value) → List (List Value) → Type 0
SameSet xs ys = (tuple : List Value) → has xs tuple ≡ has ys tuple

-- every tuple is equally often in both bags
abbrev pub SameBag : List (List Value) → List (List Value) → Type 0
SameBag xs ys = (tuple : List Value) → count_of xs tuple ≡ count_of ys tuple
