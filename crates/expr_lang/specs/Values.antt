-- What an expression means in a tuple: Null, a number, a text, or a truth of SQL's three-valued logic.
use Rattle.std.specs.Prelude.{ℕ, zero, ℤ, pos, negsuc, ◌+◌, ◌-◌, ◌^◌, ◌/◌, ◌+ℤ◌, ◌-ℤ◌, ◌*ℤ◌, int_div, int_lt, unsigned_abs, max, nat_lt, nat_le, List, ◌++◌, length, slice_get, bytes_eq, Bool, true, false, ◌&&◌, if◌then◌else◌, Option, Some, None}
use Rattle.std.specs.List.{position}
use Rattle.std.specs.Ordering.{int_cmp, nat_cmp, is_eq, is_ne, is_lt, is_le, is_gt, is_ge}
use Rattle.std.specs.Cmp.Lexicographic.{slice_cmp}
use Rattle.std.specs.declared.cmp.Ordering.{Ordering}
use Rattle.tuple_schema.specs.declared.schema.Column.{Column}
use Rattle.tuple_schema.specs.declared.schema.ColumnKind.{ColumnKind}
use Rattle.tuple_schema.specs.declared.schema.ColumnKind.TheVariants as kind
use Rattle.tuple_schema.specs.declared.value.Value.{Value}
use Rattle.tuple_schema.specs.declared.value.Value.TheVariants as value
use Rattle.expr_grammar.specs.declared.expr.Operator.{Operator}
use Rattle.expr_grammar.specs.declared.expr.Operator.TheVariants as op
use Rattle.expr_lang.specs.Trees.{Tree, number, text, column, joined, denied, negated, is_null, is_not_null, absolute, length_of, rescaled, coalesced, chosen}
use Rattle.expr_lang.specs.declared.logic.Truth.{Truth}
use Rattle.expr_lang.specs.declared.logic.Truth.TheVariants as truth

-- what an expression means; a number has so many units, and so many places after the point
pub data Meaning : Type 0 where
  nothing : Meaning
  units : ℤ → ℕ → Meaning
  bytes : List ℕ → Meaning
  truly : Truth → Meaning

-- the number fits i64
abbrev pub fits64 : ℤ → Bool
fits64 (pos n) = nat_lt n (2 ^ 63)
fits64 (negsuc n) = nat_lt n (2 ^ 63)

-- the number, where its units fit i64 and it has at most six places; else Null
unfoldable pub units_if : ℤ → ℕ → Meaning
units_if z places = if fits64 z && nat_le places 6 then units z places else nothing

-- the units of a number with so many places more
abbrev pub times_ten : ℤ → ℕ → ℤ
times_ten z places = z *ℤ pos (10 ^ places)

-- a value of a column
abbrev pub meaning_in : ColumnKind → Value → Meaning
meaning_in kind.Int (value.Int n) = units_if n 0
meaning_in (kind.Dec places) (value.Dec n) = units_if n places
meaning_in kind.Text (value.Text t) = bytes t
meaning_in _ _ = nothing

abbrev pub meaning_if : Option Column → Option Value → Meaning
meaning_if (Some c) (Some v) = meaning_in c.kind v
meaning_if _ _ = nothing

abbrev pub meaning_at : List Column → List Value → Option ℕ → Meaning
meaning_at columns tuple None = nothing
meaning_at columns tuple (Some place) = meaning_if (slice_get columns place) (slice_get tuple place)

-- where the column of this name is
abbrev pub place_of : List Column → List ℕ → Option ℕ
place_of columns name = position (λ c. bytes_eq c.name name) columns

-- True or False, by the answer
abbrev pub decided : Bool → Truth
decided true = truth.True
decided false = truth.False

-- SQL's tables
abbrev pub both : Truth → Truth → Truth
both truth.False y = truth.False
both x truth.False = truth.False
both truth.True truth.True = truth.True
both x y = truth.Unknown

abbrev pub either : Truth → Truth → Truth
either truth.True y = truth.True
either x truth.True = truth.True
either truth.False truth.False = truth.False
either x y = truth.Unknown

abbrev pub opposite : Truth → Truth
opposite truth.True = truth.False
opposite truth.False = truth.True
opposite truth.Unknown = truth.Unknown

-- what is no truth is Unknown
abbrev pub truth_in : Meaning → Truth
truth_in (truly t) = t
truth_in _ = truth.Unknown

-- how two meanings are ordered: numbers exactly, texts by their bytes, and no others
abbrev pub ordering : Meaning → Meaning → Option Ordering
ordering (units x p) (units y q) = Some (int_cmp (times_ten x q) (times_ten y p))
ordering (bytes s) (bytes t) = Some (slice_cmp nat_cmp s t)
ordering _ _ = None

-- what a comparison asks of an order
abbrev pub asks : Operator → Ordering → Bool
asks op.Equal o = is_eq o
asks op.NotEqual o = is_ne o
asks op.Less o = is_lt o
asks op.LessOrEqual o = is_le o
asks op.Greater o = is_gt o
asks op.GreaterOrEqual o = is_ge o
asks _ o = false

-- Unknown where there is no order
abbrev pub tested : (Ordering → Bool) → Option Ordering → Truth
tested test None = truth.Unknown
tested test (Some o) = decided (test o)

-- a sum has the greater number of places
abbrev pub plus : Meaning → Meaning → Meaning
plus (units x p) (units y q) = units_if (times_ten x (max p q - p) +ℤ times_ten y (max p q - q)) (max p q)
plus _ _ = nothing

abbrev pub minus : Meaning → Meaning → Meaning
minus (units x p) (units y q) = units_if (times_ten x (max p q - p) -ℤ times_ten y (max p q - q)) (max p q)
minus _ _ = nothing

-- a product has the places of both
abbrev pub times : Meaning → Meaning → Meaning
times (units x p) (units y q) = units_if (x *ℤ y) (p + q)
times _ _ = nothing

-- a quotient, cut toward zero, has the places of the dividend; Null for a zero divisor
abbrev pub quotient : ℤ → ℕ → ℤ → ℕ → Meaning
quotient x p (pos zero) q = nothing
quotient x p y q = units_if (int_div (times_ten x q) y) p

abbrev pub over : Meaning → Meaning → Meaning
over (units x p) (units y q) = quotient x p y q
over _ _ = nothing

-- texts joined; Null above 4,096 bytes
abbrev pub followed_by : Meaning → Meaning → Meaning
followed_by (bytes s) (bytes t) = if nat_le (length s + length t) 4096 then bytes (s ++ t) else nothing
followed_by _ _ = nothing

abbrev pub opposite_number : Meaning → Meaning
opposite_number (units x p) = units_if (pos 0 -ℤ x) p
opposite_number _ = nothing

abbrev pub size : Meaning → Meaning
size (units x p) = units_if (pos (unsigned_abs x)) p
size _ = nothing

abbrev pub byte_count : Meaning → Meaning
byte_count (bytes t) = units_if (pos (length t)) 0
byte_count _ = nothing

-- a quotient rounded, with halves away from zero: half the divisor is added away from zero, and the quotient cut
abbrev pub rounded : ℤ → ℕ → ℤ
rounded x d = int_div (if int_lt x (pos 0) then x -ℤ pos (d / 2) else x +ℤ pos (d / 2)) (pos d)

-- the number with k places: exact, or rounded
abbrev pub with_places : ℕ → Meaning → Meaning
with_places k (units x p) = units_if (if nat_le p k then times_ten x (k - p) else rounded x (10 ^ (p - k))) k
with_places k _ = nothing

abbrev pub is_nothing : Meaning → Bool
is_nothing nothing = true
is_nothing _ = false

abbrev pub is_something : Meaning → Bool
is_something nothing = false
is_something _ = true

abbrev pub first_of : Meaning → Meaning → Meaning
first_of nothing y = y
first_of x y = x

abbrev pub choice : Truth → Meaning → Meaning → Meaning
choice truth.True x y = x
choice _ x y = y

-- what an operator makes of two meanings
abbrev pub joined_by : Operator → Meaning → Meaning → Meaning
joined_by op.Or x y = truly (either (truth_in x) (truth_in y))
joined_by op.And x y = truly (both (truth_in x) (truth_in y))
joined_by op.Plus x y = plus x y
joined_by op.Minus x y = minus x y
joined_by op.Join x y = followed_by x y
joined_by op.Times x y = times x y
joined_by op.Over x y = over x y
joined_by o x y = truly (tested (asks o) (ordering x y))

-- what an expression means in a tuple of these columns
abbrev pub meaning : List Column → List Value → Tree → Meaning
meaning columns tuple (number z places) = units_if z places
meaning columns tuple (text t) = bytes t
meaning columns tuple (column name) = meaning_at columns tuple (place_of columns name)
meaning columns tuple (joined o a b) = joined_by o (meaning columns tuple a) (meaning columns tuple b)
meaning columns tuple (denied a) = truly (opposite (truth_in (meaning columns tuple a)))
meaning columns tuple (negated a) = opposite_number (meaning columns tuple a)
meaning columns tuple (is_null a) = truly (decided (is_nothing (meaning columns tuple a)))
meaning columns tuple (is_not_null a) = truly (decided (is_something (meaning columns tuple a)))
meaning columns tuple (absolute a) = size (meaning columns tuple a)
meaning columns tuple (length_of a) = byte_count (meaning columns tuple a)
meaning columns tuple (rescaled a k) = with_places k (meaning columns tuple a)
meaning columns tuple (coalesced a b) = first_of (meaning columns tuple a) (meaning columns tuple b)
meaning columns tuple (chosen c a b) = choice (truth_in (meaning columns tuple c)) (meaning columns tuple a)
    (meaning columns tuple b)

-- a number without places is an Int, and any other a Dec
abbrev pub value_in : Meaning → Value
value_in (units z zero) = value.Int z
value_in (units z places) = value.Dec z
value_in (bytes t) = value.Text t
value_in _ = value.Null

-- an expression's value of a tuple
abbrev pub value_of : List Column → List Value → Tree → Value
value_of columns tuple x = value_in (meaning columns tuple x)

-- an expression's truth of a tuple
abbrev pub truth_of : List Column → List Value → Tree → Truth
truth_of columns tuple x = truth_in (meaning columns tuple x)
