-- The text of a value, and that it is read again.
use Rattle.std.proofs.Common.{◌≡◌, ◌<◌, ◌≤◌, ◌+◌, ◌-◌, ◌*◌, ◌/◌, ◌%◌, ◌^◌, ℕ, zero, suc, List, [], ◌∷◌, ◌++◌, length, Bool, true, false, cond, eqb, ltb, Result, Ok, refl, sym, ap, subst, ◌∙◌, arith, length-append, IsUtf8}
use Rattle.std.specs.Prelude.{ℤ, pos, negsuc}
use Rattle.std.specs.Char.{is_ascii_digit}
use Rattle.std.specs.Fmt.{decimal, signed_decimal}
use Rattle.std.specs.Int.{w64, IsInRange}
use Rattle.std.specs.Int.RustNames.{FitsSigned}
use Rattle.std.specs.List.{list_all}
use Rattle.std.specs.Str.{is_utf8}
use Rattle.std.proofs.Math.Nat.{div-div-eq-div-mul, div-le_self, mul_comm, pow-succ'}
use Rattle.std.proofs.lemmas.Bool.{le-ltb, and_parts, and_from}
use Rattle.std.proofs.lemmas.Bool.Decides.{nat_tests}
use Rattle.std.proofs.lemmas.Fmt.{digits_decimal, digits_value-decimal, decimal_nonempty}
use Rattle.std.proofs.lemmas.List.Folds.{list_all-append}
use Rattle.std.proofs.lemmas.List.Sums.{fold-append, fold_push}
use Rattle.std.proofs.lemmas.List.{append-nil}
use Rattle.std.proofs.lemmas.Str.{is_utf8-from_IsUtf8}
use Rattle.std.proofs.lemmas.Str.Parse.{IsDigitsTest, FoldsDigits, IsNumeralModel, numerals_by_fold}
use Rattle.tuple_schema.specs.declared.value.Value.{Value}
use Rattle.tuple_schema.specs.declared.value.Value.TheVariants as value
use Rattle.tuple_schema.specs.declared.schema.Column.{Column}
use Rattle.tuple_schema.specs.declared.schema.ColumnKind.{ColumnKind}
use Rattle.tuple_schema.specs.declared.schema.ColumnKind.TheVariants as kind
use Rattle.tuple_schema.specs.Schemas.{is_of}
use Rattle.row_codec.specs.declared.fields.FieldFault.{FieldFault}
use Rattle.row_codec.specs.Decoding.{IsEncodable}
use Rattle.row_codec.specs.Fields.{minus, plus, point, zero_digit, are_digits, digits_value, natural_of, units_of, scaled, is_negative, without_sign, is_i64, in_range, number_of, text_of_field, value_of, empty_value, field_value}
use Rattle.row_codec.specs.Numbers.{digits_after}
use Rattle.row_codec.specs.Printing.{last_digits, size_text, units_text, places_of, field_text, reread}
use Rattle.row_codec.proofs.Sizes.{digits_are, units_parts}

-- ---- the last digits of a number

pub last_digits_more : (k n : ℕ) → 0 < k → last_digits k n ≡ last_digits (k - 1) (n / 10) ++ (zero_digit + n % 10) ∷ []
last_digits_more zero n some = absurd (omega arith)
last_digits_more (suc k) n some =
    let same : k ≡ suc k - 1 = omega arith in ap (λ j. last_digits j (n / 10) ++ (zero_digit + n % 10) ∷ []) same

last_digits_are : (k n : ℕ) → list_all is_ascii_digit (last_digits k n) ≡ true
last_digits_are zero n = refl
last_digits_are (suc k) n =
    let one : list_all is_ascii_digit ((zero_digit + n % 10) ∷ []) ≡ true = grind (arith, nat_tests) in
    list_all-append is_ascii_digit (last_digits k (n / 10)) ((zero_digit + n % 10) ∷ [])
    ∙ and_from _ _ (last_digits_are k (n / 10)) one

length-last_digits : (k n : ℕ) → length (last_digits k n) ≡ k
length-last_digits zero n = refl
length-last_digits (suc k) n =
    omega (arith, length-append (last_digits k (n / 10)) ((zero_digit + n % 10) ∷ []), length-last_digits k (n / 10))

pow_suc_front : (k : ℕ) → 10 ^ suc k ≡ 10 * 10 ^ k
pow_suc_front k = pow-succ' 10 k

-- behind the digits of the whole part they make the number
digits_after-last_digits : (k n : ℕ) → digits_after (n / 10 ^ k) (last_digits k n) ≡ n
digits_after-last_digits zero n = omega arith
digits_after-last_digits (suc k) n =
    let front : n / 10 ^ suc k ≡ n / 10 / 10 ^ k =
    ap (λ m. n / m) (pow_suc_front k) ∙ sym (div-div-eq-div-mul n 10 (10 ^ k)) in
    let before : digits_after (n / 10 ^ suc k) (last_digits k (n / 10)) ≡ n / 10 =
    ap (λ w. digits_after w (last_digits k (n / 10))) front ∙ digits_after-last_digits k (n / 10) in
    fold_push _ (n / 10 ^ suc k) (last_digits k (n / 10)) (zero_digit + n % 10)
    ∙ ap (λ m. 10 * m + (zero_digit + n % 10 - zero_digit)) before ∙ omega arith

-- ---- decimals

digit_range : (c : ℕ) → is_ascii_digit c ≡ true → IsInRange 48 57 c
digit_range c is = grind (arith, nat_tests)

range_digit : (c : ℕ) → IsInRange 48 57 c → is_ascii_digit c ≡ true
range_digit c is = grind (arith, nat_tests)

digits_test : IsDigitsTest (λ ds. list_all is_ascii_digit ds ≡ true)
digits_test =
    record { empty = refl; parts = λ c cs are. (digit_range c (and_parts (is_ascii_digit c) (list_all is_ascii_digit cs) are).0, (and_parts (is_ascii_digit c) (list_all is_ascii_digit cs) are).1); more = λ c cs range are. and_from _ _ (range_digit c range) are }

folds : FoldsDigits digits_after
folds = record { empty = λ n. refl; more = λ n c cs range. ap (λ m. digits_after (m + (c - 48)) cs) (mul_comm 10 n) }

own : IsNumeralModel (λ ds. list_all is_ascii_digit ds ≡ true) digits_value
own = numerals_by_fold (λ ds. list_all is_ascii_digit ds ≡ true) digits_test digits_after folds

decimal_are : (n : ℕ) → n < 2 ^ 64 → list_all is_ascii_digit (decimal n) ≡ true
decimal_are n below = digits_decimal own n below

decimal_value : (n : ℕ) → n < 2 ^ 64 → digits_value (decimal n) ≡ n
decimal_value n below = digits_value-decimal own n below

natural_again : (n : ℕ) → n < 2 ^ 64 → natural_of (decimal n) ≡ Ok n
unfolding natural_of
natural_again n below =
    let are : are_digits (decimal n) ≡ true = digits_are (decimal n) (decimal_nonempty n below) (decimal_are n below) in
    rw are (ap (λ m. Ok m) (decimal_value n below))

units_again : (places n : ℕ) → n < 2 ^ 64 → units_of places (size_text places n) ≡ Ok n
units_again places n below =
    let whole : n / 10 ^ places < 2 ^ 64 = omega (arith, div-le_self n (10 ^ places)) in
    let some : 0 < length (decimal (n / 10 ^ places) ++ last_digits places n) =
    omega (arith, decimal_nonempty (n / 10 ^ places) whole, length-append (decimal (n / 10 ^ places)) (last_digits places n)) in
    let all : list_all is_ascii_digit (decimal (n / 10 ^ places) ++ last_digits places n) ≡ true =
    list_all-append is_ascii_digit (decimal (n / 10 ^ places)) (last_digits places n)
    ∙ and_from _ _ (decimal_are (n / 10 ^ places) whole) (last_digits_are places n) in
    let are : are_digits (decimal (n / 10 ^ places) ++ last_digits places n) ≡ true =
    digits_are (decimal (n / 10 ^ places) ++ last_digits places n) some all in
    let value : digits_value (decimal (n / 10 ^ places) ++ last_digits places n) ≡ n =
    fold-append _ 0 (decimal (n / 10 ^ places)) (last_digits places n)
    ∙ ap (λ w. digits_after w (last_digits places n)) (decimal_value (n / 10 ^ places) whole)
    ∙ digits_after-last_digits places n in
    let few : ltb places (length (last_digits places n)) ≡ false =
    le-ltb _ _ (omega (arith, length-last_digits places n)) in
    let one : 10 ^ (places - length (last_digits places n)) ≡ 1 =
    let none : places - length (last_digits places n) ≡ 0 =
    omega (arith, length-last_digits places n) in ap (λ k. 10 ^ k) none in
    units_parts places (size_text places n) (decimal (n / 10 ^ places)) (point ∷ last_digits places n) []
    (last_digits places n) refl (decimal_are (n / 10 ^ places) whole) refl refl
    ∙ ap (λ (ds : List ℕ). scaled places (ds ++ last_digits places n) (length (last_digits places n)))
    (append-nil (decimal (n / 10 ^ places)))
    ∙ rw (are, few, value, one) (ap (λ m. Ok m) (omega arith))

-- ---- signs

-- digits at the front: no sign stands there
pub record Unsigned (text : List ℕ) : Type 0 where
  pub plain : is_negative text ≡ false
  pub whole : without_sign text ≡ text

starts_plain : (text rest : List ℕ) → list_all is_ascii_digit text ≡ true → 0 < length text → Unsigned (text ++ rest)
starts_plain [] rest are some = absurd (omega arith)
starts_plain (c ∷ cs) rest are some =
    let range = digit_range c (and_parts (is_ascii_digit c) (list_all is_ascii_digit cs) are).0 in
    let no_minus : eqb c minus ≡ false = grind (arith, nat_tests) in
    let no_plus : eqb c plus ≡ false = grind (arith, nat_tests) in
    record { plain = no_minus; whole = rw (no_minus, no_plus) refl }

-- a size without a sign, and one behind a minus
plain_again : (size_of : List ℕ → Result ℕ FieldFault) (text : List ℕ) (n : ℕ) → Unsigned text → size_of text ≡ Ok n
    → in_range (pos n) ≡ Ok (pos n) → number_of size_of text ≡ Ok (pos n)
unfolding number_of
plain_again size_of text n plain size fits = rw (plain.whole, size, plain.plain) fits

minus_again : (size_of : List ℕ → Result ℕ FieldFault) (text : List ℕ) (n : ℕ) → size_of text ≡ Ok (suc n)
    → in_range (negsuc n) ≡ Ok (negsuc n) → number_of size_of (minus ∷ text) ≡ Ok (negsuc n)
unfolding number_of
minus_again size_of text n size fits = rw size fits

range_again : (n : ℤ) → FitsSigned w64 n → in_range n ≡ Ok n
unfolding in_range
range_again (pos n) fits = let is : is_i64 (pos n) ≡ true = grind (arith, nat_tests) in rw is refl
range_again (negsuc n) fits = let is : is_i64 (negsuc n) ≡ true = grind (arith, nat_tests) in rw is refl

int_again : (n : ℤ) → FitsSigned w64 n → number_of natural_of (signed_decimal n) ≡ Ok n
int_again (pos n) fits =
    let below : n < 2 ^ 64 = omega arith in
    let plain : Unsigned (decimal n) =
    subst Unsigned (append-nil (decimal n))
    (starts_plain (decimal n) [] (decimal_are n below) (decimal_nonempty n below)) in
    plain_again natural_of (decimal n) n plain (natural_again n below) (range_again (pos n) fits)
int_again (negsuc n) fits =
    minus_again natural_of (decimal (suc n)) n (natural_again (suc n) (omega arith)) (range_again (negsuc n) fits)

dec_again : (places : ℕ) (n : ℤ) → FitsSigned w64 n → number_of (units_of places) (units_text places n) ≡ Ok n
dec_again places (pos n) fits =
    let below : n < 2 ^ 64 = omega arith in
    let whole : n / 10 ^ places < 2 ^ 64 = omega (arith, div-le_self n (10 ^ places)) in
    plain_again (units_of places) (size_text places n) n (starts_plain (decimal (n / 10 ^ places)) (point ∷ last_digits places n) (decimal_are _ whole) (decimal_nonempty _ whole)) (units_again places n below) (range_again (pos n) fits)
dec_again places (negsuc n) fits =
    minus_again (units_of places) (size_text places (suc n)) n (units_again places (suc n) (omega arith))
    (range_again (negsuc n) fits)

-- ---- fields

text_again : (text : List ℕ) → IsUtf8 text → length text ≤ 4096 → text_of_field text ≡ Ok text
unfolding text_of_field
text_again text utf8 short =
    let is : is_utf8 text ≡ true = is_utf8-from_IsUtf8 text utf8 in
    let few : ltb 4096 (length text) ≡ false = le-ltb _ _ short in
    rw (is, few) refl

field_some : (column : Column) (text : List ℕ) → 0 < length text → field_value column text ≡ value_of column.kind text
unfolding field_value
field_some column [] some = absurd (omega arith)
field_some column (c ∷ cs) some = refl

signed_some : (n : ℤ) → FitsSigned w64 n → 0 < length (signed_decimal n)
signed_some (pos n) fits = decimal_nonempty n (omega arith)
signed_some (negsuc n) fits = omega arith

units_some : (places : ℕ) (n : ℤ) → 0 < length (units_text places n)
units_some places (pos n) = omega (arith, length-append (decimal (n / 10 ^ places)) (point ∷ last_digits places n))
units_some places (negsuc n) = omega arith

int_field : (k : ColumnKind) (nullable : Bool) (n : ℤ) → is_of k nullable (value.Int n) ≡ true → FitsSigned w64 n
    → value_of k (signed_decimal n) ≡ Ok (value.Int n)
unfolding value_of
int_field kind.Int nullable n of fits = rw (int_again n fits) refl
int_field (kind.Dec places) nullable n of fits = absurd cc
int_field kind.Text nullable n of fits = absurd cc

dec_field : (k : ColumnKind) (nullable : Bool) (n : ℤ) → is_of k nullable (value.Dec n) ≡ true → FitsSigned w64 n
    → value_of k (units_text (places_of k) n) ≡ Ok (value.Dec n)
unfolding value_of
dec_field kind.Int nullable n of fits = absurd cc
dec_field (kind.Dec places) nullable n of fits = rw (dec_again places n fits) refl
dec_field kind.Text nullable n of fits = absurd cc

text_field : (k : ColumnKind) (nullable : Bool) (text : List ℕ) → is_of k nullable (value.Text text) ≡ true
    → IsUtf8 text → length text ≤ 4096 → value_of k text ≡ Ok (value.Text text)
unfolding value_of
text_field kind.Int nullable text of utf8 short = absurd cc
text_field (kind.Dec places) nullable text of utf8 short = absurd cc
text_field kind.Text nullable text of utf8 short = rw (text_again text utf8 short) refl

null_field : (column : Column) → column.nullable ≡ true → field_value column [] ≡ Ok value.Null
unfolding field_value
null_field column is = rw is refl

empty_of : (k : ColumnKind) (nullable : Bool) → is_of k nullable (value.Text []) ≡ true
    → cond nullable (Ok value.Null) (empty_value k) ≡ Ok (cond nullable value.Null (value.Text []))
empty_of kind.Int nullable of = absurd cc
empty_of (kind.Dec places) nullable of = absurd cc
empty_of kind.Text true of = refl
empty_of kind.Text false of = refl

empty_field : (column : Column) → is_of column.kind column.nullable (value.Text []) ≡ true
    → field_value column [] ≡ Ok (cond column.nullable value.Null (value.Text []))
unfolding field_value
empty_field column of = empty_of column.kind column.nullable of

-- a printed value is read again
pub field_again : (column : Column) (v : Value) → is_of column.kind column.nullable v ≡ true → IsEncodable v
    → field_value column (field_text column.kind v) ≡ Ok (reread column.nullable v)
field_again column value.Null of encodable = null_field column of
field_again column (value.Int n) of encodable =
    field_some column (signed_decimal n) (signed_some n encodable)
    ∙ int_field column.kind column.nullable n of encodable
field_again column (value.Dec n) of encodable =
    field_some column (units_text (places_of column.kind) n) (units_some (places_of column.kind) n)
    ∙ dec_field column.kind column.nullable n of encodable
field_again column (value.Text []) of encodable = empty_field column of
field_again column (value.Text (c ∷ cs)) of encodable =
    field_some column (c ∷ cs) (omega arith)
    ∙ text_field column.kind column.nullable (c ∷ cs) of encodable.0 encodable.1
