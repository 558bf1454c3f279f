-- The value of a field may stand in its column, and has a form in bytes.
use Rattle.std.proofs.Common.{◌≡◌, ◌≤◌, ℕ, List, [], ◌∷◌, length, Bool, true, false, not, cond, ltb, Result, Ok, Err, refl, sym, ap, subst, ◌∙◌, arith, IsUtf8}
use Rattle.std.specs.Prelude.{ℤ, pos, negsuc}
use Rattle.std.specs.Int.{w64}
use Rattle.std.specs.Int.RustNames.{FitsSigned}
use Rattle.std.specs.Str.{is_utf8}
use Rattle.std.proofs.lemmas.Bool.{ltb-false}
use Rattle.std.proofs.lemmas.Bool.Decides.{nat_tests}
use Rattle.std.proofs.lemmas.Str.{IsUtf8-from_is_utf8, IsUtf8-nil}
use Rattle.tuple_schema.specs.declared.value.Value.{Value}
use Rattle.tuple_schema.specs.declared.value.Value.TheVariants as value
use Rattle.tuple_schema.specs.declared.schema.Column.{Column}
use Rattle.tuple_schema.specs.declared.schema.ColumnKind.{ColumnKind}
use Rattle.tuple_schema.specs.declared.schema.ColumnKind.TheVariants as kind
use Rattle.tuple_schema.specs.Schemas.{is_of}
use Rattle.tuple_schema.specs.Stops.{◌>>=◌}
use Rattle.row_codec.specs.declared.fields.FieldFault.{FieldFault}
use Rattle.row_codec.specs.declared.fields.FieldFault.TheVariants as fault
use Rattle.row_codec.specs.Decoding.{IsEncodable}
use Rattle.row_codec.specs.Fields.{natural_of, units_of, is_negative, without_sign, signed, is_i64, in_range, number_of, text_of_field, value_of, empty_value, field_value}

bind_ok : {A B F : Type 0} (r : Result A F) (f : A → Result B F) (y : B) → (r >>= f) ≡ Ok y
    → (x : A) × (r ≡ Ok x) × (f x ≡ Ok y)
bind_ok (Ok x) f y e = (x, refl, e)
bind_ok (Err d) f y e = absurd cc

needs_ok : {A F : Type 0} (b : Bool) (d : F) (r : Result A F) (y : A) → cond b r (Err d) ≡ Ok y
    → (b ≡ true) × (r ≡ Ok y)
needs_ok true d r y e = (refl, e)
needs_ok false d r y e = absurd cc

guard_ok : {A F : Type 0} (b : Bool) (d : F) (r : Result A F) (y : A) → cond b (Err d) r ≡ Ok y
    → (b ≡ false) × (r ≡ Ok y)
guard_ok true d r y e = absurd cc
guard_ok false d r y e = (refl, e)

is_not_not : (b : Bool) → not b ≡ false → b ≡ true
is_not_not true e = refl
is_not_not false e = absurd cc

i64_fits : (n : ℤ) → is_i64 n ≡ true → FitsSigned w64 n
i64_fits (pos n) is = grind (arith, nat_tests)
i64_fits (negsuc n) is = grind (arith, nat_tests)

range_fits : (z n : ℤ) → in_range z ≡ Ok n → FitsSigned w64 n
unfolding in_range
range_fits z n e =
    let inside = needs_ok (is_i64 z) fault.OutOfRange (Ok z) n e in
    let same : z ≡ n = let is = inside.1 in cc in
    subst (FitsSigned w64) same (i64_fits z inside.0)

number_fits : (size_of : List ℕ → Result ℕ FieldFault) (text : List ℕ) (n : ℤ) → number_of size_of text ≡ Ok n
    → FitsSigned w64 n
unfolding number_of
number_fits size_of text n e =
    let size = bind_ok (size_of (without_sign text)) (λ size. in_range (signed (is_negative text) size)) n e in
    range_fits (signed (is_negative text) size.0) n size.2

-- the value is of the kind, and has a form in bytes
pub record IsValueOf (k : ColumnKind) (nullable : Bool) (v : Value) : Type 0 where
  pub is_of : is_of k nullable v ≡ true
  pub encodable : IsEncodable v

value_is : (k : ColumnKind) (nullable : Bool) (text : List ℕ) (v : Value) → value_of k text ≡ Ok v
    → IsValueOf k nullable v
unfolding value_of text_of_field
value_is kind.Int nullable text v e =
    let number = bind_ok (number_of natural_of text) (λ number. Ok (value.Int number)) v e in
    let same : value.Int number.0 ≡ v = let is = number.2 in cc in
    subst (IsValueOf kind.Int nullable) same
    (record { is_of = refl; encodable = number_fits natural_of text number.0 number.1 })
value_is (kind.Dec places) nullable text v e =
    let units = bind_ok (number_of (units_of places) text) (λ units. Ok (value.Dec units)) v e in
    let same : value.Dec units.0 ≡ v = let is = units.2 in cc in
    subst (IsValueOf (kind.Dec places) nullable) same
    (record { is_of = refl; encodable = number_fits (units_of places) text units.0 units.1 })
value_is kind.Text nullable text v e =
    let read = bind_ok (text_of_field text) (λ text. Ok (value.Text text)) v e in
    let utf8 =
    guard_ok (not (is_utf8 text)) fault.NotUtf8
    (cond (ltb 4096 (length text)) (Err fault.TooLong) (Ok text)) read.0 read.1 in
    let short = guard_ok (ltb 4096 (length text)) fault.TooLong (Ok text) read.0 utf8.1 in
    let text_is : text ≡ read.0 = let is = short.1 in cc in
    let same : value.Text text ≡ v = let is = read.2 in cc in
    let few : length text ≤ 4096 = ltb-false _ _ short.0 in
    subst (IsValueOf kind.Text nullable) same
    (record { is_of = refl; encodable = (IsUtf8-from_is_utf8 text (is_not_not (is_utf8 text) utf8.0), few) })

empty_is : (k : ColumnKind) (nullable : Bool) (v : Value) → cond nullable (Ok value.Null) (empty_value k) ≡ Ok v
    → IsValueOf k nullable v
empty_is k true v e =
    let same : value.Null ≡ v = cc in subst (IsValueOf k true) same (record { is_of = refl; encodable = tt })
empty_is kind.Int false v e = absurd cc
empty_is (kind.Dec places) false v e = absurd cc
empty_is kind.Text false v e =
    let same : value.Text [] ≡ v = cc in subst (IsValueOf kind.Text false) same
    (record { is_of = refl; encodable = (IsUtf8-nil, omega arith) })

pub field_is : (column : Column) (text : List ℕ) (v : Value) → field_value column text ≡ Ok v
    → IsValueOf column.kind column.nullable v
unfolding field_value
field_is column [] v e = empty_is column.kind column.nullable v e
field_is column (c ∷ cs) v e = value_is column.kind column.nullable (c ∷ cs) v e
