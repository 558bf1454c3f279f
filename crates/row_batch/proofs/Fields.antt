-- The values of a row, read from its bytes.
use Rattle.std.proofs.Common.{◌≡◌, ◌<◌, ◌≤◌, ℕ, ℤ, zero, suc, ◌+◌, ◌*◌, List, [], ◌∷◌, ◌++◌, length, take, get_or, Some, true, Bool, All, subst, ap, sym, ◌∙◌, refl, arith, length-append}
use Rattle.std.specs.Prelude.{slice_get}
use Rattle.std.specs.Int.{w64, from_be_bytes, cast_signed, cast_unsigned}
use Rattle.std.specs.Int.RustNames.{FitsSigned}
use Rattle.std.proofs.Math.Facts.{Fits-of_z}
use Rattle.std.proofs.lemmas.Bool.{and_parts}
use Rattle.std.proofs.lemmas.Int.{to_z-of_z}
use Rattle.std.proofs.lemmas.Nat.{from_be_bytes-to_be_bytes_8}
use Rattle.std.proofs.lemmas.List.{take_more}
use Rattle.std.proofs.lemmas.List.Elements.{All-head, All-tail, All-get_or, filter_map-append}
use Rattle.std.proofs.lemmas.Option.{get_or_from_slice_get, slice_get_within, slice_get-get_or}
use Rattle.tuple_schema.specs.declared.value.Value.{Value}
use Rattle.tuple_schema.specs.declared.value.Value.TheVariants as value
use Rattle.tuple_schema.specs.declared.schema.Column.{Column}
use Rattle.tuple_schema.specs.declared.schema.ColumnKind.{ColumnKind}
use Rattle.tuple_schema.specs.declared.schema.ColumnKind.TheVariants as kind
use Rattle.tuple_schema.specs.Schemas.{is_of, fits, Fits}
use Rattle.tuple_schema.specs.Tuples.{IsShort, part}
use Rattle.row_codec.specs.Rows.{value_bytes, row_bytes, number_bytes}
use Rattle.row_codec.specs.Decoding.{IsEncodable}
use Rattle.row_codec.proofs.RowLemmas.{fits_long, row_bytes_more}
use Rattle.row_batch.specs.Packing.{held, value_places, IsCell, IsPackedRow}
use Rattle.row_batch.proofs.Places.{IsBetween, between_places, length-places, places_push}

-- ---- one value

number_again : (n : ℤ) → FitsSigned w64 n → cast_signed w64 (from_be_bytes w64 (take 8 (number_bytes n))) ≡ n
number_again n fits =
    ap (cast_signed w64) (from_be_bytes-to_be_bytes_8 (cast_unsigned w64 n) (Fits-of_z {w = w64} {z = n} fits).fits)
    ∙ to_z-of_z w64 n fits

-- the bytes of a value are read as that value
held_again : (k : ColumnKind) (nullable : Bool) (v : Value) → is_of k nullable v ≡ true → IsEncodable v
    → held k (value_bytes v) ≡ v
held_again k nullable value.Null of encodable = refl
held_again kind.Int nullable (value.Int n) of encodable = ap (λ z. value.Int z) (number_again n encodable)
held_again (kind.Dec s) nullable (value.Int n) of encodable = absurd cc
held_again kind.Text nullable (value.Int n) of encodable = absurd cc
held_again kind.Int nullable (value.Dec n) of encodable = absurd cc
held_again (kind.Dec s) nullable (value.Dec n) of encodable = ap (λ z. value.Dec z) (number_again n encodable)
held_again kind.Text nullable (value.Dec n) of encodable = absurd cc
held_again kind.Int nullable (value.Text text) of encodable = absurd cc
held_again (kind.Dec s) nullable (value.Text text) of encodable = absurd cc
held_again kind.Text nullable (value.Text text) of encodable = refl

-- the bytes are those of the value, and are read as it
pub record HoldsValue (k : ColumnKind) (bytes : List ℕ) (v : Value) : Type 0 where
  pub cell : IsCell k bytes
  pub read : held k bytes ≡ v

holds_value : (k : ColumnKind) (nullable : Bool) (v : Value) (bytes : List ℕ) → is_of k nullable v ≡ true
    → IsEncodable v → bytes ≡ value_bytes v → HoldsValue k bytes v
holds_value k nullable v bytes of encodable is =
    let same : held k bytes ≡ v = ap (held k) is ∙ held_again k nullable v of encodable in
    record { cell = record { spelled = is ∙ ap value_bytes (sym same); encodable = subst IsEncodable (sym same) encodable }; read = same }

fit_at : (cs : List Column) (row : List Value) (c : ℕ) (col : Column) (v : Value) → Fits cs row → c < length row
    → is_of (get_or cs c col).kind (get_or cs c col).nullable (get_or row c v) ≡ true
fit_at [] [] c col v fit below = absurd (omega arith)
fit_at [] (x ∷ xs) c col v fit below = absurd cc
fit_at (k ∷ ks) [] c col v fit below = absurd cc
fit_at (k ∷ ks) (x ∷ xs) zero col v fit below = (and_parts (is_of k.kind k.nullable x) (fits ks xs) fit).0
fit_at (k ∷ ks) (x ∷ xs) (suc c) col v fit below =
    fit_at ks xs c col v (and_parts (is_of k.kind k.nullable x) (fits ks xs) fit).1 (omega arith)

encodable_short : (v : Value) → IsEncodable v → IsShort v
encodable_short value.Null encodable = tt
encodable_short (value.Int n) encodable = tt
encodable_short (value.Dec n) encodable = tt
encodable_short (value.Text text) encodable = encodable.1

-- where a value of a row lies, and that it is read there
pub record FieldAt (columns : List Column) (row : List Value) (bytes inner : List ℕ) (c : ℕ) : Type 0 where
  pub v : Value
  pub here : slice_get row c ≡ Some v
  pub small : c < 64
  pub wide : length columns ≡ length row
  pub narrow : length inner ≡ length columns + 1
  pub short : IsShort v
  pub cell : IsBetween bytes (value_bytes v) (get_or inner c 0) (get_or inner (c + 1) 0)
  pub holds : (cell : List ℕ) (col : Column) → cell ≡ value_bytes v → HoldsValue (get_or columns c col).kind cell v

pub field_is : (columns : List Column) (seen : List Value) (row : List Value) (bytes inner : List ℕ) (c : ℕ)
    → IsPackedRow columns row bytes inner → row ≡ seen → c < length seen → FieldAt columns seen bytes inner c
field_is columns seen row bytes inner c is same below =
    subst (λ (r : List Value). FieldAt columns r bytes inner c) same
    (at (subst (λ (r : List Value). c < length r) (sym same) below)) where
      at : c < length row → FieldAt columns row bytes inner c
      at inside =
          let v : Value = get_or row c value.Null in
          let here : slice_get row c ≡ Some v = slice_get-get_or row c value.Null inside in
          let encodable : IsEncodable v = All-get_or IsEncodable row c value.Null inside is.row_is.encodable in
          let long = fits_long columns row is.row_is.fits in
          record {
            v = v;
            here = here;
            small = let narrow = is.narrow in omega arith;
            wide = long;
            narrow = rw is.inner_are (omega (arith, length-places value_bytes row));
            short = encodable_short v encodable;
            cell = between_places value_bytes row c v bytes inner is.bytes_are is.inner_are here;
            holds = λ cell col spelled. holds_value (get_or columns c col).kind (get_or columns c col).nullable v cell
                (fit_at columns row c col value.Null is.row_is.fits inside) encodable spelled;
          }

-- the places of one value more
pub places_more : (row : List Value) (i : ℕ) (v : Value) → i < length row → slice_get row i ≡ Some v
    → value_places (take (i + 1) row) ≡ value_places (take i row) ++ length (row_bytes (take (i + 1) row)) ∷ []
places_more row i v below here =
    let front : take (i + 1) row ≡ take i row ++ v ∷ [] =
    take_more row i v below ∙ ap (λ y. take i row ++ y ∷ []) (get_or_from_slice_get row i v v here) in
    let size : length (row_bytes (take i row)) + length (value_bytes v) ≡ length (row_bytes (take (i + 1) row)) =
    rw (row_bytes_more row i v below here) (sym (length-append (row_bytes (take i row)) (value_bytes v))) in
    ap value_places front ∙ places_push value_bytes (take i row) v ∙ ap (λ n. value_places (take i row) ++ n ∷ []) size

-- ---- sizes

value_size : (v : Value) → IsEncodable v → length (value_bytes v) ≤ 4099
value_size value.Null encodable = omega arith
value_size (value.Int n) encodable = omega arith
value_size (value.Dec n) encodable = omega arith
value_size (value.Text text) encodable = let short : length text ≤ 4096 = encodable.1 in omega arith

pub row_size : (row : List Value) → All IsEncodable row → length (row_bytes row) ≤ 4099 * length row
row_size [] encodable = omega arith
row_size (v ∷ vs) encodable =
    let first = value_size v (All-head IsEncodable v vs encodable) in
    let others : length (row_bytes vs) ≤ 4099 * length vs = row_size vs (All-tail IsEncodable v vs encodable) in
    omega (arith, length-append (value_bytes v) (row_bytes vs))

pub seen_size : (columns : List Column) (row : List Value) (bytes inner : List ℕ)
    → IsPackedRow columns row bytes inner → length bytes ≤ 262336
seen_size columns row bytes inner is =
    let narrow = is.narrow in
    let long = fits_long columns row is.row_is.fits in
    rw is.bytes_are (omega (arith, row_size row is.row_is.encodable))

pub seen_long : (columns : List Column) (seen : List Value) (row : List Value) (bytes inner : List ℕ)
    → IsPackedRow columns row bytes inner → row ≡ seen → length columns ≡ length seen
seen_long columns seen row bytes inner is same =
    fits_long columns row is.row_is.fits ∙ ap (λ (r : List Value). length r) same

-- ---- a part of a row, compared in place

part_cons : (row : List Value) (c : ℕ) (cs : List ℕ) → c < length row
    → part row (c ∷ cs) ≡ get_or row c value.Null ∷ part row cs
part_cons row c cs below = let here = slice_get-get_or row c value.Null below in rw here refl

pub part_length : (row : List Value) (cols : List ℕ) → All (λ c. c < length row) cols
    → length (part row cols) ≡ length cols
part_length row [] each = refl
part_length row (c ∷ cs) each =
    ap length (part_cons row c cs (All-head (λ c. c < length row) c cs each))
    ∙ ap suc (part_length row cs (All-tail (λ c. c < length row) c cs each))

part_get : (row : List Value) (cols : List ℕ) (i : ℕ) → All (λ c. c < length row) cols → i < length cols
    → slice_get (part row cols) i ≡ slice_get row (get_or cols i 0)
part_get row [] i each below = absurd (omega arith)
part_get row (c ∷ cs) zero each below =
    let here : c < length row = All-head (λ c. c < length row) c cs each in
    ap (λ vs. slice_get vs 0) (part_cons row c cs here) ∙ sym (slice_get-get_or row c value.Null here)
part_get row (c ∷ cs) (suc i) each below =
    ap (λ vs. slice_get vs (suc i)) (part_cons row c cs (All-head (λ c. c < length row) c cs each))
    ∙ part_get row cs i (All-tail (λ c. c < length row) c cs each) (omega arith)

-- where the two differ
pub parts_differ : (row key : List Value) (cols : List ℕ) (i c : ℕ) (v w : Value) → All (λ c. c < length row) cols
    → i < length cols → c ≡ get_or cols i 0 → slice_get row c ≡ Some v → slice_get key i ≡ Some w → ¬ (v ≡ w)
    → part row cols ≡ key → ⊥
parts_differ row key cols i c v w each below is left right differ same =
    let found : slice_get key i ≡ slice_get row c =
    ap (λ vs. slice_get vs i) (sym same) ∙ part_get row cols i each below ∙ ap (slice_get row) (sym is) in
    let both : Some v ≡ Some w = sym left ∙ sym found ∙ right in
    differ cc

-- where they are the same so far
pub parts_more : (row key : List Value) (cols : List ℕ) (i c : ℕ) (v w : Value) → All (λ c. c < length row) cols
    → i < length cols → c ≡ get_or cols i 0 → slice_get row c ≡ Some v → slice_get key i ≡ Some w → v ≡ w
    → part row (take i cols) ≡ take i key → part row (take (i + 1) cols) ≡ take (i + 1) key
parts_more row key cols i c v w each below is left right same so_far =
    let one : part row (c ∷ []) ≡ v ∷ [] = rw left refl in
    let front : take (i + 1) cols ≡ take i cols ++ c ∷ [] =
    take_more cols i 0 below ∙ ap (λ x. take i cols ++ x ∷ []) (sym is) in
    let key_front : take (i + 1) key ≡ take i key ++ w ∷ [] =
    take_more key i w (slice_get_within key i w right)
    ∙ ap (λ y. take i key ++ y ∷ []) (get_or_from_slice_get key i w w right) in
    ap (part row) front ∙ filter_map-append (slice_get row) (take i cols) (c ∷ [])
    ∙ ap (λ vs. part row (take i cols) ++ vs) one ∙ ap (λ vs. vs ++ v ∷ []) so_far
    ∙ ap (λ x. take i key ++ x ∷ []) same ∙ sym key_front
