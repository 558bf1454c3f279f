-- The keys of rows and their bytes, with one row more.
use Rattle.std.proofs.Common.{◌≡◌, ℕ, ◌<◌, List, [], ◌∷◌, ◌++◌, length, map, cond, slice_get, All, Bool, true, false, Some, inl, inr, refl, sym, ap, subst, ◌∙◌, arith}
use Rattle.std.specs.Str.{bytes_eq}
use Rattle.std.specs.List.{cons_option, list_any}
use Rattle.std.proofs.lemmas.List.Elements.{All-nil, All-cons, All-head, All-tail, All-get_or, All-push, All-weaker}
use Rattle.std.proofs.lemmas.Option.{slice_get_cases, slice_get_within, get_or_from_slice_get}
use Rattle.tuple_schema.specs.declared.value.Value.TheVariants as value
use Rattle.tuple_schema.specs.declared.schema.Column.{Column}
use Rattle.tuple_schema.specs.Tuples.{part}
use Rattle.row_codec.specs.Rows.{row_bytes}
use Rattle.row_codec.specs.Decoding.{IsEncodable, IsRowOf}
use Rattle.row_batch.specs.Packing.{row_in}
use Rattle.list_algebra.specs.Bags.{Tuple, same}
use Rattle.kind_laws.specs.Keys.{AreKept, columns_at, key_number, with_key}
use Rattle.kind_laws.proofs.KeysNumbered.{number_form, with_form}
use Rattle.kind_laws.proofs.Rows.{value_at}

column_there : (columns : List Column) (col : ℕ) → col < length columns → (c : Column) × (slice_get columns col ≡ Some c)
column_there columns col small =
    elim (slice_get_cases columns col).1 [
      | inl h ↦ (h.0, h.2)
      | inr h ↦ absurd (omega (arith, h.0, small))
    ]

-- the part of a row is a row of the columns at its places
pub part_of : (columns : List Column) (row : Tuple) (cols : List ℕ) → All (λ c. c < length columns) cols → IsRowOf columns row
    → IsRowOf (columns_at columns cols) (part row cols)
part_of columns row [] within is = record { fits = refl; encodable = All-nil IsEncodable }
part_of columns row (col ∷ cols) within is =
    let column = column_there columns col (All-head (λ c. c < length columns) col cols within) in
    let v = value_at columns row col column.0 column.1 is.fits in
    let form : IsEncodable v.0 =
    subst IsEncodable (get_or_from_slice_get row col v.0 value.Null v.1)
    (All-get_or IsEncodable row col value.Null (slice_get_within row col v.0 v.1) is.encodable) in
    let rest = part_of columns row cols (All-tail (λ c. c < length columns) col cols within) is in
    let columns_are : columns_at columns (col ∷ cols) ≡ column.0 ∷ columns_at columns cols =
    ap (λ found. cons_option found (columns_at columns cols)) column.1 in
    let values_are : part row (col ∷ cols) ≡ v.0 ∷ part row cols = ap (λ found. cons_option found (part row cols)) v.1 in
    subst (λ cs. IsRowOf cs (part row (col ∷ cols))) (sym columns_are)
    (subst (λ vs. IsRowOf (column.0 ∷ columns_at columns cols) vs) (sym values_are)
    record { fits = rw v.2 rest.fits; encodable = All-cons IsEncodable v.0 (part row cols) form rest.encodable })

all_chosen : {X : Type 0} (P : X → Type 0) (known : Bool) (xs : List X) (x : X) → All P xs → P x → All P (cond known xs (xs ++ x ∷ []))
all_chosen P true xs x each here = each
all_chosen P false xs x each here = All-push P xs x each here

-- rows that are read again from their bytes
read_all : (read : List ℕ → Tuple) (rows : List Tuple) → All (λ row. read (row_bytes row) ≡ row) rows → map read (map row_bytes rows) ≡ rows
read_all read [] each = refl
read_all read (row ∷ rows) each =
    let here = All-head (λ row. read (row_bytes row) ≡ row) row rows each in
    let rest = read_all read rows (All-tail (λ row. read (row_bytes row) ≡ row) row rows each) in
    ap (λ r. r ∷ map read (map row_bytes rows)) here ∙ ap (λ rs. row ∷ rs) rest

module _ (same_bytes : (columns : List Column) (one other : Tuple) → IsRowOf columns one → IsRowOf columns other → bytes_eq (row_bytes one) (row_bytes other) ≡ same one other)
    (read_again : (columns : List Column) (row : Tuple) → IsRowOf columns row → row_in columns (row_bytes row) ≡ row)
    (columns : List Column) (cols : List ℕ) (seen : List (List ℕ)) (kept : AreKept columns cols (map (row_in (columns_at columns cols)) seen) seen)
    (row : Tuple) (is : IsRowOf columns row)
  where
    abbrev read : List ℕ → Tuple
    read = row_in (columns_at columns cols)

    is_key : IsRowOf (columns_at columns cols) (part row cols)
    is_key = part_of columns row cols kept.within is

    agree : All (λ key. bytes_eq (row_bytes (part row cols)) (row_bytes key) ≡ same (part row cols) key) (map read seen)
    agree =
        All-weaker (IsRowOf (columns_at columns cols)) (λ key. bytes_eq (row_bytes (part row cols)) (row_bytes key) ≡ same (part row cols) key)
        (λ key one. same_bytes (columns_at columns cols) (part row cols) key is_key one) (map read seen) kept.each

    -- the number of the row's key among the bytes is that among the keys
    pub number_now : key_number bytes_eq seen (row_bytes (part row cols)) ≡ key_number same (map read seen) (part row cols)
    number_now =
        ap (λ bs. key_number bytes_eq bs (row_bytes (part row cols))) kept.bytes_are
        ∙ number_form row_bytes same bytes_eq (map read seen) (part row cols) agree

    each_now : All (IsRowOf (columns_at columns cols)) (with_key same (map read seen) (part row cols))
    each_now = all_chosen (IsRowOf (columns_at columns cols)) (list_any (same (part row cols)) (map read seen)) (map read seen) (part row cols) kept.each is_key

    bytes_now : with_key bytes_eq seen (row_bytes (part row cols)) ≡ map row_bytes (with_key same (map read seen) (part row cols))
    bytes_now =
        ap (λ bs. with_key bytes_eq bs (row_bytes (part row cols))) kept.bytes_are
        ∙ with_form row_bytes same bytes_eq (map read seen) (part row cols) agree

    -- with its bytes among the bytes it is among the keys
    pub keys_now : (now : List (List ℕ)) → now ≡ with_key bytes_eq seen (row_bytes (part row cols)) → map read now ≡ with_key same (map read seen) (part row cols)
    keys_now now grown =
        ap (map read) (grown ∙ bytes_now)
        ∙ read_all read (with_key same (map read seen) (part row cols))
        (All-weaker (IsRowOf (columns_at columns cols)) (λ key. read (row_bytes key) ≡ key) (read_again (columns_at columns cols)) (with_key same (map read seen) (part row cols)) each_now)

    pub kept_now : (now : List (List ℕ)) → now ≡ with_key bytes_eq seen (row_bytes (part row cols)) → AreKept columns cols (map read now) now
    kept_now now grown = record {
      within = kept.within;
      each = subst (All (IsRowOf (columns_at columns cols))) (sym (keys_now now grown)) each_now;
      bytes_are = grown ∙ bytes_now ∙ ap (map row_bytes) (sym (keys_now now grown));
    }
