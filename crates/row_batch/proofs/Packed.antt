-- What is packed is read again, and one row more.
use Rattle.std.proofs.Common.{◌≡◌, ◌<◌, ◌≤◌, ℕ, zero, suc, ◌+◌, ◌*◌, List, [], ◌∷◌, ◌++◌, length, get_or, Some, All, subst, ap, sym, ◌∙◌, refl, arith, length-append, append_assoc}
use Rattle.std.specs.Prelude.{slice_get}
use Rattle.std.specs.List.{flat_map}
use Rattle.std.proofs.lemmas.List.{append-nil}
use Rattle.std.proofs.lemmas.List.Concat.{flat_map-append}
use Rattle.std.proofs.lemmas.List.Elements.{All-head, All-tail, All-push, All-nil, All-cons}
use Rattle.std.proofs.lemmas.Option.{slice_get-get_or}
use Rattle.tuple_schema.specs.declared.value.Value.{Value}
use Rattle.tuple_schema.specs.declared.schema.Column.{Column}
use Rattle.tuple_schema.specs.Schemas.{Fits}
use Rattle.row_codec.specs.Rows.{value_bytes, row_bytes, rows_bytes}
use Rattle.row_codec.specs.Decoding.{row_at, IsRowOf, IsEncodable}
use Rattle.row_codec.proofs.Readings.{row_of_again}
use Rattle.row_codec.proofs.RowLemmas.{fits_long}
use Rattle.row_batch.specs.Packing.{BatchOf, places, value_places, rows_in, row_and, IsPacked, row_in, found_row, IsPackedRow}
use Rattle.row_batch.proofs.Places.{IsBetween, AreEven, between, even_between, length-places, places_push}

-- ---- the view

pub rows_again_before : (cs : List Column) (rows : List (List Value)) (rest : List ℕ) → All (IsRowOf cs) rows
    → rows_in cs (length rows) (rows_bytes rows ++ rest) ≡ rows
unfolding rows_in
rows_again_before cs [] rest each = refl
rows_again_before cs (r ∷ rs) rest each =
    let regrouped : rows_bytes (r ∷ rs) ++ rest ≡ row_bytes r ++ (rows_bytes rs ++ rest) =
    append_assoc (row_bytes r) (rows_bytes rs) rest in
    ap (λ bs. row_and (rows_in cs (length rs)) (row_at cs bs)) regrouped
    ∙ ap (row_and (rows_in cs (length rs)))
    (row_of_again cs r (rows_bytes rs ++ rest) (All-head (IsRowOf cs) r rs each))
    ∙ ap (λ others. r ∷ others) (rows_again_before cs rs rest (All-tail (IsRowOf cs) r rs each))

-- what is packed is seen as its rows
pub rows_again : (cs : List Column) (rows : List (List Value)) (count : ℕ) (bytes starts inner : List ℕ)
    → IsPacked cs rows count bytes starts inner → rows_in cs count bytes ≡ rows
rows_again cs rows count bytes starts inner is =
    ap (λ n. rows_in cs n bytes) is.counted
    ∙ ap (rows_in cs (length rows)) (is.bytes_are ∙ sym (append-nil (rows_bytes rows)))
    ∙ rows_again_before cs rows [] is.each

pub row_again : (cs : List Column) (row : List Value) → IsRowOf cs row → row_in cs (row_bytes row) ≡ row
unfolding row_in
row_again cs row is =
    ap (λ bs. found_row (row_at cs bs)) (sym (append-nil (row_bytes row))) ∙ ap found_row (row_of_again cs row [] is)

-- ---- one row

pub row_is : (cs : List Column) (rows : List (List Value)) (i : ℕ) (row : List Value) → All (IsRowOf cs) rows
    → slice_get rows i ≡ Some row → IsRowOf cs row
row_is cs [] i row each is = absurd cc
row_is cs (r ∷ rs) zero row each is =
    let same : r ≡ row = cc in subst (IsRowOf cs) same (All-head (IsRowOf cs) r rs each)
row_is cs (r ∷ rs) (suc i) row each is = row_is cs rs i row (All-tail (IsRowOf cs) r rs each) is

width_is : (cs : List Column) (row : List Value) → IsRowOf cs row → length (value_places row) ≡ length cs + 1
width_is cs row is = let long = fits_long cs row is.fits in omega (arith, length-places value_bytes row)

-- where a row lies in the buffers
pub record RowAt (cs : List Column) (row : List Value) (i : ℕ) (bytes starts inner : List ℕ) : Type 0 where
  pub row_is : IsRowOf cs row
  pub started : i + 1 < length starts
  pub outer : (from to : ℕ) → from ≡ get_or starts i from → to ≡ get_or starts (i + 1) to
      → IsBetween bytes (row_bytes row) from to
  pub places : IsBetween inner (value_places row) (i * (length cs + 1)) (i * (length cs + 1) + (length cs + 1))

pub row_at_place : (cs : List Column) (rows : List (List Value)) (count : ℕ) (bytes starts inner : List ℕ) (i : ℕ)
    → IsPacked cs rows count bytes starts inner → i < length rows → RowAt cs (get_or rows i []) i bytes starts inner
row_at_place cs rows count bytes starts inner i is in_rows =
    let here : slice_get rows i ≡ Some (get_or rows i []) = slice_get-get_or rows i [] in_rows in
    let even : AreEven value_places (length cs + 1) rows =
    record { each = λ j row there. width_is cs row (row_is cs rows j row is.each there) } in
    record {
      row_is = row_is cs rows i (get_or rows i []) is.each here;
      started = rw is.starts_are (omega (arith, length-places row_bytes rows));
      outer = λ from to from_is to_is. between row_bytes rows i
          (get_or rows i []) bytes starts from to is.bytes_are is.starts_are here from_is to_is;
      places = even_between value_places (length cs + 1) rows i (get_or rows i []) inner is.inner_are even here;
    }

abbrev pub batch_of : List Column → List (List Value) → BatchOf
batch_of cs rows = record { columns = cs; rows = rows }

-- each row of a batch that is seen so is one of its columns
pub seen_each : (cs : List Column) (rows : List (List Value)) (count : ℕ) (bytes starts inner : List ℕ) (seen : BatchOf)
    → IsPacked cs rows count bytes starts inner → batch_of cs rows ≡ seen → All (IsRowOf seen.columns) seen.rows
seen_each cs rows count bytes starts inner seen is seen_is =
    subst (λ (b : BatchOf). All (IsRowOf b.columns) b.rows) seen_is is.each

pub rows_fit : (cs : List Column) (rows : List (List Value)) → All (IsRowOf cs) rows → All (Fits cs) rows
rows_fit cs [] each = All-nil (Fits cs)
rows_fit cs (r ∷ rs) each =
    All-cons (Fits cs) r rs (All-head (IsRowOf cs) r rs each).fits (rows_fit cs rs (All-tail (IsRowOf cs) r rs each))

-- the same of a batch that is seen so, with its columns
pub row_seen : (cs : List Column) (rows : List (List Value)) (count : ℕ) (bytes starts inner : List ℕ)
    (seen : BatchOf) (columns : List Column) (i : ℕ)
    → IsPacked cs rows count bytes starts inner → batch_of cs rows ≡ seen → columns ≡ cs → i < length seen.rows
    → RowAt columns (get_or seen.rows i []) i bytes starts inner
row_seen cs rows count bytes starts inner seen columns i is seen_is same in_rows =
    let rows_seen : seen.rows ≡ rows = sym (ap (λ (b : BatchOf). b.rows) seen_is) in
    subst (λ (ks : List Column). RowAt ks (get_or seen.rows i []) i bytes starts inner) (sym same)
    (subst (λ (rs : List (List Value)). RowAt cs (get_or rs i []) i bytes starts inner) (sym rows_seen)
    (row_at_place cs rows count bytes starts inner i is (subst (λ (rs : List (List Value)). i < length rs) rows_seen in_rows)))

-- the slices of a view are those of its row
pub packed_row : (cs : List Column) (row : List Value) (bytes inner : List ℕ) → length cs ≤ 64 → IsRowOf cs row
    → bytes ≡ row_bytes row → inner ≡ value_places row
    → (row_in cs bytes ≡ row) × IsPackedRow cs (row_in cs bytes) bytes inner
packed_row cs row bytes inner narrow is spelled placed =
    let seen : row_in cs bytes ≡ row = ap (row_in cs) spelled ∙ row_again cs row is in
    (seen, subst (λ r. IsPackedRow cs r bytes inner) (sym seen) (record { narrow = narrow; row_is = is; bytes_are = spelled; inner_are = placed }))

pub view_row : (cs seen : List Column) (row : List Value) (bytes : List ℕ) → IsRowOf cs row → bytes ≡ row_bytes row
    → cs ≡ seen → IsRowOf seen (row_in cs bytes)
view_row cs seen row bytes is spelled same =
    subst (λ (ks : List Column). IsRowOf ks (row_in cs bytes)) same
    (subst (IsRowOf cs) (sym (ap (row_in cs) spelled ∙ row_again cs row is)) is)

-- ---- one row more

-- there are more places of rows than rows
pub counted_below : (cs : List Column) (rows : List (List Value)) (count : ℕ) (bytes starts inner : List ℕ)
    → IsPacked cs rows count bytes starts inner → count < length starts
counted_below cs rows count bytes starts inner is =
    let counted : count ≡ length rows = is.counted in
    rw is.starts_are (omega (arith, length-places row_bytes rows))

pub flat_map_push : {X : Type 0} (form : X → List ℕ) (xs : List X) (x : X)
    → flat_map form (xs ++ x ∷ []) ≡ flat_map form xs ++ form x
flat_map_push form xs x = flat_map-append form xs (x ∷ []) ∙ ap (λ bs. flat_map form xs ++ bs) (append-nil (form x))

pub one_more : (cs : List Column) (rows : List (List Value)) (count : ℕ) (bytes starts inner : List ℕ) (row : List Value)
    → IsPacked cs rows count bytes starts inner → IsRowOf cs row
    → IsPacked cs (rows ++ row ∷ []) (count + 1) (bytes ++ row_bytes row)
    (starts ++ (length bytes + length (row_bytes row)) ∷ []) (inner ++ value_places row)
one_more cs rows count bytes starts inner row is row_is =
    let size : length (rows_bytes rows) ≡ length bytes = ap length (sym is.bytes_are) in
    let longer : length (rows ++ row ∷ []) ≡ length rows + 1 = length-append rows (row ∷ []) in
    record {
      counted = let same : count ≡ length rows = is.counted in omega arith;
      each = All-push (IsRowOf cs) rows row is.each row_is;
      bytes_are = ap (λ bs. bs ++ row_bytes row) is.bytes_are ∙ sym (flat_map_push row_bytes rows row);
      starts_are = ap (λ ps. ps ++ (length bytes + length (row_bytes row)) ∷ []) is.starts_are
          ∙ ap (λ n. places row_bytes rows ++ (n + length (row_bytes row)) ∷ []) (sym size)
          ∙ sym (places_push row_bytes rows row);
      inner_are = ap (λ ps. ps ++ value_places row) is.inner_are ∙ sym (flat_map_push value_places rows row);
    }

-- the buffers after one row more, and what they are seen as
pub record OneMore (cs : List Column) (rows : List (List Value)) (row : List Value) (count : ℕ)
    (bytes starts inner : List ℕ) : Type 0 where
  pub packed : IsPacked cs (rows_in cs count bytes) count bytes starts inner
  pub seen : rows_in cs count bytes ≡ rows ++ row ∷ []

pushed_row : (cs : List Column) (rows : List (List Value)) (count : ℕ) (bytes starts inner : List ℕ)
    (row : List Value) (size : ℕ) (bytes2 starts2 inner2 : List ℕ)
    → IsPacked cs rows count bytes starts inner → IsRowOf cs row
    → size ≡ length bytes → bytes2 ≡ bytes ++ row_bytes row → starts2 ≡ starts ++ (size + length (row_bytes row)) ∷ []
    → inner2 ≡ inner ++ value_places row → OneMore cs rows row (count + 1) bytes2 starts2 inner2
pushed_row cs rows count bytes starts inner row size bytes2 starts2 inner2 is row_is sized more started placed =
    let starts_are : starts ++ (length bytes + length (row_bytes row)) ∷ [] ≡ starts2 =
    ap (λ n. starts ++ (n + length (row_bytes row)) ∷ []) (sym sized) ∙ sym started in
    let packed : IsPacked cs (rows ++ row ∷ []) (count + 1) bytes2 starts2 inner2 =
    subst (λ bs. IsPacked cs (rows ++ row ∷ []) (count + 1) bs starts2 inner2) (sym more)
    (subst (λ ss. IsPacked cs (rows ++ row ∷ []) (count + 1) (bytes ++ row_bytes row) ss inner2) starts_are
    (subst (IsPacked cs (rows ++ row ∷ []) (count + 1) (bytes ++ row_bytes row) (starts ++ (length bytes + length (row_bytes row)) ∷ [])) (sym placed) (one_more cs rows count bytes starts inner row is row_is))) in
    let seen : rows_in cs (count + 1) bytes2 ≡ rows ++ row ∷ [] =
    rows_again cs (rows ++ row ∷ []) (count + 1) bytes2 starts2 inner2 packed in
    record { packed = subst (λ rs. IsPacked cs rs (count + 1) bytes2 starts2 inner2) (sym seen) packed; seen = seen }

-- the same of a batch that is seen so
pub pushed_seen : (cs : List Column) (rows : List (List Value)) (count : ℕ) (bytes starts inner : List ℕ)
    (seen : BatchOf) (row : List Value) (size : ℕ) (bytes2 starts2 inner2 : List ℕ)
    → IsPacked cs rows count bytes starts inner → batch_of cs rows ≡ seen
    → Fits seen.columns row → All IsEncodable row → size ≡ length bytes
    → bytes2 ≡ bytes ++ row_bytes row → starts2 ≡ starts ++ (size + length (row_bytes row)) ∷ []
    → inner2 ≡ inner ++ value_places row
    → OneMore cs seen.rows row (count + 1) bytes2 starts2 inner2
pushed_seen cs rows count bytes starts inner seen row size bytes2 starts2 inner2 is seen_is fit encodable sized more started placed =
    let rows_seen : seen.rows ≡ rows = sym (ap (λ (b : BatchOf). b.rows) seen_is) in
    let columns_seen : seen.columns ≡ cs = sym (ap (λ (b : BatchOf). b.columns) seen_is) in
    subst (λ (rs : List (List Value)). OneMore cs rs row (count + 1) bytes2 starts2 inner2) (sym rows_seen)
    (pushed_row cs rows count bytes starts inner row size bytes2 starts2 inner2 is (record { fits = subst (λ (ks : List Column). Fits ks row) columns_seen fit; encodable = encodable }) sized more started placed)
