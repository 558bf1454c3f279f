-- A batch that is made field by field: one value more, one row more, and its end.
use Rattle.std.proofs.Common.{◌≡◌, ◌<◌, ◌≤◌, ℕ, suc, ◌+◌, ◌-◌, List, [], ◌∷◌, ◌++◌, length, take, drop, subst, ap, sym, ◌∙◌, refl, arith, length-append, append_assoc}
use Rattle.std.specs.List.{flat_map}
use Rattle.std.proofs.lemmas.Bool.{and_parts, and_from}
use Rattle.std.proofs.lemmas.List.{append-nil, take_all, length-take, take_at, drop_at}
use Rattle.std.proofs.lemmas.List.Elements.{All-push, All-nil}
use Rattle.tuple_schema.specs.declared.value.Value.{Value}
use Rattle.tuple_schema.specs.declared.schema.Column.{Column}
use Rattle.tuple_schema.specs.Schemas.{is_of, fits, Fits}
use Rattle.row_codec.specs.Rows.{value_bytes, row_bytes, rows_bytes}
use Rattle.row_codec.specs.Decoding.{IsRowOf, IsEncodable}
use Rattle.row_codec.proofs.RowLemmas.{fits_long}
use Rattle.row_batch.specs.Packing.{BuilderOf, value_places, rows_in, row_in, FitsNext, IsPacked, IsBuilt}
use Rattle.row_batch.proofs.Places.{length-places, places_push}
use Rattle.row_batch.proofs.Packed.{rows_again_before, rows_again, row_again, one_more, flat_map_push}
use Rattle.row_batch.proofs.Fields.{row_size}

-- what is seen in the buffers
pub record Building (cs : List Column) (rows : List (List Value)) (begun : List Value) (count start size : ℕ)
    (bytes starts inner : List ℕ) : Type 0 where
  pub built : IsBuilt cs (rows_in cs count bytes) (row_in (take size cs) (drop start bytes)) count start size bytes starts inner
  pub rows_are : rows_in cs count bytes ≡ rows
  pub begun_are : row_in (take size cs) (drop start bytes) ≡ begun

building : (cs : List Column) (rows : List (List Value)) (begun : List Value) (count start size : ℕ)
    (bytes starts inner : List ℕ) → IsBuilt cs rows begun count start size bytes starts inner
    → Building cs rows begun count start size bytes starts inner
building cs rows begun count start size bytes starts inner is =
    let rows_are : rows_in cs count bytes ≡ rows =
    ap (λ n. rows_in cs n bytes) is.whole.counted ∙ ap (rows_in cs (length rows)) is.bytes_are
    ∙ rows_again_before cs rows (row_bytes begun) is.whole.each in
    let begun_are : row_in (take size cs) (drop start bytes) ≡ begun =
    ap (λ bs. row_in (take size cs) (drop start bs)) is.bytes_are
    ∙ ap (row_in (take size cs)) (drop_at (rows_bytes rows) (row_bytes begun) start (sym is.started))
    ∙ row_again (take size cs) begun is.begun_is in
    record {
      built = subst (λ rs. IsBuilt cs rs (row_in (take size cs) (drop start bytes)) count start size bytes starts inner) (sym rows_are)
          (subst (λ b. IsBuilt cs rows b count start size bytes starts inner) (sym begun_are) is);
      rows_are = rows_are;
      begun_are = begun_are;
    }

-- no rows, and no value of the first
pub none_built : (cs : List Column) (bytes starts inner : List ℕ) → length cs ≤ 64 → bytes ≡ [] → starts ≡ 0 ∷ [] → inner ≡ 0 ∷ []
    → Building cs [] [] 0 0 0 bytes starts inner
none_built cs bytes starts inner narrow no_bytes one_start one_place =
    building cs [] [] 0 0 0 bytes starts inner (record {
      narrow = narrow;
      whole = record { counted = refl; each = All-nil (IsRowOf cs); bytes_are = refl; starts_are = one_start; inner_are = refl };
      started = refl;
      sized = refl;
      begun_is = record { fits = refl; encodable = All-nil IsEncodable };
      bytes_are = no_bytes;
      inner_are = one_place;
    })

-- ---- one value more

fits_push : (cs : List Column) (vs : List Value) (v : Value) → length vs < length cs → FitsNext cs vs v
    → Fits (take (length vs) cs) vs → Fits (take (suc (length vs)) cs) (vs ++ v ∷ [])
fits_push [] vs v below next fit = absurd (omega arith)
fits_push (c ∷ cs) [] v below next fit = and_from (is_of c.kind c.nullable v) (fits [] []) next refl
fits_push (c ∷ cs) (x ∷ xs) v below next fit =
    let both = and_parts (is_of c.kind c.nullable x) (fits (take (length xs) cs) xs) fit in
    and_from (is_of c.kind c.nullable x) (fits (take (suc (length xs)) cs) (xs ++ v ∷ [])) both.0
    (fits_push cs xs v (omega arith) next both.1)

one_value : (cs : List Column) (rows : List (List Value)) (begun : List Value) (count start size : ℕ)
    (bytes starts inner : List ℕ) (v : Value) → IsBuilt cs rows begun count start size bytes starts inner
    → length begun < length cs → FitsNext cs begun v → IsEncodable v
    → IsBuilt cs rows (begun ++ v ∷ []) count start (size + 1) (bytes ++ value_bytes v) starts
    (inner ++ (length bytes + length (value_bytes v) - start) ∷ [])
one_value cs rows begun count start size bytes starts inner v is below next encodable =
    let sized : size ≡ length begun = is.sized in
    let size_is : suc (length begun) ≡ size + 1 = omega arith in
    let fit = fits_push cs begun v below next (subst (λ n. Fits (take n cs) begun) sized is.begun_is.fits) in
    let place : length (row_bytes begun) + length (value_bytes v) ≡ length bytes + length (value_bytes v) - start =
    rw (is.bytes_are, is.started) (omega (arith, length-append (rows_bytes rows) (row_bytes begun))) in
    record {
      narrow = is.narrow;
      whole = is.whole;
      started = is.started;
      sized = omega (arith, length-append begun (v ∷ []));
      begun_is = record {
        fits = subst (λ n. Fits (take n cs) (begun ++ v ∷ [])) size_is fit;
        encodable = All-push IsEncodable begun v is.begun_is.encodable encodable;
      };
      bytes_are = ap (λ bs. bs ++ value_bytes v) is.bytes_are
          ∙ append_assoc (rows_bytes rows) (row_bytes begun) (value_bytes v)
          ∙ ap (λ bs. rows_bytes rows ++ bs) (sym (flat_map_push value_bytes begun v));
      inner_are = ap (λ n. inner ++ n ∷ []) (sym place)
          ∙ ap (λ ps. ps ++ (length (row_bytes begun) + length (value_bytes v)) ∷ []) is.inner_are
          ∙ append_assoc (flat_map value_places rows) (value_places begun) ((length (row_bytes begun) + length (value_bytes v)) ∷ [])
          ∙ ap (λ ps. flat_map value_places rows ++ ps) (sym (places_push value_bytes begun v));
    }

abbrev pub builder_of : List Column → List (List Value) → List Value → BuilderOf
builder_of cs rows begun = record { columns = cs; rows = rows; begun = begun }

-- where the row that is begun lies in the buffers
pub record BegunAt (cs : List Column) (seen : BuilderOf) (start size : ℕ) (bytes starts inner : List ℕ) : Type 0 where
  pub columns : cs ≡ seen.columns
  pub behind : start ≤ length bytes
  pub near : length bytes ≤ start + 262336
  pub sized : size ≡ length seen.begun
  pub places : size < length inner

pub begun_at : (cs : List Column) (rows : List (List Value)) (begun : List Value) (count start size : ℕ)
    (bytes starts inner : List ℕ) (seen : BuilderOf) → IsBuilt cs rows begun count start size bytes starts inner
    → builder_of cs rows begun ≡ seen → BegunAt cs seen start size bytes starts inner
begun_at cs rows begun count start size bytes starts inner seen is seen_is =
    let long : length bytes ≡ length (rows_bytes rows) + length (row_bytes begun) =
    ap length is.bytes_are ∙ length-append (rows_bytes rows) (row_bytes begun) in
    let inner_long : length inner ≡ length (flat_map value_places rows) + length (value_places begun) =
    ap length is.inner_are ∙ length-append (flat_map value_places rows) (value_places begun) in
    let started : start ≡ length (rows_bytes rows) = is.started in
    let sized : size ≡ length begun = is.sized in
    let narrow = is.narrow in
    let wide = fits_long (take size cs) begun is.begun_is.fits in
    let few : length begun ≤ 64 = omega (arith, length-take size cs) in
    record {
      columns = ap (λ (b : BuilderOf). b.columns) seen_is;
      behind = omega arith;
      near = omega (arith, row_size begun is.begun_is.encodable);
      sized = is.sized ∙ ap (λ (b : BuilderOf). length b.begun) seen_is;
      places = omega (arith, length-places value_bytes begun);
    }

-- the same of a builder that is seen so
pub added : (cs : List Column) (rows : List (List Value)) (begun : List Value) (count start size : ℕ)
    (bytes starts inner : List ℕ) (seen : BuilderOf) (v : Value) (len : ℕ) (bytes2 inner2 : List ℕ)
    → IsBuilt cs rows begun count start size bytes starts inner → builder_of cs rows begun ≡ seen
    → length seen.begun < length seen.columns → FitsNext seen.columns seen.begun v → IsEncodable v
    → len ≡ length bytes → bytes2 ≡ bytes ++ value_bytes v
    → inner2 ≡ inner ++ (len + length (value_bytes v) - start) ∷ []
    → Building cs seen.rows (seen.begun ++ v ∷ []) count start (size + 1) bytes2 starts inner2
added cs rows begun count start size bytes starts inner seen v len bytes2 inner2 is seen_is below next encodable len_is more placed =
    let place : inner ++ (length bytes + length (value_bytes v) - start) ∷ [] ≡ inner2 =
    ap (λ n. inner ++ (n + length (value_bytes v) - start) ∷ []) (sym len_is) ∙ sym placed in
    subst (λ (b : BuilderOf). length b.begun < length b.columns → FitsNext b.columns b.begun v
    → Building cs b.rows (b.begun ++ v ∷ []) count start (size + 1) bytes2 starts inner2) seen_is
    (λ below_is next_is. building cs rows (begun ++ v ∷ []) count start (size + 1) bytes2 starts inner2
    (subst (λ bs. IsBuilt cs rows (begun ++ v ∷ []) count start (size + 1) bs starts inner2) (sym more)
    (subst (IsBuilt cs rows (begun ++ v ∷ []) count start (size + 1) (bytes ++ value_bytes v) starts) place
    (one_value cs rows begun count start size bytes starts inner v is below_is next_is encodable))))
    below next

-- ---- one row more

one_row : (cs : List Column) (rows : List (List Value)) (begun : List Value) (count start size : ℕ)
    (bytes starts inner : List ℕ) → IsBuilt cs rows begun count start size bytes starts inner
    → length begun ≡ length cs
    → IsBuilt cs (rows ++ begun ∷ []) [] (count + 1) (length bytes) 0 bytes (starts ++ length bytes ∷ []) (inner ++ 0 ∷ [])
one_row cs rows begun count start size bytes starts inner is long =
    let sized : size ≡ length begun = is.sized in
    let row_is : IsRowOf cs begun =
    subst (λ ks. IsRowOf ks begun) (take_all size cs (omega arith)) is.begun_is in
    let bytes_are : bytes ≡ rows_bytes (rows ++ begun ∷ []) = is.bytes_are ∙ sym (flat_map_push row_bytes rows begun) in
    let end : length (rows_bytes rows) + length (row_bytes begun) ≡ length bytes =
    sym (ap length is.bytes_are ∙ length-append (rows_bytes rows) (row_bytes begun)) in
    record {
      narrow = is.narrow;
      whole = subst (λ n. IsPacked cs (rows ++ begun ∷ []) (count + 1) (rows_bytes (rows ++ begun ∷ [])) (starts ++ n ∷ []) (flat_map value_places (rows ++ begun ∷ []))) end
          (subst (IsPacked cs (rows ++ begun ∷ []) (count + 1) (rows_bytes (rows ++ begun ∷ [])) (starts ++ (length (rows_bytes rows) + length (row_bytes begun)) ∷ [])) (sym (flat_map_push value_places rows begun))
          (subst (λ bs. IsPacked cs (rows ++ begun ∷ []) (count + 1) bs (starts ++ (length (rows_bytes rows) + length (row_bytes begun)) ∷ []) (flat_map value_places rows ++ value_places begun)) (sym (flat_map_push row_bytes rows begun))
          (one_more cs rows count (rows_bytes rows) starts (flat_map value_places rows) begun is.whole row_is)));
      started = ap length bytes_are;
      sized = refl;
      begun_is = record { fits = refl; encodable = All-nil IsEncodable };
      bytes_are = bytes_are ∙ sym (append-nil (rows_bytes (rows ++ begun ∷ [])));
      inner_are = ap (λ ps. ps ++ 0 ∷ []) (is.inner_are ∙ sym (flat_map_push value_places rows begun));
    }

-- the same of a builder that is seen so
pub ended : (cs : List Column) (rows : List (List Value)) (begun : List Value) (count start size : ℕ)
    (bytes starts inner : List ℕ) (seen : BuilderOf) (end : ℕ) (starts2 inner2 : List ℕ)
    → IsBuilt cs rows begun count start size bytes starts inner → builder_of cs rows begun ≡ seen
    → length seen.begun ≡ length seen.columns → end ≡ length bytes
    → starts2 ≡ starts ++ end ∷ [] → inner2 ≡ inner ++ 0 ∷ []
    → Building cs (seen.rows ++ seen.begun ∷ []) [] (count + 1) end 0 bytes starts2 inner2
ended cs rows begun count start size bytes starts inner seen end starts2 inner2 is seen_is whole end_is started placed =
    subst (λ (b : BuilderOf). length b.begun ≡ length b.columns
    → Building cs (b.rows ++ b.begun ∷ []) [] (count + 1) end 0 bytes starts2 inner2) seen_is
    (λ long. building cs (rows ++ begun ∷ []) [] (count + 1) end 0 bytes starts2 inner2
    (subst (λ ss. IsBuilt cs (rows ++ begun ∷ []) [] (count + 1) end 0 bytes ss inner2) (sym started)
    (subst (IsBuilt cs (rows ++ begun ∷ []) [] (count + 1) end 0 bytes (starts ++ end ∷ [])) (sym placed)
    (subst (λ n. IsBuilt cs (rows ++ begun ∷ []) [] (count + 1) n 0 bytes (starts ++ n ∷ []) (inner ++ 0 ∷ [])) (sym end_is)
    (one_row cs rows begun count start size bytes starts inner is long)))))
    whole

-- ---- the end

-- the whole rows alone, and what they are seen as
pub record Finished (cs : List Column) (seen : BuilderOf) (count : ℕ) (bytes starts inner : List ℕ) : Type 0 where
  pub packed : IsPacked cs (rows_in cs count bytes) count bytes starts inner
  pub rows_are : rows_in cs count bytes ≡ seen.rows

pub finished : (cs : List Column) (rows : List (List Value)) (begun : List Value) (count start size : ℕ)
    (bytes starts inner : List ℕ) (seen : BuilderOf) (bytes2 inner2 : List ℕ) (left : ℕ)
    → IsBuilt cs rows begun count start size bytes starts inner → builder_of cs rows begun ≡ seen
    → left ≡ length inner - size - 1 → bytes2 ≡ take start bytes → inner2 ≡ take left inner
    → Finished cs seen count bytes2 starts inner2
finished cs rows begun count start size bytes starts inner seen bytes2 inner2 left is seen_is left_is cut cut_places =
    let bytes_are : bytes2 ≡ rows_bytes rows =
    cut ∙ ap (take start) is.bytes_are ∙ take_at (rows_bytes rows) (row_bytes begun) start (sym is.started) in
    let inner_long : length inner ≡ length (flat_map value_places rows) + length (value_places begun) =
    ap length is.inner_are ∙ length-append (flat_map value_places rows) (value_places begun) in
    let sized : size ≡ length begun = is.sized in
    let left_long : length (flat_map value_places rows) ≡ left = omega (arith, length-places value_bytes begun) in
    let inner_are : inner2 ≡ flat_map value_places rows =
    cut_places ∙ ap (take left) is.inner_are ∙ take_at (flat_map value_places rows) (value_places begun) left left_long in
    let packed : IsPacked cs rows count bytes2 starts inner2 =
    subst (λ bs. IsPacked cs rows count bs starts inner2) (sym bytes_are)
    (subst (IsPacked cs rows count (rows_bytes rows) starts) (sym inner_are) is.whole) in
    let rows_are : rows_in cs count bytes2 ≡ rows = rows_again cs rows count bytes2 starts inner2 packed in
    record {
      packed = subst (λ rs. IsPacked cs rs count bytes2 starts inner2) (sym rows_are) packed;
      rows_are = rows_are ∙ ap (λ (b : BuilderOf). b.rows) seen_is;
    }
