-- The row at the front of bytes, value by value.
use Rattle.std.proofs.Common.{◌≡◌, ◌<◌, ◌≤◌, ℕ, ◌+◌, ◌*◌, List, [], ◌∷◌, ◌++◌, length, take, drop, get_or, All, Ok, Err, subst, ap, sym, ◌∙◌, refl, arith, length-append, append_assoc}
use Rattle.std.specs.Prelude.{slice_range, ◌-◌}
use Rattle.std.proofs.Math.Seq.{take-add}
use Rattle.std.proofs.lemmas.List.{length-take, length-drop, drop-drop, take_all}
use Rattle.std.proofs.lemmas.List.Elements.{All-push, All-nil}
use Rattle.tuple_schema.specs.declared.memory.Stop.TheVariants as stop
use Rattle.tuple_schema.specs.declared.value.Value.{Value}
use Rattle.tuple_schema.specs.declared.schema.Column.{Column}
use Rattle.row_codec.specs.declared.decode.RowFault.{RowFault}
use Rattle.row_codec.specs.Rows.{value_bytes, row_bytes}
use Rattle.row_codec.specs.Decoding.{value_at, row_at, BeginsWithValue, BeginsWithRow, IsEncodable, AreBytes}
use Rattle.row_codec.proofs.Readings.{row_take}
use Rattle.row_codec.proofs.ReadingLoop.{with_front, goes_on, ends, is_done}
use Rattle.row_batch.specs.Packing.{BatchOf, value_places, IsPacked, TakesPlaces}
use Rattle.row_batch.proofs.Places.{places_push}
use Rattle.row_batch.proofs.Fields.{row_size}
use Rattle.row_batch.proofs.Packed.{batch_of, flat_map_push, OneMore, pushed_seen}

-- so many values of the row were read, and their places came behind the old ones
pub record Walked (cs : List Column) (front : List ℕ) (k len : ℕ) (old new : List ℕ) : Type 0 where
  pub row : List Value
  pub reading : with_front row (row_at (drop k cs) (drop len front)) ≡ row_at cs front
  pub spelled : take len front ≡ row_bytes row
  pub within : len ≤ length front
  pub encodable : All IsEncodable row
  pub long : length row ≡ k
  pub placed : new ≡ old ++ value_places row

with_none : (reading : _) → with_front [] reading ≡ reading
with_none (Ok found) = refl
with_none (Err f) = refl

pub walk_begins : (cs : List Column) (front old new : List ℕ) → new ≡ old ++ 0 ∷ [] → Walked cs front 0 0 old new
walk_begins cs front old new placed = record {
  row = [];
  reading = with_none (row_at cs front);
  spelled = refl;
  within = omega arith;
  encodable = All-nil IsEncodable;
  long = refl;
  placed = placed;
}

-- what is behind a place
rest_is : (xs : List ℕ) (n : ℕ) → slice_range xs n (length xs) ≡ drop n xs
rest_is xs n = take_all (length xs - n) (drop n xs) (omega (arith, length-drop n xs))

pub walks_on : (cs : List Column) (front : List ℕ) (k len : ℕ) (old now new : List ℕ) (c : Column) (size : ℕ) (v : Value)
    → Walked cs front k len old now → k < length cs → c ≡ get_or cs k c → BeginsWithValue c (slice_range front len (length front)) size v
    → new ≡ now ++ (len + size) ∷ [] → Walked cs front (k + 1) (len + size) old new
walks_on cs front k len old now new c size v so_far below is begins_here more =
    let begins = subst (λ bs. BeginsWithValue c bs size v) (rest_is front len) begins_here in
    let so_within = so_far.within in
    let v_within = begins.within in
    let so_long : length so_far.row ≡ k = so_far.long in
    let len_is : length (row_bytes so_far.row) ≡ len =
    sym (ap length so_far.spelled) ∙ omega (arith, length-take len front) in
    let size_is : length (value_bytes v) ≡ size =
    sym (ap length begins.front) ∙ omega (arith, length-take size (drop len front)) in
    let place : value_places (so_far.row ++ v ∷ []) ≡ value_places so_far.row ++ (len + size) ∷ [] =
    places_push value_bytes so_far.row v
    ∙ ap (λ n. value_places so_far.row ++ (n + length (value_bytes v)) ∷ []) len_is
    ∙ ap (λ n. value_places so_far.row ++ (len + n) ∷ []) size_is in
    record {
      row = so_far.row ++ v ∷ [];
      reading = ap (λ bs. with_front (so_far.row ++ v ∷ []) (row_at (drop (k + 1) cs) bs)) (sym (drop-drop size len front))
          ∙ goes_on cs k c so_far.row (drop len front) v (drop size (drop len front)) (row_at cs front) below is begins.reading so_far.reading;
      spelled = take-add len size front
          ∙ ap (λ bs. bs ++ take size (drop len front)) so_far.spelled
          ∙ ap (λ bs. row_bytes so_far.row ++ bs) begins.front
          ∙ sym (flat_map_push value_bytes so_far.row v);
      within = omega (arith, length-drop len front);
      encodable = All-push IsEncodable so_far.row v so_far.encodable begins.encodable;
      long = omega (arith, length-append so_far.row (v ∷ []));
      placed = more ∙ ap (λ ps. ps ++ (len + size) ∷ []) so_far.placed
          ∙ append_assoc old (value_places so_far.row) ((len + size) ∷ [])
          ∙ ap (λ ps. old ++ ps) (sym place);
    }

-- a value that isn't there is the fault of the row
pub walk_stops : (cs : List Column) (front : List ℕ) (k len : ℕ) (old now : List ℕ) (c : Column) (f : RowFault)
    → Walked cs front k len old now → k < length cs → c ≡ get_or cs k c → value_at c (slice_range front len (length front)) ≡ Err f
    → row_at cs front ≡ Err f
walk_stops cs front k len old now c f so_far below is none =
    ends (stop.Fault f) cs k c so_far.row (drop len front) (row_at cs front) below is (ap (value_at c) (sym (rest_is front len)) ∙ none) so_far.reading

pub walk_ends : (cs : List Column) (front : List ℕ) (k len : ℕ) (old new : List ℕ) → AreBytes front
    → Walked cs front k len old new → length cs ≤ k → TakesPlaces cs front len old new
walk_ends cs front k len old new are so_far over =
    let reading : row_at cs front ≡ Ok (so_far.row, drop len front) =
    is_done cs k so_far.row (drop len front) (row_at cs front) over so_far.reading in
    record {
      row = so_far.row;
      begins = record {
        reading = reading;
        within = so_far.within;
        front = so_far.spelled;
        fits = (row_take cs front (so_far.row, drop len front) are reading).1.fits;
      };
      encodable = so_far.encodable;
      placed = so_far.placed;
    }

-- so many values have few bytes
pub walk_few : (cs : List Column) (front : List ℕ) (k len : ℕ) (old new : List ℕ) → Walked cs front k len old new
    → len ≤ 4099 * k
walk_few cs front k len old new so_far =
    let within = so_far.within in
    let long : length so_far.row ≡ k = so_far.long in
    let len_is : length (row_bytes so_far.row) ≡ len =
    sym (ap length so_far.spelled) ∙ omega (arith, length-take len front) in
    omega (arith, row_size so_far.row so_far.encodable)

-- the row of a batch that is seen so
pub front_pushed : (cs : List Column) (rows : List (List Value)) (count : ℕ) (bytes starts inner : List ℕ)
    (seen : BatchOf) (columns : List Column) (front : List ℕ) (len size : ℕ) (bytes2 starts2 inner2 : List ℕ)
    → IsPacked cs rows count bytes starts inner → batch_of cs rows ≡ seen → columns ≡ cs
    → (takes : TakesPlaces columns front len inner inner2) → size ≡ length bytes
    → bytes2 ≡ bytes ++ take len front → starts2 ≡ starts ++ (size + len) ∷ []
    → BeginsWithRow seen.columns front len takes.row × OneMore cs seen.rows takes.row (count + 1) bytes2 starts2 inner2
front_pushed cs rows count bytes starts inner seen columns front len size bytes2 starts2 inner2 is seen_is same takes sized more started =
    let within = takes.begins.within in
    let columns_are : columns ≡ seen.columns = same ∙ ap (λ (b : BatchOf). b.columns) seen_is in
    let begins : BeginsWithRow seen.columns front len takes.row =
    subst (λ (ks : List Column). BeginsWithRow ks front len takes.row) columns_are takes.begins in
    let long : len ≡ length (row_bytes takes.row) =
    sym (omega (arith, length-take len front)) ∙ ap length takes.begins.front in (
      begins,
      pushed_seen cs rows count bytes starts inner seen takes.row size bytes2 starts2 inner2 is seen_is begins.fits takes.encodable sized
          (more ∙ ap (λ bs. bytes ++ bs) takes.begins.front) (started ∙ ap (λ n. starts ++ (size + n) ∷ []) long) takes.placed,
    )
