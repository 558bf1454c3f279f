-- The rows of a table decode exactly where its blocks are the stored form of lists of rows.
use Rattle.std.proofs.Common.{◌≡◌, ℕ, zero, suc, ◌+◌, ◌<◌, List, [], ◌∷◌, ◌++◌, length, drop, Result, Ok, Err, All, refl, sym, ap, subst, ◌∙◌}
use Rattle.std.proofs.lemmas.List.{drop_at}
use Rattle.std.proofs.lemmas.List.Concat.{flat_map-cons}
use Rattle.std.proofs.lemmas.List.Elements.{All-nil, All-cons, All-head, All-tail, All-drop}
use Rattle.tuple_schema.specs.declared.value.Value.{Value}
use Rattle.tuple_schema.specs.declared.schema.Column.{Column}
use Rattle.tuple_schema.specs.Stops.{◌>>=◌}
use Rattle.row_codec.specs.declared.decode.RowFault.{RowFault}
use Rattle.row_codec.specs.Rows.{row_bytes, rows_bytes}
use Rattle.row_codec.specs.Decoding.{row_at, IsRowOf, AreBytes}
use Rattle.commit_disk.specs.Table.{Stored}
use Rattle.table_read.specs.Rows.{or_place, no_rows_at, rows_at, block_rows, next_gate, table_rows, Stores, StoreAll}

-- the value of a step that did not fail
bind_ok : {A B F : Type 0} (r : Result A F) (f : A → Result B F) (y : B) → (r >>= f) ≡ Ok y → (x : A) × (r ≡ Ok x) × (f x ≡ Ok y)
bind_ok (Ok x) f y e = (x, refl, e)
bind_ok (Err d) f y e = absurd cc

or_ok : {X : Type 0} (place : ℕ) (reading : Result X RowFault) (x : X) → or_place place reading ≡ Ok x → reading ≡ Ok x
or_ok place (Ok y) x e = cc
or_ok place (Err f) x e = absurd cc

abbrev rows_done : List (List Value) → Result (List (List Value)) ℕ
rows_done rows = Ok rows

rows_is : (xs ys : List (List Value)) → rows_done xs ≡ rows_done ys → xs ≡ ys
rows_is xs ys e = cc

no_more : (place : ℕ) (bytes : List ℕ) (rows : List (List Value)) → no_rows_at place bytes ≡ Ok rows → (bytes ≡ []) × (rows ≡ [])
no_more place [] rows e = (refl, sym (rows_is [] rows e))
no_more place (b ∷ bytes) rows e = absurd cc

abbrev DecodesBack : Type 0
DecodesBack = (columns : List Column) (row : List Value) (rest : List ℕ) → IsRowOf columns row → row_at columns (row_bytes row ++ rest) ≡ Ok (row, rest)

abbrev EncodesBack : Type 0
EncodesBack = (columns : List Column) (bytes : List ℕ) (row : List Value) (rest : List ℕ) → AreBytes bytes → row_at columns bytes ≡ Ok (row, rest) → bytes ≡ row_bytes row ++ rest

abbrev ReadsRows : Type 0
ReadsRows = (columns : List Column) (bytes : List ℕ) (row : List Value) (rest : List ℕ) → AreBytes bytes → row_at columns bytes ≡ Ok (row, rest) → IsRowOf columns row

rest_bytes : (bytes front rest : List ℕ) → bytes ≡ front ++ rest → AreBytes bytes → AreBytes rest
rest_bytes bytes front rest e are =
    subst AreBytes (ap (drop (length front)) e ∙ drop_at front rest (length front) refl) (All-drop (λ b. b < 256) (length front) bytes are)

-- so many rows, and their bytes
record Spelled (columns : List Column) (count : ℕ) (bytes : List ℕ) (rows : List (List Value)) : Type 0 where
  counted : count ≡ length rows
  spelled : bytes ≡ rows_bytes rows
  of_columns : All (IsRowOf columns) rows

module _ (encodes : EncodesBack) (reads : ReadsRows) where
  rows_spelled : (columns : List Column) (count place : ℕ) (bytes : List ℕ) (rows : List (List Value)) → AreBytes bytes → rows_at columns count place bytes ≡ Ok rows → Spelled columns count bytes rows
  unfolding rows_at
  rows_spelled columns zero place bytes rows are e =
      let none = no_more place bytes rows e in
      subst (λ (rs : List (List Value)). Spelled columns zero bytes rs) (sym none.1) (record { counted = refl; spelled = none.0; of_columns = All-nil (IsRowOf columns) })
  rows_spelled columns (suc count) place bytes rows are e =
      let a = bind_ok (or_place place (row_at columns bytes)) (λ first. rows_at columns count (place + length (row_bytes first.0)) first.1 >>= λ others. Ok (first.0 ∷ others)) rows e in
      let row = a.0.0 in
      let rest = a.0.1 in
      let b = bind_ok (rows_at columns count (place + length (row_bytes row)) rest) (λ others. Ok (row ∷ others)) rows a.2 in
      let read : row_at columns bytes ≡ Ok (row, rest) = or_ok place (row_at columns bytes) a.0 a.1 in
      let parts : bytes ≡ row_bytes row ++ rest = encodes columns bytes row rest are read in
      let others = rows_spelled columns count (place + length (row_bytes row)) rest b.0 (rest_bytes bytes (row_bytes row) rest parts are) b.1 in
      subst (λ (rs : List (List Value)). Spelled columns (suc count) bytes rs) (rows_is (row ∷ b.0) rows b.2) (record {
        counted = ap suc others.counted;
        spelled = parts ∙ ap (λ (l : List ℕ). row_bytes row ++ l) others.spelled ∙ sym (flat_map-cons row_bytes row b.0);
        of_columns = All-cons (IsRowOf columns) row b.0 (reads columns bytes row rest are read) others.of_columns;
      })

  pub table_stored : (columns : List Column) (gate : ℕ) (blocks : List Stored) (rows : List (List Value)) → All (λ block. AreBytes block.bytes) blocks → table_rows columns gate blocks ≡ Ok rows → StoreAll columns blocks rows
  unfolding table_rows StoreAll
  table_stored columns gate [] rows are e = sym (rows_is [] rows e)
  table_stored columns gate (block ∷ blocks) rows are e =
      let a = bind_ok (block_rows columns gate block) (λ own. table_rows columns (next_gate gate block) blocks >>= λ others. Ok (own ++ others)) rows e in
      let b = bind_ok (table_rows columns (next_gate gate block) blocks) (λ others. Ok (a.0 ++ others)) rows a.2 in
      let own = rows_spelled columns block.count (gate + 10) block.bytes a.0 (All-head (λ block. AreBytes block.bytes) block blocks are) a.1 in
      let others = table_stored columns (next_gate gate block) blocks b.0 (All-tail (λ block. AreBytes block.bytes) block blocks are) b.1 in
      (a.0, b.0, record { counted = own.counted; spelled = own.spelled; of_columns = own.of_columns }, others, sym (rows_is (a.0 ++ b.0) rows b.2))

module _ (decodes : DecodesBack) where
  rows_again : (columns : List Column) (place : ℕ) (rows : List (List Value)) → All (IsRowOf columns) rows → rows_at columns (length rows) place (rows_bytes rows) ≡ Ok rows
  unfolding rows_at
  rows_again columns place [] are = refl
  rows_again columns place (row ∷ rows) are =
      ap (rows_at columns (suc (length rows)) place) (flat_map-cons row_bytes row rows)
      ∙ ap (λ r. or_place place r >>= λ first. rows_at columns (length rows) (place + length (row_bytes first.0)) first.1 >>= λ others. Ok (first.0 ∷ others))
      (decodes columns row (rows_bytes rows) (All-head (IsRowOf columns) row rows are))
      ∙ ap (λ r. r >>= λ others. Ok (row ∷ others)) (rows_again columns (place + length (row_bytes row)) rows (All-tail (IsRowOf columns) row rows are))

  stored_again : (columns : List Column) (place : ℕ) (block : Stored) (rows : List (List Value)) → Stores columns block rows → rows_at columns block.count place block.bytes ≡ Ok rows
  stored_again columns place block rows stores =
      ap (λ (n : ℕ). rows_at columns n place block.bytes) stores.counted
      ∙ ap (rows_at columns (length rows) place) stores.spelled
      ∙ rows_again columns place rows stores.of_columns

  pub table_again : (columns : List Column) (gate : ℕ) (blocks : List Stored) (rows : List (List Value)) → StoreAll columns blocks rows → table_rows columns gate blocks ≡ Ok rows
  unfolding table_rows StoreAll
  table_again columns gate [] rows stores = ap rows_done (sym stores)
  table_again columns gate (block ∷ blocks) rows (own, others, here, more, whole) =
      ap (λ r. r >>= λ first. table_rows columns (next_gate gate block) blocks >>= λ behind. Ok (first ++ behind)) (stored_again columns (gate + 10) block own here)
      ∙ ap (λ r. r >>= λ behind. Ok (own ++ behind)) (table_again columns (next_gate gate block) blocks others more)
      ∙ ap rows_done (sym whole)
