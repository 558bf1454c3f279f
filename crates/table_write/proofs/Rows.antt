-- One row more in a block.
use Rattle.std.proofs.Common.{◌≡◌, ◌<◌, ◌+◌, ℕ, List, [], ◌∷◌, ◌++◌, length, take, drop, get_or, Some, sym, ap, ◌∙◌, length-append}
use Rattle.std.specs.Prelude.{slice_get}
use Rattle.std.proofs.lemmas.List.{take_more, drop_more, get_or-drop, append-nil}
use Rattle.std.proofs.lemmas.Option.{get_or_from_slice_get}
use Rattle.std.proofs.lemmas.List.Concat.{flat_map-append}
use Rattle.tuple_schema.specs.declared.value.Value.{Value}
use Rattle.row_codec.specs.Rows.{row_bytes, rows_bytes}
use Rattle.commit_disk.specs.Table.{Stored}
use Rattle.commit_disk.specs.Buffer.{with_row}
use Rattle.table_write.specs.Rows.{stored_of}

-- a row behind the first ones
pub row_behind : (rows : List (List Value)) (from i : ℕ) (row : List Value) → slice_get rows (from + i) ≡ Some row → row ≡ get_or (drop from rows) i row
row_behind rows from i row is = sym (get_or-drop from rows i row ∙ get_or_from_slice_get rows (from + i) row row is)

module _ (rows : List (List Value)) (i : ℕ) (row : List Value) (below : i < length rows) (is : row ≡ get_or rows i row) where
  -- the next row
  pub row_taken : take (i + 1) rows ≡ take i rows ++ row ∷ []
  row_taken = take_more rows i row below ∙ ap (λ r. take i rows ++ r ∷ []) (sym is)

  pub row_dropped : drop i rows ≡ row ∷ drop (i + 1) rows
  row_dropped = drop_more rows i row below ∙ ap (λ r. r ∷ drop (i + 1) rows) (sym is)

  pub stored_more : stored_of (take (i + 1) rows) ≡ with_row (stored_of (take i rows)) (row_bytes row)
  stored_more =
      let count : length (take (i + 1) rows) ≡ length (take i rows) + 1 = ap length row_taken ∙ length-append (take i rows) (row ∷ []) in
      let bytes : rows_bytes (take (i + 1) rows) ≡ rows_bytes (take i rows) ++ row_bytes row =
      ap rows_bytes row_taken ∙ flat_map-append row_bytes (take i rows) (row ∷ []) ∙ ap (λ bs. rows_bytes (take i rows) ++ bs) (append-nil (row_bytes row)) in
      let same : Stored → Stored → Type 0 = λ a b. a ≡ b in
      cc
