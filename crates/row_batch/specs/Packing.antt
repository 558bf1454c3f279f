-- Rows in one buffer of bytes, with the places of the rows in it and of the values in each row.
use Rattle.std.specs.Prelude.{ℕ, zero, suc, List, [], ◌∷◌, ◌++◌, ◌+◌, ◌≤◌, ◌≡◌, length, slice_get, IfSome, IsTrue, take, drop, All, Result, Ok, Err, ◌==◌, if◌then◌else◌}
use Rattle.std.specs.List.{flat_map}
use Rattle.std.specs.Int.{w64, from_be_bytes, cast_signed}
use Rattle.tuple_schema.specs.declared.value.Value.{Value}
use Rattle.tuple_schema.specs.declared.value.Value.TheVariants as value
use Rattle.tuple_schema.specs.declared.schema.Column.{Column}
use Rattle.tuple_schema.specs.declared.schema.ColumnKind.{ColumnKind}
use Rattle.tuple_schema.specs.declared.schema.ColumnKind.TheVariants as kind
use Rattle.tuple_schema.specs.Schemas.{is_of}
use Rattle.row_codec.specs.declared.decode.RowFault.{RowFault}
use Rattle.row_codec.specs.Rows.{value_bytes, row_bytes, rows_bytes}
use Rattle.row_codec.specs.Decoding.{row_at, BeginsWithRow, IsRowOf, IsEncodable}

-- what a batch is seen as
pub record BatchOf : Type 0 where
  pub columns : List Column
  pub rows : List (List Value)

-- what a batch that is made field by field is seen as: its whole rows, and the values of the row that is begun
pub record BuilderOf : Type 0 where
  pub columns : List Column
  pub rows : List (List Value)
  pub begun : List Value

-- where each item ends, if the first one begins at this place and each next one where the one before it ends
abbrev pub ends_from : {X : Type 0} → (X → List ℕ) → ℕ → List X → List ℕ
ends_from form at [] = []
ends_from form at (x ∷ xs) = (at + length (form x)) ∷ ends_from form (at + length (form x)) xs

-- the places before, between and behind the items
abbrev pub places : {X : Type 0} → (X → List ℕ) → List X → List ℕ
places form xs = 0 ∷ ends_from form 0 xs

-- the places of a row's values, from the row's first byte on
abbrev pub value_places : List Value → List ℕ
value_places row = places value_bytes row

-- a row that was read, and those behind it
abbrev pub row_and : (List ℕ → List (List Value)) → Result (List Value × List ℕ) RowFault → List (List Value)
row_and others (Ok found) = found.0 ∷ others found.1
row_and others (Err fault) = []

-- so many rows at the front of the bytes
unfoldable pub rows_in : List Column → ℕ → List ℕ → List (List Value)
rows_in columns zero bytes = []
rows_in columns (suc n) bytes = row_and (rows_in columns n) (row_at columns bytes)

-- the buffer holds the rows one after the other, with the places of each row and those of each row's values
pub record IsPacked (columns : List Column) (rows : List (List Value)) (count : ℕ)
    (bytes starts inner : List ℕ) : Type 0 where
  pub counted : count ≡ length rows
  pub each : All (IsRowOf columns) rows
  pub bytes_are : bytes ≡ rows_bytes rows
  pub starts_are : starts ≡ places row_bytes rows
  pub inner_are : inner ≡ flat_map value_places rows

-- the row that a reading found
abbrev pub found_row : Result (List Value × List ℕ) RowFault → List Value
found_row (Ok found) = found.0
found_row (Err fault) = []

-- the row at the front of the bytes
unfoldable pub row_in : List Column → List ℕ → List Value
row_in columns bytes = found_row (row_at columns bytes)

-- the bytes are those of the row, and the places are those of its values
pub record IsPackedRow (columns : List Column) (row : List Value) (bytes inner : List ℕ) : Type 0 where
  pub narrow : length columns ≤ 64
  pub row_is : IsRowOf columns row
  pub bytes_are : bytes ≡ row_bytes row
  pub inner_are : inner ≡ value_places row

-- the value may stand in the next column of the row that is begun
abbrev pub FitsNext : List Column → List Value → Value → Type 0
FitsNext columns begun v = IfSome (slice_get columns (length begun)) (λ c. IsTrue (is_of c.kind c.nullable v))

-- the buffer holds whole rows, and behind them so many first values of the row that is begun, with the places of all
pub record IsBuilt (columns : List Column) (rows : List (List Value)) (begun : List Value) (count start size : ℕ)
    (bytes starts inner : List ℕ) : Type 0 where
  pub narrow : length columns ≤ 64
  pub whole : IsPacked columns rows count (rows_bytes rows) starts (flat_map value_places rows)
  pub started : start ≡ length (rows_bytes rows)
  pub sized : size ≡ length begun
  pub begun_is : IsRowOf (take size columns) begun
  pub bytes_are : bytes ≡ rows_bytes rows ++ row_bytes begun
  pub inner_are : inner ≡ flat_map value_places rows ++ value_places begun

-- a row of the columns stands at the front of the bytes and takes so many of them, and the places of its values came
-- behind the old ones
pub record TakesPlaces (columns : List Column) (front : List ℕ) (len : ℕ) (old new : List ℕ) : Type 0 where
  pub row : List Value
  pub begins : BeginsWithRow columns front len row
  pub encodable : All IsEncodable row
  pub placed : new ≡ old ++ value_places row

-- the number or text behind the first byte
abbrev pub content_held : ColumnKind → List ℕ → Value
content_held kind.Int rest = value.Int (cast_signed w64 (from_be_bytes w64 (take 8 rest)))
content_held (kind.Dec scale) rest = value.Dec (cast_signed w64 (from_be_bytes w64 (take 8 rest)))
content_held kind.Text rest = value.Text (drop 2 rest)

-- the value that these bytes are
abbrev pub held : ColumnKind → List ℕ → Value
held k [] = value.Null
held k (tag ∷ rest) = if tag == 0 then value.Null else content_held k rest

-- the bytes are those of a value
pub record IsCell (k : ColumnKind) (bytes : List ℕ) : Type 0 where
  pub spelled : bytes ≡ value_bytes (held k bytes)
  pub encodable : IsEncodable (held k bytes)
