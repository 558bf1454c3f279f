-- Keys in the order in which they were first seen, each with its place as its number.
use Rattle.std.specs.Prelude.{◌≡◌, ℕ, ◌<◌, List, [], ◌∷◌, ◌++◌, length, map, filter_map, slice_get, All, Bool, if◌then◌else◌}
use Rattle.std.specs.List.{list_any, position_or_len}
use Rattle.tuple_schema.specs.declared.schema.Column.{Column}
use Rattle.row_codec.specs.Rows.{row_bytes}
use Rattle.row_codec.specs.Decoding.{IsRowOf}
use Rattle.list_algebra.specs.Bags.{Tuple}

-- the number of a key: its place among the keys, or behind them where it is new
abbrev pub key_number : {K : Type 0} → (K → K → Bool) → List K → K → ℕ
key_number same keys key = position_or_len (same key) keys

-- the keys with this one, behind them where it is new
abbrev pub with_key : {K : Type 0} → (K → K → Bool) → List K → K → List K
with_key same keys key = if list_any (same key) keys then keys else keys ++ key ∷ []

-- the columns at these places, in this order
abbrev pub columns_at : List Column → List ℕ → List Column
columns_at columns cols = filter_map (slice_get columns) cols

-- what the keys of rows are seen as: the rows' columns, the places of those that are the key, and the keys
pub record KeysOf : Type 0 where
  pub columns : List Column
  pub cols : List ℕ
  pub keys : List Tuple

-- these are the keys, rows of the columns at these places, and their bytes
pub record AreKept (columns : List Column) (cols : List ℕ) (keys : List Tuple) (bytes : List (List ℕ)) : Type 0 where
  pub within : All (λ c. c < length columns) cols
  pub each : All (IsRowOf (columns_at columns cols)) keys
  pub bytes_are : bytes ≡ map row_bytes keys
