-- What the file of a table is found to be, under a flow's text and the columns of its root.
use Rattle.std.specs.Prelude.{◌≡◌, ◌≢◌, ◌⊎◌, ◌+◌, ℕ, List, length, Bool, Err}
use Rattle.tuple_schema.specs.declared.value.Value.{Value}
use Rattle.tuple_schema.specs.declared.schema.Column.{Column}
use Rattle.commit_disk.specs.Table.{Stored, Holds, IsNotMade}
use Rattle.commit_disk.specs.Attach.{IsWrongAt, IsTable}
use Rattle.table_read.specs.Rows.{table_rows}
use Rattle.table_write.specs.Rows.{HasRows}

-- the image is a table of this text, in whose blocks this is the first place that is no row
pub record HasWrongRow (place : ℕ) (image text : List ℕ) (columns : List Column) : Type 0 where
  pub blocks : List Stored
  pub ended : Bool
  pub holds : Holds image text blocks ended
  pub wrong : table_rows columns (16 + length text) blocks ≡ Err place

-- what may be found: no table yet; rows, in a table that is ended or not; the first wrong place; or a table of another
-- text
pub data State : Type 0 where
  unmade : State
  rows : List (List Value) → Bool → State
  wrong : ℕ → State
  other : State

-- the image is found to be this
abbrev pub IsFound : List ℕ → List ℕ → List Column → State → Type 0
IsFound image text columns unmade = IsNotMade image
IsFound image text columns (rows committed ended) = HasRows image text columns committed ended
IsFound image text columns (wrong place) = IsWrongAt place image ⊎ HasWrongRow place image text columns
IsFound image text columns other = (stored : List ℕ) × (stored ≢ text) × ((place : ℕ) × IsTable place image stored)

-- an image is found to be one thing alone
abbrev pub FoundOnce : Type 0
FoundOnce =
    (image text : List ℕ) (columns : List Column) (one two : State) → IsFound image text columns one
    → IsFound image text columns two
    → one ≡ two
