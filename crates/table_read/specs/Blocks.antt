-- What reading the rows of a block answers.
use Rattle.std.specs.Prelude.{◌≡◌, ◌≤◌, ℕ, List, [], ◌∷◌, ◌++◌, length, drop, Option, Some, None, Result, Ok, Err, ⊤}
use Rattle.tuple_schema.specs.declared.memory.Stop.{Stop}
use Rattle.tuple_schema.specs.declared.memory.Stop.TheVariants.{Memory, Fault}
use Rattle.tuple_schema.specs.declared.value.Value.{Value}
use Rattle.tuple_schema.specs.declared.schema.Column.{Column}
use Rattle.commit_disk.specs.declared.attaching.TableFault.{TableFault}
use Rattle.commit_disk.specs.declared.attaching.TableFault.TheVariants.{Disk, NotATable, WorkflowDiffers}
use Rattle.row_codec.specs.Rows.{row_bytes}
use Rattle.row_codec.specs.Decoding.{row_at}
use Rattle.table_read.specs.Rows.{or_place}

-- these rows were taken, which are those of the reading; or its wrong place is named, unless memory was wanting or the
-- disk failed
abbrev pub TakesRows : {X : Type 0} → Result X (Stop TableFault) → List (List Value)
    → Result (List (List Value)) ℕ → Type 0
TakesRows (Ok done) taken reading = reading ≡ Ok taken
TakesRows (Err Memory) taken reading = ⊤
TakesRows (Err (Fault Disk)) taken reading = ⊤
TakesRows (Err (Fault (NotATable place))) taken reading = reading ≡ Err place
TakesRows (Err (Fault WorkflowDiffers)) taken reading = ⊥

-- the rows of the block were taken, and the next gate is there; or they were not, as above
abbrev pub ReadsBlock : Result (Option ℕ) (Stop TableFault) → List (List Value) → ℕ → Result (List (List Value)) ℕ
    → Type 0
ReadsBlock (Ok None) taken next reading = ⊥
ReadsBlock (Ok (Some gate)) taken next reading = (gate ≡ next) × (reading ≡ Ok taken)
ReadsBlock (Err stop) taken next reading = TakesRows {X = ℕ} (Err stop) taken reading

-- the row at the front of the bytes was taken behind the old ones, and takes so many bytes; or there is none
abbrev pub TakesRow : List Column → ℕ → List ℕ → List (List Value) → List (List Value)
    → Result ℕ (Stop TableFault) → Type 0
TakesRow columns place bytes old new (Ok len) = (row : List Value) × (row_at columns bytes ≡ Ok (row, drop len bytes))
    × (length (row_bytes row) ≡ len) × (len ≤ length bytes) × (new ≡ old ++ row ∷ [])
TakesRow columns place bytes old new (Err Memory) = ⊤
TakesRow columns place bytes old new (Err (Fault Disk)) = ⊥
TakesRow columns place bytes old new (Err (Fault (NotATable at))) = (at ≡ place)
    × (or_place place (row_at columns bytes) ≡ Err place)
TakesRow columns place bytes old new (Err (Fault WorkflowDiffers)) = ⊥
