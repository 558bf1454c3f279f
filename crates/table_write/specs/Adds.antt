-- A table to which blocks are added.
use Rattle.std.specs.Prelude.{◌≡◌, ◌⊎◌, ◌≤◌, ◌<◌, ◌+◌, ◌^◌, ℕ, List, [], ◌++◌, length, take, map, slice_index_or, All, Bool, IsTrue, true, false}
use Rattle.std.specs.List.{sum_by}
use Rattle.tuple_schema.specs.declared.value.Value.{Value}
use Rattle.tuple_schema.specs.declared.schema.Column.{Column}
use Rattle.row_codec.specs.Rows.{rows_bytes}
use Rattle.row_codec.specs.Decoding.{IsRowOf}
use Rattle.commit_disk.specs.Table.{Stored, Holds, HoldsUpTo}
use Rattle.commit_disk.specs.Journal.{JournalState}
use Rattle.outside.specs.Words.{DiskState, Each, IsSettled, LeftBetween}
use Rattle.commit_disk.specs.Crashes.{Grows}
use Rattle.table_write.specs.Cut.{together}
use Rattle.table_write.specs.Rows.{stored_of}

-- the old blocks, and these behind them as they are stored
abbrev pub with_blocks : List Stored → List (List (List Value)) → List Stored
with_blocks olds blocks = olds ++ map stored_of blocks

-- the image holds the old blocks and behind them the first of the new ones, which have rows of the columns, and is
-- ended only where it holds all of them
pub record IsFront (text : List ℕ) (columns : List Column) (olds : List Stored) (blocks : List (List (List Value)))
    (image : List ℕ) : Type 0 where
  pub count : ℕ
  pub ended : Bool
  pub holds : Holds image text (with_blocks olds (take count blocks)) ended
  pub within : count ≤ length blocks
  pub whole : IsTrue ended → count ≡ length blocks
  pub of_columns : All (IsRowOf columns) (together (take count blocks))

-- from the one state to the other a crash leaves the old blocks and the first of the new ones, and nothing that it left
-- once is lost
pub record LeavesFronts (text : List ℕ) (columns : List Column) (olds : List Stored) (blocks : List (List (List Value)))
    (old new : DiskState) : Type 0 where
  pub each : Each (LeftBetween old new) (IsFront text columns olds blocks)
  pub grows : Grows text old new

-- behind so many of the new blocks the image holds one step more: the next block, or the end behind all of them
abbrev pub IsStepOn : List ℕ → List Stored → List (List (List Value)) → ℕ → List ℕ → Type 0
IsStepOn text olds blocks count image =
    ((count < length blocks) × Holds image text (with_blocks olds (take (count + 1) blocks)) false)
    ⊎ ((count ≡ length blocks) × Holds image text (with_blocks olds blocks) true)

-- it stopped behind so many of the new blocks: each image holds these behind the old ones, and some may hold one step
-- more
pub record StopsBetween (text : List ℕ) (olds : List Stored) (blocks : List (List (List Value)))
    (images : List ℕ → Type 0) : Type 0 where
  pub count : ℕ
  pub within : count ≤ length blocks
  pub each : Each images (λ image. Holds image text (with_blocks olds (take count blocks)) false
      ⊎ IsStepOn text olds blocks count image)

-- how many bytes these blocks take: a gate and nine bytes of head each, and their rows
abbrev pub size_of : List (List (List Value)) → ℕ
size_of blocks = sum_by (λ block. 10 + length (rows_bytes block)) blocks

-- the journal behind these blocks
abbrev pub behind : JournalState → List (List (List Value)) → JournalState
behind journal blocks = record journal {
  gate = journal.gate + size_of blocks;
  count = journal.count + sum_by length blocks;
}

-- the block that follows so many of these, or no rows where they are all: those of the end block
abbrev pub next_block : List (List (List Value)) → ℕ → List (List Value)
next_block blocks count = slice_index_or blocks count []

-- behind so many of these blocks the next one, or the end block, and the gate behind it end within the longest file
abbrev pub HasRoom : ℕ → List (List (List Value)) → ℕ → Type 0
HasRoom gate blocks count = gate + size_of (take count blocks) + 11 + length (rows_bytes (next_block blocks count))
    ≤ 2 ^ 48

-- all of these blocks have room, and the end block has
abbrev pub AllHaveRoom : ℕ → List (List (List Value)) → Type 0
AllHaveRoom gate blocks = (count : ℕ) → count ≤ length blocks → HasRoom gate blocks count

-- so many of these blocks have room, and the next one, or the end block, has none
pub record IsFullBehind (gate : ℕ) (blocks : List (List (List Value))) (count : ℕ) : Type 0 where
  pub within : count ≤ length blocks
  pub before : (earlier : ℕ) → earlier < count → HasRoom gate blocks earlier
  pub none : HasRoom gate blocks count → ⊥

-- these blocks, which have rows of the columns, were added to the table of the old journal, and the new journal tells
-- of it
pub record HasAdded (columns : List Column) (blocks : List (List (List Value))) (before now : JournalState)
    (old new : DiskState) : Type 0 where
  pub of_columns : All (IsRowOf columns) (together blocks)
  pub moved : now ≡ behind before blocks
  pub place : now.gate < new.size
  pub settled : IsTrue old.honest → IsSettled old → IsSettled new
  pub holds : IsTrue old.honest → (text : List ℕ) (olds : List Stored) → HoldsUpTo before.gate old.file text olds false
      → HoldsUpTo now.gate new.file text (with_blocks olds blocks) false

-- the table is full behind so many of these blocks, which were added
pub record IsFilled (columns : List Column) (blocks : List (List (List Value))) (before now : JournalState)
    (old new : DiskState) : Type 0 where
  pub count : ℕ
  pub full : IsFullBehind before.gate blocks count
  pub added : HasAdded columns (take count blocks) before now old new
