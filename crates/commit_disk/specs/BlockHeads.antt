-- What the head of a block tells.
use Rattle.std.specs.Prelude.{◌≡◌, ◌≤◌, ◌<◌, ◌+◌, ℕ, List, ◌∷◌, ◌++◌, length, true, Option, Some, None, Result, Ok, Err, ⊤}
use Rattle.std.specs.Int.{w32, to_be_bytes}
use Rattle.outside.specs.Counts.{Rose}
use Rattle.commit_disk.specs.declared.attaching.TableFault.{TableFault}
use Rattle.commit_disk.specs.declared.attaching.TableFault.TheVariants.{Disk, NotATable, WorkflowDiffers}
use Rattle.commit_disk.specs.declared.block_head.BlockHead.{BlockHead}
use Rattle.commit_disk.specs.declared.block_head.BlockHead.TheVariants.{Rows, End}
use Rattle.commit_disk.specs.Table.{TableBlock, rows_block, end_block, IsTableBlock, HoldsBlocksUpTo, front}
use Rattle.commit_disk.specs.Buffer.{behind_gate}
use Rattle.commit_disk.specs.Journal.{JournalState}

-- how many rows the block has
abbrev pub count_in : BlockHead → ℕ
count_in (Rows count len) = count
count_in End = 0

-- in how many bytes they stand
abbrev pub len_in : BlockHead → ℕ
len_in (Rows count len) = len
len_in End = 0

-- the byte that tells what the block is
abbrev pub kind_in : BlockHead → ℕ
kind_in (Rows count len) = 0
kind_in End = 1

-- what stands behind the gate of a block with this head, before the rows
abbrev pub head_bytes : BlockHead → List ℕ
head_bytes head = kind_in head ∷ to_be_bytes w32 (count_in head) ++ to_be_bytes w32 (len_in head)

-- the head is this block's: it counts its rows, and their bytes
abbrev pub IsHeadOf : BlockHead → TableBlock → Type 0
IsHeadOf (Rows count len) (rows_block rows) = (count ≡ rows.count) × (len ≡ length rows.bytes)
IsHeadOf (Rows count len) end_block = ⊥
IsHeadOf End (rows_block rows) = ⊥
IsHeadOf End end_block = ⊤

-- this block has its gate at this place, in a table that the image holds up to the last gate
pub record IsBlockAt (gate last : ℕ) (image : List ℕ) (block : TableBlock) : Type 0 where
  pub text : List ℕ
  pub before : List TableBlock
  pub behind : List TableBlock
  pub holds : HoldsBlocksUpTo last image text (before ++ block ∷ behind)
  pub at : length (front text before) ≡ gate

-- the head of this block was read, unless the disk failed
abbrev pub BlockHeadTells : Result BlockHead TableFault → TableBlock → Type 0
BlockHeadTells (Ok head) block = IsHeadOf head block
BlockHeadTells (Err Disk) block = ⊤
BlockHeadTells (Err (NotATable place)) block = ⊥
BlockHeadTells (Err WorkflowDiffers) block = ⊥

-- a fault of reading a head: the disk failed, and its count of faults rose; or no block has its gate at this place
abbrev pub IsHeadFault : ℕ → ℕ → ℕ → TableFault → Type 0
IsHeadFault gate before now Disk = Rose before now
IsHeadFault gate before now (NotATable place) = place ≡ gate
IsHeadFault gate before now WorkflowDiffers = ⊥

-- the block has this head, and these bytes are written of it behind its gate, up to the next gate
pub record IsWritten (block : TableBlock) (head : BlockHead) (bytes : List ℕ) : Type 0 where
  pub allowed : IsTableBlock block
  pub of_head : IsHeadOf head block
  pub spelled : bytes ≡ behind_gate block

-- the journal behind a block with this head
abbrev pub passed : JournalState → BlockHead → JournalState
passed old (Rows count len) = record old { gate = old.gate + 10 + len; count = old.count + count }
passed old End = record old { gate = old.gate + 10; ended = true }

-- a block may have this head
abbrev pub IsAllowed : BlockHead → Type 0
IsAllowed (Rows count len) = (1 ≤ count) × (count ≤ 4096) × (len < 4456640)
IsAllowed End = ⊤

-- this head stands behind a gate from which so many bytes are left for the block and the next gate
pub record StandsIn (room : ℕ) (behind : List ℕ) (head : BlockHead) : Type 0 where
  pub allowed : IsAllowed head
  pub fits : 11 + len_in head ≤ room
  pub spelled : behind ≡ head_bytes head

-- the head that stands there, or that none does
abbrev pub BlockTells : Option BlockHead → ℕ → List ℕ → Type 0
BlockTells None room behind = (head : BlockHead) → StandsIn room behind head → ⊥
BlockTells (Some head) room behind = StandsIn room behind head
