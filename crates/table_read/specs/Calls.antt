-- What the parts of verifying do.
use Rattle.std.specs.Prelude.{◌≡◌, ◌≤◌, ℕ, List, length, drop, Result, Ok, Err, ⊤}
use Rattle.tuple_schema.specs.declared.memory.Stop.{Stop}
use Rattle.tuple_schema.specs.declared.memory.Stop.TheVariants.{Memory, Fault}
use Rattle.tuple_schema.specs.declared.value.Value.{Value}
use Rattle.tuple_schema.specs.declared.schema.Column.{Column}
use Rattle.commit_disk.specs.declared.attaching.TableFault.{TableFault}
use Rattle.commit_disk.specs.declared.attaching.TableFault.TheVariants.{Disk, NotATable, WorkflowDiffers}
use Rattle.commit_disk.specs.declared.block_head.BlockHead.{BlockHead}
use Rattle.commit_disk.specs.Table.{Stored}
use Rattle.commit_disk.specs.BlockHeads.{count_in, len_in}
use Rattle.row_codec.specs.Rows.{row_bytes}
use Rattle.row_codec.specs.Decoding.{row_at}
use Rattle.table_read.specs.Rows.{or_place}

-- what the row at the front of the bytes tells: how many bytes it takes, or that there is none
abbrev pub RowTells : List Column → ℕ → List ℕ → Result ℕ (Stop TableFault) → Type 0
RowTells columns place bytes (Ok len) = (row : List Value) × (row_at columns bytes ≡ Ok (row, drop len bytes))
    × (length (row_bytes row) ≡ len) × (len ≤ length bytes)
RowTells columns place bytes (Err Memory) = ⊤
RowTells columns place bytes (Err (Fault Disk)) = ⊥
RowTells columns place bytes (Err (Fault (NotATable at))) = (at ≡ place)
    × (or_place place (row_at columns bytes) ≡ Err place)
RowTells columns place bytes (Err (Fault WorkflowDiffers)) = ⊥

-- the head and these bytes were read of the block with this content
pub record IsRead (head : BlockHead) (bytes : List ℕ) (content : Stored) : Type 0 where
  pub counts : count_in head ≡ content.count
  pub lens : len_in head ≡ length content.bytes
  pub same : bytes ≡ content.bytes
