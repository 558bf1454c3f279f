-- What adding rows to the table that was found does.
use Rattle.std.specs.Prelude.{ℕ, List, take, drop, All, IsTrue, Result, Ok, Err, true, false}
use Rattle.outside.specs.Words.{Rose, Each, DiskState, IsSettled, LeftBetween, OnlyReads}
use Rattle.tuple_schema.specs.declared.schema.Column.{Column}
use Rattle.tuple_schema.specs.declared.memory.Stop.{Stop}
use Rattle.tuple_schema.specs.declared.memory.Stop.TheVariants.{Memory, Fault}
use Rattle.row_codec.specs.Decoding.{IsRowOf}
use Rattle.row_batch.specs.Packing.{BatchOf}
use Rattle.list_algebra.specs.Bags.{Tuple}
use Rattle.commit_disk.specs.declared.attaching.Attached.{Attached}
use Rattle.commit_disk.specs.Table.{Stored, Holds}
use Rattle.commit_disk.specs.Crashes.{Grows}
use Rattle.table_write.specs.declared.writer.WriteFault.{WriteFault}
use Rattle.table_write.specs.declared.writer.WriteFault.TheVariants as write
use Rattle.table_write.specs.Cut.{cut, together}
use Rattle.table_write.specs.Adds.{with_blocks, AllHaveRoom, IsFullBehind}
use Rattle.load_runner.specs.Safe.{IsGrown, IsStopped}
use Rattle.load_runner.specs.Starts.{IsAt, gate_of}

-- what was found under a text, and the rows that are to be added behind it, in blocks of so many
pub record Addition : Type 0 where
  pub found : Attached
  pub text : List ℕ
  pub columns : List Column
  pub batch : ℕ
  pub rows : List Tuple

-- the rows of a batch from a place on
abbrev pub addition : Attached → List ℕ → ℕ → BatchOf → ℕ → Addition
addition found text batch rows from = record {
  found = found;
  text = text;
  columns = rows.columns;
  batch = batch;
  rows = drop from rows.rows;
}

-- the blocks that are to be added
abbrev pub blocks_of : Addition → List (List Tuple)
blocks_of adding = cut adding.batch adding.rows

-- the gate of the first of them
abbrev pub gate_at : Addition → ℕ
gate_at adding = gate_of adding.found adding.text

-- of an honest disk and the blocks that the file has, from which more may be added
abbrev pub OfOlds : Addition → DiskState → (List Stored → Type 0) → Type 0
OfOlds adding disk Fact = IsTrue disk.honest → (olds : List Stored) → IsAt adding.found disk.file adding.text olds
    → Fact olds

-- all had room, nothing is pending, and behind the old blocks stand all of them and the end
pub record EndsTable (adding : Addition) (disk now : DiskState) : Type 0 where
  pub of_columns : All (IsRowOf adding.columns) adding.rows
  pub room : AllHaveRoom (gate_at adding) (blocks_of adding)
  pub settled : IsTrue disk.honest → IsSettled now
  pub holds : OfOlds adding disk (λ olds. Holds now.file adding.text (with_blocks olds (blocks_of adding)) true)

-- so many had room, which stand behind the old blocks, and the next one has none; what was pending may be so still
pub record FillsTable (adding : Addition) (disk now : DiskState) : Type 0 where
  pub count : ℕ
  pub full : IsFullBehind (gate_at adding) (blocks_of adding) count
  pub of_columns : All (IsRowOf adding.columns) (together (take count (blocks_of adding)))
  pub settled : IsTrue disk.honest → IsSettled disk → IsSettled now
  pub holds : OfOlds adding disk
      (λ olds. Holds now.file adding.text (with_blocks olds (take count (blocks_of adding))) false)

-- the disk failed: the table was being made, or each image holds so many of them, or one step more
pub record FailsBetween (adding : Addition) (disk now : DiskState) : Type 0 where
  pub rose : Rose disk.faults now.faults
  pub stops : IsSettled disk
      → OfOlds adding disk (λ olds. IsStopped disk.file adding.text olds (blocks_of adding) now.may_leave)

-- what each answer says; where no memory is found, nothing was written
abbrev pub Finishes : {X : Type 0} → Addition → DiskState → DiskState → Result X (Stop WriteFault) → Type 0
Finishes adding disk now (Ok x) = EndsTable adding disk now
Finishes adding disk now (Err Memory) = OnlyReads disk now
Finishes adding disk now (Err (Fault write.Full)) = FillsTable adding disk now
Finishes adding disk now (Err (Fault write.Disk)) = FailsBetween adding disk now

-- a crash at any moment leaves the old blocks and the first of those that are added, and nothing that it left once is
-- lost
pub record LeavesGrown (adding : Addition) (olds : List Stored) (disk now : DiskState) : Type 0 where
  pub each : Each (LeftBetween disk now)
      (IsGrown disk.file adding.text adding.columns olds (blocks_of adding))
  pub grows : Grows adding.text disk now
