-- What the parts of attaching tell, head by head.
use Rattle.std.specs.Prelude.{◌≡◌, ◌≢◌, ◌≤◌, ◌+◌, ℕ, List, [], length, slice_index, Bool, true, false, Option, Some, None, Result, Ok, Err}
use Rattle.outside.specs.Counts.{Rose}
use Rattle.commit_disk.specs.declared.attaching.TableFault.{TableFault}
use Rattle.commit_disk.specs.declared.attaching.TableFault.TheVariants.{Disk, NotATable, WorkflowDiffers}
use Rattle.commit_disk.specs.declared.attaching.Attached.{Attached}
use Rattle.commit_disk.specs.Table.{TableBlock, IsNotMade, row_blocks, has_end}
use Rattle.commit_disk.specs.Journal.{JournalState}
use Rattle.commit_disk.specs.Attach.{LeadsTo, IsWrongAt, TellsOf, FindTells, FaultTells, rows_in}

-- the count of faults has not fallen, and a fault of the disk was answered only where it rose
pub record HasDiskCause {T : Type 0} (before now : ℕ) (result : Result T TableFault) : Type 0 where
  pub later : before ≤ now
  pub failed : result ≡ Err Disk → Rose before now

-- a fault that is found in the frames
abbrev pub FrameFaultTells : TableFault → List ℕ → Type 0
FrameFaultTells Disk image = Unit {0}
FrameFaultTells (NotATable place) image = IsWrongAt place image
FrameFaultTells WorkflowDiffers image = ⊥

-- what stands in the head: no table, or a flow text of so many bytes
abbrev pub HeadTells : Result (Option ℕ) TableFault → List ℕ → Type 0
HeadTells (Ok None) image = IsNotMade image
HeadTells (Ok (Some len)) image = (text : List ℕ) × (length text ≡ len) × LeadsTo (16 + len) image text []
HeadTells (Err fault) image = FrameFaultTells fault image

-- the journal tells how far the blocks of a table of this text lead
pub record IsOnTheWay (journal : JournalState) (image text : List ℕ) : Type 0 where
  pub blocks : List TableBlock
  pub leads : LeadsTo journal.gate image text blocks
  pub first : journal.first ≡ 16 + length text
  pub counts : journal.count ≡ rows_in (row_blocks blocks)
  pub ended : journal.ended ≡ has_end blocks
  pub sound : journal.sound ≡ true

-- one gate on, or at the first closed gate, or at a wrong one
abbrev pub GateTells : Result Bool TableFault → JournalState → List ℕ → List ℕ → Type 0
GateTells (Ok true) journal image text = IsOnTheWay journal image text
GateTells (Ok false) journal image text = IsOnTheWay journal image text × (slice_index image journal.gate ≢ 1)
GateTells (Err fault) journal image text = FrameFaultTells fault image

-- whether the block at an open gate may be passed
abbrev pub PassTells : Result (Unit {0}) TableFault → JournalState → List ℕ → List ℕ → Type 0
PassTells (Ok _) journal image text = IsOnTheWay journal image text
PassTells (Err fault) journal image text = FrameFaultTells fault image

-- what the gates tell, from the first one on
abbrev pub GatesTell : Result JournalState TableFault → List ℕ → List ℕ → Type 0
GatesTell (Ok journal) image text = TellsOf journal image text
GatesTell (Err fault) image text = FrameFaultTells fault image

-- what is found in the file
abbrev pub FoundTells : Result Attached TableFault → List ℕ → List ℕ → Type 0
FoundTells (Ok found) image text = FindTells found image text
FoundTells (Err fault) image text = FaultTells fault image text
