-- What a load promises: what stays true, what is never lost, and what it does by what the table's file is found to be.
use Rattle.std.specs.Prelude.{◌≡◌, ◌⊎◌, ◌≤◌, ◌+◌, ℕ, List, [], ◌++◌, length, take, IfOk, true, false, IsTrue, Option, Some, Ok, Err, ⊤}
use Rattle.outside.specs.Words.{Rose, Each, DiskState, Elapses, AtEachMoment, IsSettled, LeavesNothingNew, Spares, Files, DepotState, Consults}
use Rattle.tuple_schema.specs.declared.value.Value.{Value}
use Rattle.tuple_schema.specs.declared.memory.Stop.TheVariants.{Memory, Fault}
use Rattle.commit_disk.specs.Table.{Stored, Holds, HoldsUpTo, IsNotMade}
use Rattle.commit_disk.specs.Crashes.{LosesNothing}
use Rattle.table_read.specs.Rows.{table_rows}
use Rattle.table_write.specs.Cut.{together}
use Rattle.table_write.specs.Adds.{with_blocks, AllHaveRoom, IsFullBehind}
use Rattle.table_write.specs.Rows.{HoldsRows, HoldsFirst}
use Rattle.list_algebra.specs.Trees.{Tree}
use Rattle.flow_types.specs.Flows.{has_fixed_root}
use Rattle.kind_laws.specs.Runs.{Yield, at_root}
use Rattle.load_runner.specs.declared.fault.LoadFault.TheVariants as fault
use Rattle.load_runner.specs.declared.report.Report.{Report}
use Rattle.load_runner.specs.Sources.{contents_in, IsMeaning}
use Rattle.load_runner.specs.Trimmed.{Resumes}
use Rattle.load_runner.specs.Asked.{asked_bytes}
use Rattle.load_runner.specs.Jobs.{Job, Answer, columns_of, run_blocks}
use Rattle.load_runner.specs.Found.{State, unmade, rows, wrong, other, IsFound}
use Rattle.load_runner.specs.Safe.{IsSafe, HoldsAll, TableGrows, IsGrown, IsStopped}
use Rattle.load_runner.specs.Reports.{report_of, ended_report}

-- The table that isn't ended.

-- where the next block's gate is, behind these blocks: or where it will be, once the table is made
abbrev pub IsNextGate : List ℕ → List ℕ → List Stored → ℕ → Type 0
IsNextGate file text olds gate = HoldsUpTo gate file text olds false
    ⊎ (IsNotMade file × (olds ≡ []) × (gate ≡ 16 + length text))

-- the load is complete: behind the old blocks stand all that a trimmed run brings and the end, nothing is pending, and
-- the report says what it brought
pub record IsComplete (job : Job) (told : Option Files) (committed : List (List Value)) (olds : List Stored) (gate : ℕ)
    (now : DiskState) (report : Report) : Type 0 where
  pub run : Tree Yield
  pub resumes : Resumes job.flow told committed run
  pub blocks : Holds now.file job.text (with_blocks olds (run_blocks job run)) true
  pub rows : HoldsRows now.file job.text (columns_of job) (committed ++ at_root run) true
  pub settled : IsSettled now
  pub room : AllHaveRoom gate (run_blocks job run)
  pub reported : report ≡ report_of job.flow committed run

-- the table is full: so many blocks of a trimmed run have room, and stand behind the old ones, nothing is pending, and
-- the next one has none
pub record IsFull (job : Job) (told : Option Files) (committed : List (List Value)) (olds : List Stored) (gate : ℕ)
    (now : DiskState) : Type 0 where
  pub run : Tree Yield
  pub resumes : Resumes job.flow told committed run
  pub count : ℕ
  pub full : IsFullBehind gate (run_blocks job run) count
  pub blocks : Holds now.file job.text (with_blocks olds (take count (run_blocks job run))) false
  pub rows : HoldsRows now.file job.text (columns_of job)
      (committed ++ together (take count (run_blocks job run))) false
  pub settled : IsSettled now

-- the disk failed while the table was made, or while the blocks of a trimmed run were added behind the old ones
pub record StoppedAdding (job : Job) (told : Option Files) (committed : List (List Value)) (olds : List Stored)
    (disk now : DiskState) : Type 0 where
  pub run : Tree Yield
  pub resumes : Resumes job.flow told committed run
  pub stopped : IsStopped disk.file job.text olds (run_blocks job run) now.may_leave

-- what each answer leaves, behind these old blocks and this gate; the table is refused by none
abbrev pub Leaves : Job → Option Files → List (List Value) → List Stored → ℕ → DiskState → DiskState → Answer → Type 0
Leaves job told committed olds gate disk now (Ok report) = IsComplete job told committed olds gate now report
Leaves job told committed olds gate disk now (Err Memory) = Spares disk now
Leaves job told committed olds gate disk now (Err (Fault fault.Depot)) = Spares disk now
Leaves job told committed olds gate disk now (Err (Fault (fault.Source f))) = Spares disk now
Leaves job told committed olds gate disk now (Err (Fault fault.Full)) = IsFull job told committed olds gate now
Leaves job told committed olds gate disk now (Err (Fault fault.Disk)) = Spares disk now
    ⊎ StoppedAdding job told committed olds disk now
Leaves job told committed olds gate disk now (Err (Fault (fault.NotATable place))) = ⊥
Leaves job told committed olds gate disk now (Err (Fault fault.WorkflowDiffers)) = ⊥

-- each image of each moment is one from before, or holds the old blocks and behind them the first of those of a
-- trimmed run
pub record AddsRun (job : Job) (told : Option Files) (committed : List (List Value)) (olds : List Stored)
    (disk now : DiskState) : Type 0 where
  pub run : Tree Yield
  pub resumes : Resumes job.flow told committed run
  pub each : AtEachMoment disk now (λ image. disk.may_leave image
      ⊎ IsGrown disk.file job.text (columns_of job) olds (run_blocks job run) image)

-- a load to a table that isn't ended, whose blocks decode to the committed rows, or to none that is made: only blocks
-- of a trimmed run are added, in their order
pub record AddsTo (job : Job) (told : Option Files) (committed : List (List Value)) (disk now : DiskState)
    (answer : Answer) : Type 0 where
  pub olds : List Stored
  pub decodes : table_rows (columns_of job) (16 + length job.text) olds ≡ Ok committed
  pub gate : ℕ
  pub at : IsNextGate disk.file job.text olds gate
  pub moments : LeavesNothingNew disk now ⊎ AddsRun job told committed olds disk now
  pub leaves : Leaves job told committed olds gate disk now answer

-- Any other file.

-- no memory was found, or the disk failed
abbrev pub FailsOutside : Answer → Type 0
FailsOutside answer = (answer ≡ Err Memory) ⊎ (answer ≡ Err (Fault fault.Disk))

-- no source is read and nothing is written, and this is the answer, unless no memory was found or the disk failed
pub record Stays (wanted : Answer) (depot still : DepotState) (disk now : DiskState) (answer : Answer) : Type 0 where
  pub unread : still ≡ depot
  pub spares : Spares disk now
  pub answers : (answer ≡ wanted) ⊎ FailsOutside answer

-- the answer that a table is refused with, or that an ended one is complete
abbrev pub refused_at : ℕ → Answer
refused_at place = Err (Fault (fault.NotATable place))

abbrev pub refused_other : Answer
refused_other = Err (Fault fault.WorkflowDiffers)

abbrev pub complete_before : List (List Value) → Answer
complete_before committed = Ok (ended_report (length committed))

-- what a load does, by what the file is found to be
abbrev pub Does : Job → DepotState → DepotState → DiskState → DiskState → Answer → State → Type 0
Does job depot still disk now answer unmade = AddsTo job depot.files [] disk now answer
Does job depot still disk now answer (rows committed true) = Stays
    (complete_before committed) depot still disk now answer
Does job depot still disk now answer (rows committed false) = AddsTo job depot.files committed disk now answer
Does job depot still disk now answer (wrong place) = Stays (refused_at place) depot still disk now answer
Does job depot still disk now answer other = Stays refused_other depot still disk now answer

-- The promise.

-- what each answer rests on, be the disk honest or not: a device is blamed only where it failed in this call, and a
-- source only where that is the first fault of the contents of the files
abbrev pub RestsOn : Job → DepotState → DepotState → DiskState → DiskState → Answer → Type 0
RestsOn job depot still disk now (Ok report) = ⊤
RestsOn job depot still disk now (Err Memory) = ⊤
RestsOn job depot still disk now (Err (Fault fault.Depot)) = Rose depot.faults still.faults
RestsOn job depot still disk now (Err (Fault (fault.Source f))) = (files : Files) → depot.files ≡ Some files
    → contents_in job.flow.nodes files ≡ Err f
RestsOn job depot still disk now (Err (Fault fault.Full)) = ⊤
RestsOn job depot still disk now (Err (Fault fault.Disk)) = Rose disk.faults now.faults
RestsOn job depot still disk now (Err (Fault (fault.NotATable place))) = ⊤
RestsOn job depot still disk now (Err (Fault fault.WorkflowDiffers)) = ⊤

-- a load, over the depot and the disk before and after it, and what it answers
pub record Loads (job : Job) (depot still : DepotState) (disk now : DiskState) (answer : Answer) : Type 0 where
  -- what stays true for the next call
  pub consults : Consults depot still
  pub elapses : Elapses disk now
  -- no table is lost, whose ever it is
  pub loses_nothing : LosesNothing disk now
  -- rows of this flow's table that every image holds first before the load, every image of every moment holds first
  pub kept : (acknowledged : List (List Value)) → Each disk.may_leave
      (HoldsFirst job.text (columns_of job) acknowledged)
      → AtEachMoment disk now (HoldsFirst job.text (columns_of job) acknowledged)
  -- and where they stood for the meaning of the flow, those that a crash leaves stand for it
  pub safe : (files : Files) → depot.files ≡ Some files → (whole acknowledged : List (List Value))
      → IsMeaning job.flow files whole
      → Each disk.may_leave (IsSafe job.text (columns_of job) (has_fixed_root job.flow.nodes) whole acknowledged)
      → AtEachMoment disk now (IsSafe job.text (columns_of job) (has_fixed_root job.flow.nodes) whole acknowledged)
  -- and where it is complete, each image is an ended table that has all of the meaning, and nothing else
  pub completes : (files : Files) → depot.files ≡ Some files → (whole : List (List Value))
      → IsMeaning job.flow files whole
      → IsTrue disk.honest → IsSafe job.text (columns_of job) (has_fixed_root job.flow.nodes) whole [] disk.file
      → IfOk answer (λ _. Each now.may_leave (HoldsAll job.text (columns_of job) (has_fixed_root job.flow.nodes) whole))
  -- what is committed in the load is not taken back
  pub grows : IsTrue disk.honest → Each disk.may_leave (HoldsFirst job.text (columns_of job) [])
      → TableGrows job.text (columns_of job) disk now
  -- what it does
  pub does : IsTrue disk.honest → (state : State) → IsFound disk.file job.text (columns_of job) state
      → Does job depot still disk now answer state
  pub rests : RestsOn job depot still disk now answer
  -- and of which each source is read once at most
  pub served : (files : Files) → depot.files ≡ Some files
      → still.served ≤ depot.served + asked_bytes job.flow.nodes files
