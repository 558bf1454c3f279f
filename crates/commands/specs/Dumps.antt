-- What a dump promises: nothing is changed, and the output gains the table's rows as CSV, by what the table's file is
-- found to be.
use Rattle.std.specs.Prelude.{◌≡◌, ◌⊎◌, ◌≤◌, ℕ, List, All, IsTrue, Option, Some, None, ⊤}
use Rattle.outside.specs.Words.{Rose, Elapses, Spares, SinkState, Gains, GainsFront}
use Rattle.tuple_schema.specs.declared.value.Value.{Value}
use Rattle.tuple_schema.specs.declared.schema.Column.{Column}
use Rattle.tuple_schema.specs.Schemas.{Fits}
use Rattle.table_dump.specs.Texts.{dump_text}
use Rattle.load_runner.specs.Sources.{root_columns}
use Rattle.load_runner.specs.Found.{State, unmade, rows, wrong, other, IsFound}
use Rattle.commands.specs.declared.reason.Reason.{Reason}
use Rattle.commands.specs.declared.reason.Reason.TheVariants as why
use Rattle.commands.specs.Commands.{FlowText}
use Rattle.commands.specs.Devices.{Devices}

-- no memory was found, or the disk failed
abbrev pub FailsOutside : Option Reason → Type 0
FailsOutside answer = (answer ≡ Some why.Memory) ⊎ (answer ≡ Some why.Disk)

-- the output gained nothing, and this is the answer, unless no memory was found or the disk failed
pub record Refuses (reason : Reason) (out now : SinkState) (answer : Option Reason) : Type 0 where
  pub output : now ≡ out
  pub answers : (answer ≡ Some reason) ⊎ FailsOutside answer

-- the output gained the whole text where the dump is done, and else a front of it
abbrev pub Gained : List ℕ → SinkState → SinkState → Option Reason → Type 0
Gained text out now None = Gains text out now
Gained text out now (Some reason) = GainsFront text out now

-- the output gained the text of these rows, or a front of it, where the output or the disk failed or no memory was
-- found
pub record Shows (columns : List Column) (committed : List (List Value)) (out now : SinkState)
    (answer : Option Reason) : Type 0 where
  pub output : Gained (dump_text columns committed) out now answer
  pub answers : (answer ≡ None) ⊎ (answer ≡ Some why.Sink) ⊎ FailsOutside answer

-- what a dump does, by what the file is found to be
abbrev pub DoesBy : List Column → SinkState → SinkState → Option Reason → State → Type 0
DoesBy columns out now answer unmade = Refuses why.NotMade out now answer
DoesBy columns out now answer (rows committed ended) = Shows columns committed out now answer
DoesBy columns out now answer (wrong place) = Refuses (why.NotATable place) out now answer
DoesBy columns out now answer other = Refuses why.WorkflowDiffers out now answer

-- what each answer rests on, be the disk honest or not: a device is blamed only where it failed in this call
abbrev pub RestsOn : Devices → Devices → Option Reason → Type 0
RestsOn old new None = ⊤
RestsOn old new (Some why.Memory) = ⊤
RestsOn old new (Some why.NotMade) = ⊤
RestsOn old new (Some (why.NotATable place)) = ⊤
RestsOn old new (Some why.WorkflowDiffers) = ⊤
RestsOn old new (Some why.Disk) = Rose old.disk.faults new.disk.faults
RestsOn old new (Some why.Sink) = Rose old.out.faults new.out.faults
RestsOn old new (Some reason) = ⊥

-- a dump of the table of this flow, over the devices before and after it, and its answer
pub record Dumps (job : FlowText) (old new : Devices) (answer : Option Reason) : Type 0 where
  -- no source is read, and nothing is written to the table's file
  pub depot : new.depot ≡ old.depot
  pub elapses : Elapses old.disk new.disk
  pub spares : Spares old.disk new.disk
  -- what it does
  pub does : IsTrue old.disk.honest → (state : State)
      → IsFound old.disk.file job.text (root_columns job.flow.nodes) state
      → DoesBy (root_columns job.flow.nodes) old.out new.out answer state
  -- on any disk the output gains a dump of some rows of the columns, or a front of one
  pub output : (some : List (List Value)) × All (Fits (root_columns job.flow.nodes)) some
      × Gained (dump_text (root_columns job.flow.nodes) some) old.out new.out answer
  pub rests : RestsOn old new answer
  pub faults : old.out.faults ≤ new.out.faults
