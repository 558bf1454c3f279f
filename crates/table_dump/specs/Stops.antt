-- Why a dump stops.
use Rattle.std.specs.Prelude.{◌≡◌, ℕ, Option, Some, None, Result, Ok, Err, ⊤}
use Rattle.outside.specs.Counts.{Rose}
use Rattle.outside.specs.Disk.{DiskState}
use Rattle.outside.specs.Sink.{SinkState}
use Rattle.tuple_schema.specs.declared.memory.Stop.{Stop}
use Rattle.tuple_schema.specs.declared.memory.Stop.TheVariants as stop
use Rattle.commit_disk.specs.declared.attaching.TableFault.{TableFault}
use Rattle.commit_disk.specs.declared.attaching.TableFault.TheVariants as table
use Rattle.table_dump.specs.declared.fault.DumpFault.{DumpFault}
use Rattle.table_dump.specs.declared.fault.DumpFault.TheVariants as fault

-- of the disk only where its count of faults rose, of the output only where its own did; and a wrong place
abbrev pub IsCaused : DiskState → DiskState → SinkState → SinkState → DumpFault → Type 0
IsCaused disk disk_now out out_now fault.Disk = Rose disk.faults disk_now.faults
IsCaused disk disk_now out out_now fault.Sink = Rose out.faults out_now.faults
IsCaused disk disk_now out out_now (fault.NotATable place) = ⊤

-- the output failed, and its count of faults rose
abbrev pub IsOutputFault : SinkState → SinkState → DumpFault → Type 0
IsOutputFault out out_now fault.Disk = ⊥
IsOutputFault out out_now fault.Sink = Rose out.faults out_now.faults
IsOutputFault out out_now (fault.NotATable place) = ⊥

-- Ok says that no place is wrong, and NotATable that this one is the first
abbrev pub Judges : {T : Type 0} → Result T (Stop DumpFault) → Option ℕ → Type 0
Judges (Ok done) wrong = wrong ≡ None
Judges (Err stop.Memory) wrong = ⊤
Judges (Err (stop.Fault fault.Disk)) wrong = ⊤
Judges (Err (stop.Fault fault.Sink)) wrong = ⊤
Judges (Err (stop.Fault (fault.NotATable place))) wrong = wrong ≡ Some place

-- a stop of reading blocks: it has nothing to do with the flow text
abbrev pub IsOfReading : Stop TableFault → Type 0
IsOfReading stop.Memory = ⊤
IsOfReading (stop.Fault table.Disk) = ⊤
IsOfReading (stop.Fault (table.NotATable place)) = ⊤
IsOfReading (stop.Fault table.WorkflowDiffers) = ⊥

-- the stop of a dump is this stop of reading
abbrev pub IsStopOf : Stop TableFault → Stop DumpFault → Type 0
IsStopOf stop.Memory ours = ours ≡ stop.Memory
IsStopOf (stop.Fault table.Disk) ours = ours ≡ stop.Fault fault.Disk
IsStopOf (stop.Fault (table.NotATable place)) ours = ours ≡ stop.Fault (fault.NotATable place)
IsStopOf (stop.Fault table.WorkflowDiffers) ours = ⊥
