-- The reason that a stop of a load or a dump is.
use Rattle.tuple_schema.specs.declared.memory.Stop.{Stop}
use Rattle.tuple_schema.specs.declared.memory.Stop.TheVariants.{Memory, Fault}
use Rattle.commit_disk.specs.declared.attaching.TableFault.{TableFault}
use Rattle.commit_disk.specs.declared.attaching.TableFault.TheVariants as table
use Rattle.table_dump.specs.declared.fault.DumpFault.{DumpFault}
use Rattle.table_dump.specs.declared.fault.DumpFault.TheVariants as dump
use Rattle.load_runner.specs.declared.fault.LoadFault.{LoadFault}
use Rattle.load_runner.specs.declared.fault.LoadFault.TheVariants as fault
use Rattle.commands.specs.declared.reason.Reason.{Reason}
use Rattle.commands.specs.declared.reason.Reason.TheVariants as why

-- each stop of a load is one reason
abbrev pub reason_of_stop : Stop LoadFault → Reason
reason_of_stop Memory = why.Memory
reason_of_stop (Fault fault.Depot) = why.Depot
reason_of_stop (Fault fault.Disk) = why.Disk
reason_of_stop (Fault (fault.NotATable place)) = why.NotATable place
reason_of_stop (Fault fault.WorkflowDiffers) = why.WorkflowDiffers
reason_of_stop (Fault fault.Full) = why.Full
reason_of_stop (Fault (fault.Source f)) = why.Source f

-- each stop of opening a table is one reason
abbrev pub reason_of_table : Stop TableFault → Reason
reason_of_table Memory = why.Memory
reason_of_table (Fault table.Disk) = why.Disk
reason_of_table (Fault (table.NotATable place)) = why.NotATable place
reason_of_table (Fault table.WorkflowDiffers) = why.WorkflowDiffers

-- each stop of writing a table's rows is one reason
abbrev pub reason_of_dump : Stop DumpFault → Reason
reason_of_dump Memory = why.Memory
reason_of_dump (Fault dump.Disk) = why.Disk
reason_of_dump (Fault dump.Sink) = why.Sink
reason_of_dump (Fault (dump.NotATable place)) = why.NotATable place
