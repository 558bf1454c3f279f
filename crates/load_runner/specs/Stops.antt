-- The stop of a load that a stop of each of its parts is.
use Rattle.tuple_schema.specs.declared.memory.Stop.{Stop}
use Rattle.tuple_schema.specs.declared.memory.Stop.TheVariants.{Memory, Fault}
use Rattle.commit_disk.specs.declared.attaching.TableFault.{TableFault}
use Rattle.commit_disk.specs.declared.attaching.TableFault.TheVariants as table
use Rattle.extractors.specs.declared.fault.CsvFault.TheVariants as csv
use Rattle.table_write.specs.declared.writer.WriteFault.{WriteFault}
use Rattle.table_write.specs.declared.writer.WriteFault.TheVariants as write
use Rattle.load_runner.specs.declared.fault.LoadFault.{LoadFault}
use Rattle.load_runner.specs.declared.fault.LoadFault.TheVariants as load
use Rattle.load_runner.specs.declared.fault.SourceFault.{SourceFault}
use Rattle.load_runner.specs.declared.fault.SourceWhat.{SourceWhat}
use Rattle.load_runner.specs.declared.fault.SourceWhat.TheVariants as what

-- of reading the table
abbrev pub of_table : Stop TableFault → Stop LoadFault
of_table Memory = Memory
of_table (Fault table.Disk) = Fault load.Disk
of_table (Fault (table.NotATable place)) = Fault (load.NotATable place)
of_table (Fault table.WorkflowDiffers) = Fault load.WorkflowDiffers

-- of a source, by what is wrong: where the depot failed, the source isn't blamed
abbrev pub of_source_fault : SourceFault → SourceWhat → LoadFault
of_source_fault f (what.Csv csv.Depot) = load.Depot
of_source_fault f (what.Csv csv.Missing) = load.Source f
of_source_fault f (what.Csv (csv.TooLarge size)) = load.Source f
of_source_fault f (what.Csv (csv.BadHeader at)) = load.Source f
of_source_fault f (what.Csv (csv.BadCsv row)) = load.Source f
of_source_fault f (what.Csv (csv.BadRow row column cause)) = load.Source f

-- of reading the sources
abbrev pub of_sources : Stop SourceFault → Stop LoadFault
of_sources Memory = Memory
of_sources (Fault f) = Fault (of_source_fault f f.what)

-- of writing the table
abbrev pub of_write : Stop WriteFault → Stop LoadFault
of_write Memory = Memory
of_write (Fault write.Disk) = Fault load.Disk
of_write (Fault write.Full) = Fault load.Full
