-- The texts that the program writes.
use Rattle.std.specs.Prelude.{ℕ, List, [], ◌∷◌, ◌++◌, ◌==◌, codes, if◌then◌else◌, Option, Some, None, ⊤}
use Rattle.std.specs.List.{flat_map}
use Rattle.std.specs.Fmt.{decimal}
use Rattle.workflow_file.specs.declared.fault.Place.{Place}
use Rattle.workflow_file.specs.declared.fault.Lack.{Lack}
use Rattle.workflow_file.specs.declared.fault.FlowFault.{FlowFault}
use Rattle.workflow_file.specs.declared.fault.FlowFault.TheVariants as flow
use Rattle.workflow_file.specs.FaultTexts.{section_text, lack_text}
use Rattle.flow_types.specs.declared.fault.SchemaCause.{SchemaCause}
use Rattle.flow_types.specs.declared.fault.SchemaCause.TheVariants as cause
use Rattle.flow_types.specs.declared.fault.NodeId.{NodeId}
use Rattle.flow_types.specs.declared.node.Node.{Node}
use Rattle.flow_types.specs.Names.{name_at}
use Rattle.row_codec.specs.declared.fields.FieldFault.{FieldFault}
use Rattle.row_codec.specs.declared.fields.FieldFault.TheVariants as field
use Rattle.extractors.specs.declared.fault.CsvFault.{CsvFault}
use Rattle.extractors.specs.declared.fault.CsvFault.TheVariants as csv
use Rattle.load_runner.specs.declared.fault.SourceWhat.{SourceWhat}
use Rattle.load_runner.specs.declared.fault.SourceWhat.TheVariants as what
use Rattle.load_runner.specs.declared.report.EdgeCount.{EdgeCount}
use Rattle.load_runner.specs.declared.report.Report.{Report}
use Rattle.commands.specs.declared.reason.Reason.{Reason}
use Rattle.commands.specs.declared.reason.Reason.TheVariants as why

-- the name of the node of this number, the first that has it
abbrev pub name_of : List Node → NodeId → List ℕ
name_of [] id = []
name_of (node ∷ nodes) id = if node.id.0 == id.0 then node.name else name_of nodes id

-- what passed the filter on an edge, and what was dropped there
abbrev pub edge_line : List Node → EdgeCount → List ℕ
edge_line nodes edge =
    codes "edge " ++ (name_of nodes edge.edge ++ (codes " passed "
    ++ (decimal edge.passed ++ (codes " dropped " ++ (decimal edge.dropped ++ codes "\n")))))

-- how many rows stood before, and how many a load added
abbrev pub totals_text : Report → List ℕ
totals_text report = codes "complete\nbefore " ++ (decimal report.committed_before
    ++ (codes "\nadded " ++ (decimal report.added ++ codes "\n")))

-- the report of a load that is complete, and what its filters did
abbrev pub report_text : List Node → Report → List ℕ
report_text nodes report = totals_text report ++ flat_map (edge_line nodes) report.edges

-- two words with a space between them
abbrev pub spaced : List ℕ → List ℕ → List ℕ
spaced first second = first ++ (codes " " ++ second)

-- a place in `flow.toml`: the section, which of them, the key, and which item
abbrev pub place_text : Place → List ℕ
place_text place = spaced (spaced (section_text place.section) (decimal place.index))
    (spaced place.key (decimal place.item))

-- a place, and what is wrong there
abbrev pub shape_text : Place → Lack → List ℕ
shape_text place what = codes "flow.toml " ++ (place_text place ++ (codes ": " ++ lack_text what))

abbrev pub fault_text : FlowFault → List ℕ
fault_text flow.NotToml = codes "flow.toml is not TOML"
fault_text (flow.Shape place what) = shape_text place what

-- why a flow can't be typed, in words
abbrev pub cause_text : SchemaCause → List ℕ
cause_text cause.NameTwice = codes "name is used twice"
cause_text (cause.NoInput name) = codes "no input " ++ name
cause_text cause.UsedTwice = codes "is used twice"
cause_text cause.NotReached = codes "is not reached from the table"
cause_text (cause.UnknownColumn column) = codes "unknown column " ++ column
cause_text (cause.DoubleColumn column) = codes "column " ++ (column ++ codes " comes twice")
cause_text cause.KindDiffers = codes "kinds differ"
cause_text (cause.BadExpr at what) = codes "expression is wrong at " ++ decimal at
cause_text cause.BadType = codes "expression has the wrong kinds"
cause_text cause.TooManyColumns = codes "more than 64 columns"

-- what is wrong with a field, in words
abbrev pub field_text : FieldFault → List ℕ
field_text field.Empty = codes "empty field"
field_text field.NotNumber = codes "not a number"
field_text field.TooManyDigits = codes "too many digits after the point"
field_text field.OutOfRange = codes "number out of range"
field_text field.NotUtf8 = codes "not UTF-8"
field_text field.TooLong = codes "text too long"

-- why a CSV file has no content, in words that stand behind its source's name
abbrev pub csv_text : CsvFault → List ℕ
csv_text csv.Depot = codes ": a source file failed"
csv_text csv.Missing = codes ": file is missing"
csv_text (csv.TooLarge size) = codes ": file has " ++ (decimal size ++ codes " bytes")
csv_text (csv.BadHeader at) = codes ": header differs at column " ++ decimal at
csv_text (csv.BadCsv row) = codes ": row " ++ (decimal row ++ codes " has another number of fields")
csv_text (csv.BadRow row column cause) = codes " row " ++ (decimal row
    ++ (codes " column " ++ (decimal column ++ (codes ": " ++ field_text cause))))

abbrev pub source_text : SourceWhat → List ℕ
source_text (what.Csv fault) = csv_text fault

-- the name of the node that a fault is of, by the names of all nodes, or `table`
abbrev pub fault_name : List (List ℕ) → Option NodeId → List ℕ
fault_name names None = codes "table"
fault_name names (Some id) = name_at names id.0

-- why a command wasn't done, in words; a node is told by its name
abbrev pub reason_text : List (List ℕ) → Reason → List ℕ
reason_text names why.Usage =
    codes "usage: whload load DIR [--batch N], explain DIR, check DIR, dump DIR, pack DIR SOURCE, drill N"
reason_text names why.FlowMissing = codes "flow.toml is missing"
reason_text names (why.FlowTooLong size) = codes "flow.toml has " ++ decimal size ++ codes " bytes"
reason_text names (why.Flow fault) = fault_text fault
reason_text names (why.Schema fault) = fault_name names fault.node ++ (codes ": " ++ cause_text fault.cause)
reason_text names why.NotBuilt = codes "flow.toml is not built yet"
reason_text names (why.Source fault) = codes "source " ++ (name_at names fault.source.0 ++ source_text fault.what)
reason_text names (why.NotATable place) = codes "table.whl is not a table at " ++ decimal place
reason_text names why.NotMade = codes "table.whl is not made"
reason_text names why.WorkflowDiffers = codes "table.whl was made by another workflow"
reason_text names why.Full = codes "table.whl is full"
reason_text names why.Depot = codes "a source file failed"
reason_text names why.Disk = codes "the table file failed"
reason_text names why.Sink = codes "the output failed"
reason_text names why.Memory = codes "out of memory"

-- the one line on standard error
abbrev pub refusal_line : List (List ℕ) → Reason → List ℕ
refusal_line names reason = codes "whload: " ++ reason_text names reason ++ codes "\n"

-- its line tells a place, a size or a name, and is made, which may find no memory
abbrev pub IsMade : Reason → Type 0
IsMade (why.FlowTooLong size) = ⊤
IsMade (why.Flow fault) = ⊤
IsMade (why.NotATable place) = ⊤
IsMade (why.Schema fault) = ⊤
IsMade (why.Source fault) = ⊤
IsMade reason = ⊥
