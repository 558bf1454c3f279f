-- The contents of the files of a folder, and what a flow means over them.
use Rattle.std.specs.Prelude.{◌≡◌, ℕ, ◌==◌, List, [], ◌∷◌, length, map, find, Option, Some, None, Result, Ok, Err}
use Rattle.std.specs.List.{range_with_len}
use Rattle.tuple_schema.specs.declared.schema.Column.{Column}
use Rattle.list_algebra.specs.Bags.{Tuple}
use Rattle.outside.specs.Depot.{Files, file_at}
use Rattle.outside.specs.Whole.{found_in}
use Rattle.tuple_schema.specs.Stops.{◌>>=◌}
use Rattle.extractors.specs.declared.fault.CsvFault.{CsvFault}
use Rattle.extractors.specs.declared.fault.CsvFault.TheVariants.{Depot}
use Rattle.extractors.specs.Opening.{source_content}
use Rattle.flow_types.specs.declared.fault.NodeId.{NodeId}
use Rattle.load_runner.specs.declared.fault.SourceFault.{SourceFault}
use Rattle.load_runner.specs.declared.fault.SourceWhat.{SourceWhat}
use Rattle.load_runner.specs.declared.fault.SourceWhat.TheVariants as what
use Rattle.flow_types.specs.declared.node.Kind.{Kind}
use Rattle.flow_types.specs.declared.node.Kind.TheVariants as kind
use Rattle.flow_types.specs.declared.node.Node.{Node}
use Rattle.flow_types.specs.Flows.{TypedFlow, number_of, root_in}
use Rattle.kind_laws.specs.Wholes.{Lists, by_number, whole_of}
use Rattle.kind_laws.specs.Promises.{KeepsPromises, IsListing}

-- the fault of a source
abbrev pub source_fault : NodeId → CsvFault → SourceFault
source_fault id fault = record { source = id; what = what.Csv fault }

-- the depot failed while the source was read
abbrev pub by_depot : SourceWhat
by_depot = what.Csv Depot

-- its content, or its fault
abbrev pub of_source : NodeId → Result (List Tuple) CsvFault → Result (List Tuple) SourceFault
of_source id (Ok rows) = Ok rows
of_source id (Err fault) = Err (source_fault id fault)

-- the content of a source's file, one of at most 268,435,456 bytes, or its first fault; of any other node the empty
-- one
abbrev pub content_at : Files → Node → Kind → Result (List Tuple) SourceFault
content_at files n (kind.Source source) = of_source n.id
    (source_content source.any_header n.schema (found_in 268435456 (file_at files source.file)))
content_at files n _ = Ok []

-- the same of a node that may be there
abbrev pub content_of : Files → Option Node → Result (List Tuple) SourceFault
content_of files None = Ok []
content_of files (Some n) = content_at files n n.kind

-- the node of a number
abbrev pub numbered : List Node → ℕ → Option Node
numbered nodes number = find (λ n. number_of n == number) nodes

-- all of these contents, or the first fault
abbrev pub all_of : List (Result (List Tuple) SourceFault) → Result (List (List Tuple)) SourceFault
all_of [] = Ok []
all_of (first ∷ others) = do
  rows ← first
  more ← all_of others
  Ok (rows ∷ more)

-- the contents by number, so that those of the sources come first, in the order of the file; or the first fault
abbrev pub contents_in : List Node → Files → Result (List (List Tuple)) SourceFault
contents_in nodes files = all_of (map (λ number. content_of files (numbered nodes number))
    (range_with_len 0 (length nodes)))

-- the files keep a truth: their contents list it, and it keeps what the sources promise
pub record KeepsTruth (files : Files) (nodes : List Node) (truth : Lists) : Type 0 where
  pub contents : List (List Tuple)
  pub are : contents_in nodes files ≡ Ok contents
  pub listed : IsListing nodes truth (by_number contents)
  pub promises : KeepsPromises nodes truth

-- these rows are what the flow means over the files: they keep a truth, of which it makes these
pub record IsMeaning (flow : TypedFlow) (files : Files) (whole : List Tuple) : Type 0 where
  pub truth : Lists
  pub kept : KeepsTruth files flow.nodes truth
  pub makes : whole_of flow.nodes truth ≡ Some whole

-- the columns of the last node, whose rows the table takes
abbrev pub columns_of_last : Option Node → List Column
columns_of_last None = []
columns_of_last (Some root) = root.schema

abbrev pub root_columns : List Node → List Column
root_columns nodes = columns_of_last (root_in nodes)
