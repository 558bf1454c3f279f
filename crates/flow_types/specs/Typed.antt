-- The typed flow: the columns and the kind of each node, or its first fault.
use Rattle.std.specs.Prelude.{ℕ, List, [], map, filter_map, slice_get, codes, bytes_eq, Bool, false, Option, Some, None, option_map, option_and_then, Result, Ok, Err}
use Rattle.tuple_schema.specs.Stops.{◌>>=◌}
use Rattle.list_algebra.specs.Trees.{Tree, node, Trees, no_trees, tree, roots_of, in_order}
use Rattle.tuple_schema.specs.declared.schema.Column.{Column}
use Rattle.workflow_file.specs.declared.raw.RawSource.{RawSource}
use Rattle.workflow_file.specs.declared.raw.RawFlow.{RawFlow}
use Rattle.tuple_schema.specs.Texts.{head_of}
use Rattle.flow_types.specs.Columns.{stated_column}
use Rattle.flow_types.specs.declared.fault.SchemaCause.{SchemaCause}
use Rattle.flow_types.specs.declared.fault.SchemaCause.TheVariants as cause
use Rattle.flow_types.specs.declared.fault.SchemaFault.{SchemaFault}
use Rattle.flow_types.specs.declared.node.Node.{Node}
use Rattle.flow_types.specs.declared.node.Source.{Source}
use Rattle.flow_types.specs.declared.node.GroupOrder.{GroupOrder}
use Rattle.flow_types.specs.declared.node.Kind.{Kind}
use Rattle.flow_types.specs.declared.node.Kind.TheVariants as kind
use Rattle.flow_types.specs.Names.{name_at, names_in, no_double, no_unknown, cols_if, place_of, last_name}
use Rattle.flow_types.specs.Flows.{TypedFlow, columns_in, columns_of, ids_of}
use Rattle.flow_types.specs.Expressions.{test_of}
use Rattle.flow_types.specs.Each.{each_made}
use Rattle.flow_types.specs.Paired.{pairs_of, lefts, rights}
use Rattle.flow_types.specs.Joined.{join_columns, lookup_columns}
use Rattle.flow_types.specs.United.{only_alike, united_columns}
use Rattle.flow_types.specs.Grouped.{grouped}
use Rattle.flow_types.specs.Mapped.{setting_of, columns_set, set_columns, assign_in, only_few, only_schema}
use Rattle.flow_types.specs.NodeTexts.{NodeText, source, select, project, mapped, joined, looked_up, aggregated, sorted, distinct, united, text_at}
use Rattle.flow_types.specs.Graph.{names_of, id_of, fault_at, graph_of}

-- the column of a name
abbrev pub column_of : List Column → List ℕ → Option Column
column_of columns name = option_and_then (slice_get columns) (place_of (names_in columns) name)

-- a column under another name
abbrev pub renamed : List ℕ → Column → Column
renamed name c = record { name = name; kind = c.kind; nullable = c.nullable }

-- the column that a text of a projection takes, under its new name
abbrev pub output_column : List Column → List ℕ → Option Column
output_column columns text = option_map (renamed (last_name text)) (column_of columns (head_of text))

-- the columns of a projection
abbrev pub output_columns : List Column → List (List ℕ) → List Column
output_columns columns texts = filter_map (output_column columns) texts

-- the columns of a source's key, and those by which it is grouped: first, no column comes twice
abbrev pub source_cols : List (List ℕ) → RawSource → Result (Option (List ℕ) × Option (List ℕ)) SchemaCause
source_cols names s = do
  _ ← no_double names
  key ← cols_if names s.key
  grouped ← cols_if names s.grouped
  Ok (key, grouped)

-- a text that may be absent is there, and is this word
abbrev pub is_word : List ℕ → Option (List ℕ) → Bool
is_word word None = false
is_word word (Some text) = bytes_eq text word

-- how a source lists its rows, with the columns of its key and those by which it is grouped
abbrev pub source_of : RawSource → Option (List ℕ) → Option (List ℕ) → Source
source_of s key grouped = record {
  file = s.file;
  packed = is_word (codes "packed") s.format;
  any_header = is_word (codes "any") s.header;
  seq = bytes_eq s.promise (codes "seq");
  key = key;
  grouped = grouped;
}

-- the kind and the columns of a source
abbrev pub typed_source : RawSource → Result (Kind × List Column) SchemaCause
typed_source s = do
  cols ← source_cols (names_in (map stated_column s.columns)) s
  Ok (kind.Source (source_of s cols.0 cols.1), map stated_column s.columns)

-- those of a selection from these columns: its test has to be a truth of them
abbrev pub typed_select : List ℕ → List Column → Result (Kind × List Column) SchemaCause
typed_select text columns = do
  test ← test_of columns text
  Ok (kind.Select test, columns)

-- the places that a projection takes, and its columns: they have to be there, and have names of their own
abbrev pub projection : List Column → List (List ℕ) → Result (List ℕ × List Column) SchemaCause
projection columns texts = do
  _ ← no_unknown (names_in columns) (map head_of texts)
  _ ← no_double (names_in (output_columns columns texts))
  Ok (filter_map (place_of (names_in columns)) (map head_of texts), output_columns columns texts)

-- those of a projection of these columns
abbrev pub typed_project : List (List ℕ) → List Column → Result (Kind × List Column) SchemaCause
typed_project texts columns = do
  taken ← projection columns texts
  Ok (kind.Project taken.0, taken.1)

-- those of a map of these columns: no name is set twice
abbrev pub typed_map : List (List ℕ) → List Column → Result (Kind × List Column) SchemaCause
typed_map texts columns = do
  settings ← each_made (setting_of columns) texts
  _ ← no_double (names_in (columns_set settings))
  output ← only_few (set_columns columns settings)
  Ok (kind.Map (filter_map (assign_in (names_in output)) settings), output)

-- those of a join of these columns
abbrev pub typed_join : List (List ℕ) → List Column → List Column → Result (Kind × List Column) SchemaCause
typed_join texts left right = do
  pairs ← pairs_of left right texts
  output ← only_schema (join_columns left right (rights pairs))
  Ok (kind.Join (lefts pairs) (rights pairs), output)

-- those of a lookup
abbrev pub typed_lookup : List (List ℕ) → List Column → List Column → Result (Kind × List Column) SchemaCause
typed_lookup texts left right = do
  pairs ← pairs_of left right texts
  output ← only_schema (lookup_columns left right (rights pairs))
  Ok (kind.Lookup (lefts pairs) (rights pairs), output)

-- those of a sort of these columns: the names by which it sorts have to be there
abbrev pub typed_sort : List (List ℕ) → List Column → Result (Kind × List Column) SchemaCause
typed_sort names columns = do
  _ ← no_unknown (names_in columns) names
  Ok (kind.Sort (filter_map (place_of (names_in columns)) names), columns)

-- those of a distinct of these columns
abbrev pub typed_distinct : List Column → Result (Kind × List Column) SchemaCause
typed_distinct columns = Ok (kind.Distinct, columns)

-- those of a union of inputs with these columns, one after the other: all hold the same kinds
abbrev pub typed_union : List (List Column) → Result (Kind × List Column) SchemaCause
typed_union inputs = do
  _ ← only_alike (columns_in inputs 0) inputs
  Ok (kind.Union false, united_columns inputs)

-- those of an aggregate of these columns
abbrev pub typed_aggregate : List (List ℕ) → List (List ℕ) → GroupOrder → List Column
    → Result (Kind × List Column) SchemaCause
typed_aggregate by texts order columns = do
  found ← grouped by texts columns
  Ok (kind.Aggregate found.0.0 found.0.1 order, found.1)

-- the kind and the columns of a node that says this, over inputs with these columns
abbrev pub typed_text : NodeText → List (List Column) → Result (Kind × List Column) SchemaCause
typed_text (source s) inputs = typed_source s
typed_text (select text) inputs = typed_select text (columns_in inputs 0)
typed_text (project texts) inputs = typed_project texts (columns_in inputs 0)
typed_text (mapped texts) inputs = typed_map texts (columns_in inputs 0)
typed_text (joined texts) inputs = typed_join texts (columns_in inputs 0) (columns_in inputs 1)
typed_text (looked_up texts) inputs = typed_lookup texts (columns_in inputs 0) (columns_in inputs 1)
typed_text (aggregated by makes order) inputs = typed_aggregate by makes order (columns_in inputs 0)
typed_text (sorted names) inputs = typed_sort names (columns_in inputs 0)
typed_text distinct inputs = typed_distinct (columns_in inputs 0)
typed_text (united names) inputs = typed_union inputs

-- the same of what stands at a place, if something does
abbrev pub typed_at : Option NodeText → List (List Column) → Result (Kind × List Column) SchemaCause
typed_at None inputs = Err cause.NotReached
typed_at (Some text) inputs = typed_text text inputs

-- the node at a place, over its inputs
abbrev pub typed_node : RawFlow → ℕ → List Node → Result Node SchemaCause
typed_node flow place inputs = do
  made ← typed_at (text_at flow place) (columns_of inputs)
  Ok (record {
    id = id_of place;
    name = name_at (names_of flow) place;
    kind = made.0;
    inputs = ids_of inputs;
    schema = made.1;
    declared = [];
  })

-- a cause at a place is the fault of the node there
abbrev pub at_node : {X : Type 0} → ℕ → Result X SchemaCause → Result X SchemaFault
at_node place (Ok x) = Ok x
at_node place (Err why) = Err (fault_at place why)

abbrev mutual
  -- the typed tree: the trees of its inputs, and then the node itself over the roots of these
  pub typed_tree : RawFlow → Tree ℕ → Result (Tree Node) SchemaFault
  typed_tree flow (node place trees) = do
    inputs ← typed_trees flow trees
    top ← at_node place (typed_node flow place (roots_of inputs))
    Ok (node top inputs)

  pub typed_trees : RawFlow → Trees ℕ → Result (Trees Node) SchemaFault
  typed_trees flow no_trees = Ok no_trees
  typed_trees flow (tree first rest) = do
    one ← typed_tree flow first
    others ← typed_trees flow rest
    Ok (tree one others)

-- the typed flow of a raw one whose names fit together, or the first fault
unfoldable pub typed : RawFlow → Result TypedFlow SchemaFault
typed flow = do
  places ← graph_of flow
  whole ← typed_tree flow places
  Ok (record { nodes = in_order whole; key = None })
