-- Which flows are built at this stage.
use Rattle.std.specs.Prelude.{ℕ, List, codes, bytes_eq, Bool, true, ◌&&◌, is_some, is_none, Option, Some, None}
use Rattle.std.specs.List.{list_all}
use Rattle.workflow_file.specs.declared.raw.RawSource.{RawSource}
use Rattle.workflow_file.specs.declared.raw.RawNode.{RawNode}
use Rattle.workflow_file.specs.declared.raw.RawFlow.{RawFlow}
use Rattle.flow_types.specs.NodeTexts.{text_of}

-- the format is CSV, by name or by default
abbrev pub is_csv : Option (List ℕ) → Bool
is_csv None = true
is_csv (Some word) = bytes_eq word (codes "csv")

-- a sequence of rows in a CSV file
abbrev pub is_built_source : RawSource → Bool
is_built_source s = is_csv s.format && bytes_eq s.promise (codes "seq")

-- a node that declares nothing, of a kind that is built and with the key that this needs
abbrev pub is_built_node : RawNode → Bool
is_built_node n = is_none n.declare && is_some (text_of n)

-- a table without a key, over such sources and nodes
unfoldable pub is_built : RawFlow → Bool
is_built flow =
    is_none flow.table.key && (list_all is_built_source flow.sources && list_all is_built_node flow.nodes)
