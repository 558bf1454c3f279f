-- A flow as a graph: its nodes by place, sources first, the inputs of each, and what may be wrong with these.
use Rattle.std.specs.Prelude.{ℕ, ◌-◌, ◌==◌, ◌<◌, ◌≤◌, All, List, [], ◌∷◌, ◌++◌, length, map, filter_map, get_or, count_by, Bool, not, is_some, nat_lt, Option, Some, None, option_map, option_and_then, option_to_list, unwrap_or, Result, Ok, Err}
use Rattle.std.specs.List.{concat, list_any}
use Rattle.tuple_schema.specs.Stops.{◌>>=◌}
use Rattle.list_algebra.specs.Trees.{Tree, in_order}
use Rattle.workflow_file.specs.declared.raw.RawNode.{RawNode}
use Rattle.workflow_file.specs.declared.raw.RawFlow.{RawFlow}
use Rattle.flow_types.specs.declared.fault.NodeId.{NodeId}
use Rattle.flow_types.specs.declared.fault.SchemaCause.{SchemaCause}
use Rattle.flow_types.specs.declared.fault.SchemaCause.TheVariants as cause
use Rattle.flow_types.specs.declared.fault.SchemaFault.{SchemaFault}
use Rattle.flow_types.specs.Names.{least, again, unknown, refused, place_of}
use Rattle.flow_types.specs.Trees.{tree_below}

-- the names of the nodes: the sources, then the others, each in the order of the file
abbrev pub names_of : RawFlow → List (List ℕ)
names_of flow = map (λ s. s.name) flow.sources ++ map (λ n. n.name) flow.nodes

-- the inputs that a node names, in order
abbrev pub input_names : RawNode → List (List ℕ)
input_names n = option_to_list n.input ++ (option_to_list n.left ++ (option_to_list n.right ++ unwrap_or n.inputs []))

-- the same of each node: a source needs nothing
abbrev pub needs_of : RawFlow → List (List (List ℕ))
needs_of flow = map (λ s. []) flow.sources ++ map input_names flow.nodes

-- the places of the inputs of each node
abbrev pub links_of : RawFlow → List (List ℕ)
links_of flow = map (filter_map (place_of (names_of flow))) (needs_of flow)

-- the node at a place
abbrev pub id_of : ℕ → NodeId
id_of place = record { 0 = place }

-- the fault of the node at a place
abbrev pub fault_at : ℕ → SchemaCause → SchemaFault
fault_at place why = record { node = Some (id_of place); cause = why }

-- no node bears the name of an earlier one, or the least that does
abbrev pub names_differ : List (List ℕ) → Result Unit SchemaFault
names_differ names = refused (option_map (λ place. fault_at place cause.NameTwice) (again names))

-- the fault of the node at a place, where it names an input that isn't there
abbrev pub input_fault : List (List ℕ) → List (List (List ℕ)) → ℕ → Option SchemaFault
input_fault names needs place = option_map (λ name. fault_at place (cause.NoInput name))
    (unknown names (get_or needs place []))

-- the inputs of each node are there, or the least node that names another
abbrev pub inputs_exist : List (List ℕ) → List (List (List ℕ)) → Result Unit SchemaFault
inputs_exist names needs =
    refused (option_and_then (input_fault names needs) (least (length needs)
    (λ place. is_some (input_fault names needs place))))

-- the place of the table's input, which has to be there
abbrev pub root_at : List ℕ → Option ℕ → Result ℕ SchemaFault
root_at name None = Err (record { node = None; cause = cause.NoInput name })
root_at name (Some place) = Ok place

-- how often a node is an input, the table's among them
abbrev pub uses_of : ℕ → List (List ℕ) → ℕ → ℕ
uses_of root links place = count_by (λ p. p == place) (root ∷ concat links)

-- no node is an input twice, or the least that is
abbrev pub used_once : ℕ → List (List ℕ) → Result Unit SchemaFault
used_once root links =
    refused (option_map (λ place. fault_at place cause.UsedTwice)
    (least (length links) (λ place. nat_lt 1 (uses_of root links place))))

-- the tree of a flow, which is at most so many nodes deep as there are
abbrev pub flow_tree : ℕ → List (List ℕ) → Tree ℕ
flow_tree root links = tree_below links (length links - 1) root

-- the node is in the tree
abbrev pub is_in : Tree ℕ → ℕ → Bool
is_in tree place = list_any (λ p. p == place) (in_order tree)

-- the table's input reaches each node, or the least that it doesn't
abbrev pub all_reached : ℕ → List (List ℕ) → Result Unit SchemaFault
all_reached root links =
    refused (option_map (λ place. fault_at place cause.NotReached)
    (least (length links) (λ place. not (is_in (flow_tree root links) place))))

-- the tree of a flow whose names fit together, or the first fault
abbrev pub graph_of : RawFlow → Result (Tree ℕ) SchemaFault
graph_of flow = do
  _ ← names_differ (names_of flow)
  _ ← inputs_exist (names_of flow) (needs_of flow)
  root ← root_at flow.table.input (place_of (names_of flow) flow.table.input)
  _ ← used_once root (links_of flow)
  _ ← all_reached root (links_of flow)
  Ok (flow_tree root (links_of flow))

-- each input is a node
abbrev pub AreWithin : List (List ℕ) → Type 0
AreWithin links = All (λ inputs. All (λ place. place < length links) inputs) links

-- none of these places comes twice
abbrev pub ComeOnce : List ℕ → Type 0
ComeOnce places = (place : ℕ) → count_by (λ p. p == place) places ≤ 1
