-- Typed flows: their nodes, inputs first, and the tree of these.
use Rattle.std.specs.Prelude.{ℕ, ◌≡◌, ◌-◌, ◌==◌, ◌<◌, List, [], length, map, find, position, get_or, slice_get, Bool, true, Option, Some}
use Rattle.std.specs.List.{list_all}
use Rattle.tuple_schema.specs.declared.schema.Column.{Column}
use Rattle.list_algebra.specs.Trees.{Tree, trees_in}
use Rattle.flow_types.specs.declared.fault.NodeId.{NodeId}
use Rattle.flow_types.specs.declared.node.Kind.{Kind}
use Rattle.flow_types.specs.declared.node.Kind.TheVariants as kind
use Rattle.flow_types.specs.declared.node.Node.{Node}

-- a typed flow: its nodes, inputs first and the root last, and the columns of the table's key, where it has one
pub record TypedFlow : Type 0 where
  pub nodes : List Node
  pub key : Option (List ℕ)

-- the number of a node
abbrev pub number_of : Node → ℕ
number_of n = n.id.0

-- how many inputs a node has
abbrev pub count_inputs : Node → ℕ
count_inputs n = length n.inputs

-- the tree of nodes that come one after the other, inputs first
abbrev pub tree_of : List Node → Option (Tree Node)
tree_of nodes = slice_get (trees_in count_inputs nodes) 0

-- the root, which is the last node
abbrev pub root_in : List Node → Option Node
root_in nodes = slice_get nodes (length nodes - 1)

-- the node of this number
abbrev pub node_of : TypedFlow → NodeId → Option Node
node_of flow id = find (λ n. number_of n == id.0) flow.nodes

-- the rank of a node: its place among the nodes
abbrev pub rank_of : TypedFlow → NodeId → Option ℕ
rank_of flow id = position (λ n. number_of n == id.0) flow.nodes

-- the node has a lower rank
pub record IsBelow (flow : TypedFlow) (rank : ℕ) (id : NodeId) : Type 0 where
  pub below : ℕ
  pub there : rank_of flow id ≡ Some below
  pub lower : below < rank

-- the columns of nodes
abbrev pub columns_of : List Node → List (List Column)
columns_of nodes = map (λ n. n.schema) nodes

-- the numbers of nodes
abbrev pub ids_of : List Node → List NodeId
ids_of nodes = map (λ n. n.id) nodes

-- a source that lists the truth's rows in their order; a node that is no source always does
abbrev pub keeps_order : Kind → Bool
keeps_order (kind.Source s) = s.seq
keeps_order (kind.Select test) = true
keeps_order (kind.Project from) = true
keeps_order (kind.Map sets) = true
keeps_order (kind.Join left right) = true
keeps_order (kind.Lookup left right) = true
keeps_order (kind.Aggregate by makes order) = true
keeps_order (kind.Sort by) = true
keeps_order kind.Distinct = true
keeps_order (kind.Union any) = true

-- the order of the root's rows is fixed: each source keeps its order, until properties of kinds say more
abbrev pub has_fixed_root : List Node → Bool
has_fixed_root nodes = list_all (λ n. keeps_order n.kind) nodes

-- the columns of an input
abbrev pub columns_in : List (List Column) → ℕ → List Column
columns_in columns input = get_or columns input []
