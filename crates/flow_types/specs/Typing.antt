-- The nodes of a flow that is being typed.
use Rattle.std.specs.Prelude.{◌≡◌, ◌++◌, ℕ, List, slice_get, Some, Ok}
use Rattle.list_algebra.specs.Trees.{Tree, EachNode, root_of, in_order}
use Rattle.workflow_file.specs.declared.raw.RawFlow.{RawFlow}
use Rattle.flow_types.specs.declared.node.Node.{Node}
use Rattle.flow_types.specs.Typed.{typed_tree}
use Rattle.flow_types.specs.Linked.{IsLinkedOver}

-- behind the nodes at the front stands the typed tree of these places, its root at this place
pub record HasTree (raw : RawFlow) (places : Tree ℕ) (front nodes : List Node) (root : ℕ) : Type 0 where
  pub tree : Tree Node
  pub typed : typed_tree raw places ≡ Ok tree
  pub linked : EachNode IsLinkedOver tree
  pub all : nodes ≡ front ++ in_order tree
  pub stands : slice_get nodes root ≡ Some (root_of tree)
