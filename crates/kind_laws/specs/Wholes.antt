-- The meaning of a flow on whole lists: each node's list from those of its inputs, up to the root.
use Rattle.std.specs.Prelude.{List, [], ◌∷◌, get_or, Option, option_map}
use Rattle.list_algebra.specs.Bags.{Tuple}
use Rattle.list_algebra.specs.Trees.{Tree, node, Trees, no_trees, tree, roots_of}
use Rattle.flow_types.specs.declared.node.Node.{Node}
use Rattle.flow_types.specs.Flows.{number_of, columns_of, tree_of}
use Rattle.kind_laws.specs.Outputs.{output_of}

-- a list for each node: of a truth or a listing, those of the sources count
abbrev pub Lists : Type 0
Lists = Node → List Tuple

-- the lists of sources, one for each in the order of the file, whose numbers come first
abbrev pub by_number : List (List Tuple) → Lists
by_number lists n = get_or lists (number_of n) []

-- the lists that a node takes: those of its inputs, and where it has none, as a source, its own
abbrev pub taken : List Tuple → List (List Tuple) → List (List Tuple)
taken own [] = own ∷ []
taken own (first ∷ others) = first ∷ others

abbrev mutual
  -- the list of a tree whose sources have these: what its node makes of the lists of its inputs
  pub list_of : Lists → Tree Node → List Tuple
  list_of truth (node n trees) = output_of n.kind (columns_of (roots_of trees)) (taken (truth n) (lists_of truth trees))

  pub lists_of : Lists → Trees Node → List (List Tuple)
  lists_of truth no_trees = []
  lists_of truth (tree first rest) = list_of truth first ∷ lists_of truth rest

-- the meaning of a flow whose sources have these lists: the list of the root
abbrev pub whole_of : List Node → Lists → Option (List Tuple)
whole_of nodes truth = option_map (list_of truth) (tree_of nodes)
