-- Nodes as trees: each over the trees of its inputs.
use Rattle.std.specs.Prelude.{ℕ, ◌-◌, List, [], ◌∷◌, ◌++◌, length, take, drop, fold, ⊤}

mutual
  -- a node over the trees of its inputs
  pub data Tree (N : Type 0) : Type 0 where
    node : N → Trees N → Tree N

  pub data Trees (N : Type 0) : Type 0 where
    no_trees : Trees N
    tree : Tree N → Trees N → Trees N

-- the node at the root of a tree
abbrev pub root_of : {N : Type 0} → Tree N → N
root_of (node n trees) = n

-- the roots of trees
abbrev pub roots_of : {N : Type 0} → Trees N → List N
roots_of no_trees = []
roots_of (tree first rest) = root_of first ∷ roots_of rest

-- the trees of a list
abbrev pub trees_of : {N : Type 0} → List (Tree N) → Trees N
trees_of [] = no_trees
trees_of (first ∷ rest) = tree first (trees_of rest)

abbrev mutual
  -- the nodes of a tree, inputs first
  pub in_order : {N : Type 0} → Tree N → List N
  in_order (node n trees) = all_in_order trees ++ n ∷ []

  pub all_in_order : {N : Type 0} → Trees N → List N
  all_in_order no_trees = []
  all_in_order (tree first rest) = in_order first ++ all_in_order rest

abbrev mutual
  -- the tree of what is seen of each node
  pub seen_tree : {N M : Type 0} → (N → M) → Tree N → Tree M
  seen_tree see (node n trees) = node (see n) (seen_trees see trees)

  pub seen_trees : {N M : Type 0} → (N → M) → Trees N → Trees M
  seen_trees see no_trees = no_trees
  seen_trees see (tree first rest) = tree (seen_tree see first) (seen_trees see rest)

abbrev mutual
  -- the fact holds of each node of the tree and the trees of its inputs
  pub EachNode : {N : Type 0} → (N → Trees N → Type 0) → Tree N → Type 0
  EachNode Fact (node n trees) = Fact n trees × EachNodeBelow Fact trees

  pub EachNodeBelow : {N : Type 0} → (N → Trees N → Type 0) → Trees N → Type 0
  EachNodeBelow Fact no_trees = ⊤
  EachNodeBelow Fact (tree first rest) = EachNode Fact first × EachNodeBelow Fact rest

-- the trees of nodes, when one more comes: it stands over the last of them, as many as it takes
abbrev pub with_node : {N : Type 0} → (N → ℕ) → List (Tree N) → N → List (Tree N)
with_node takes trees n =
    take (length trees - takes n) trees ++ node n (trees_of (drop (length trees - takes n) trees)) ∷ []

-- the trees of nodes that come one after the other, inputs first
unfoldable pub trees_in : {N : Type 0} → (N → ℕ) → List N → List (Tree N)
trees_in takes nodes = fold (with_node takes) [] nodes

-- the fact holds of each node that comes behind these trees, and of those over which it stands
abbrev pub EachNext : {N : Type 0} → (N → ℕ) → (N → Trees N → Type 0) → List (Tree N) → List N → Type 0
EachNext takes Fact trees [] = ⊤
EachNext takes Fact trees (n ∷ nodes) =
    Fact n (trees_of (drop (length trees - takes n) trees)) × EachNext takes Fact (with_node takes trees n) nodes
