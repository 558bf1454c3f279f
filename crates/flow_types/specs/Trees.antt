-- The tree of a node, in a graph of places.
use Rattle.std.specs.Prelude.{◌≡◌, ℕ, zero, suc, List, [], get_or, map}
use Rattle.list_algebra.specs.Trees.{Tree, node, no_trees, trees_of}

-- the tree of a node, at most so many nodes deep below it, where these are the inputs of each node
unfoldable pub tree_below : List (List ℕ) → ℕ → ℕ → Tree ℕ
tree_below links zero place = node place no_trees
tree_below links (suc depth) place = node place (trees_of (map (tree_below links depth) (get_or links place [])))

-- the tree is whole: one level deeper it would have no node more
abbrev pub IsWhole : List (List ℕ) → ℕ → ℕ → Type 0
IsWhole links depth place = tree_below links depth place ≡ tree_below links (suc depth) place

-- the inputs of a node that are in its tree
abbrev pub inputs_below : List (List ℕ) → ℕ → ℕ → List ℕ
inputs_below links zero place = []
inputs_below links (suc depth) place = get_or links place []
