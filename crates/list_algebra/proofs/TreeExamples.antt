-- Trees that nodes make, computed. A node here is the number of trees that it takes.
use Rattle.std.proofs.Common.{◌≡◌, ℕ, [], ◌∷◌, refl}
use Rattle.list_algebra.specs.Trees.{Tree, node, no_trees, tree, in_order, trees_in}

abbrev leaf : Tree ℕ
leaf = node 0 no_trees

-- a leaf, and one node over it
one : trees_in (λ n. n) (0 ∷ 1 ∷ []) ≡ node 1 (tree leaf no_trees) ∷ []
unfolding trees_in
one = refl

-- two leaves under one node, the first of them under another
two : trees_in (λ n. n) (0 ∷ 1 ∷ 0 ∷ 2 ∷ []) ≡ node 2 (tree (node 1 (tree leaf no_trees)) (tree leaf no_trees)) ∷ []
unfolding trees_in
two = refl

-- two trees that stand beside each other
beside : trees_in (λ n. n) (0 ∷ 0 ∷ 1 ∷ []) ≡ leaf ∷ node 1 (tree leaf no_trees) ∷ []
unfolding trees_in
beside = refl

order : in_order (node 2 (tree (node 1 (tree leaf no_trees)) (tree leaf no_trees))) ≡ 0 ∷ 1 ∷ 0 ∷ 2 ∷ []
order = refl
