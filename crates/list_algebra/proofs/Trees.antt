-- The nodes of a tree, inputs first, make that tree again.
use Rattle.std.proofs.Common.{◌≡◌, ℕ, suc, ◌-◌, List, [], ◌∷◌, ◌++◌, length, drop, fold, refl, ap, sym, ◌∙◌, subst, append_assoc, append-nil, length-append, arith}
use Rattle.std.proofs.Math.Seq.{take-append_seam, drop-append_seam}
use Rattle.list_algebra.specs.Trees.{Tree, node, Trees, no_trees, tree, roots_of, trees_of, in_order, all_in_order, EachNode, EachNodeBelow, with_node, trees_in, EachNext}

-- trees as a list
unfoldable listed : {N : Type 0} → Trees N → List (Tree N)
listed no_trees = []
listed (tree first rest) = first ∷ listed rest

trees_of-listed : {N : Type 0} (trees : Trees N) → trees_of (listed trees) ≡ trees
unfolding listed
trees_of-listed no_trees = refl
trees_of-listed (tree first rest) = ap (tree first) (trees_of-listed rest)

length-listed : {N : Type 0} (trees : Trees N) → length (listed trees) ≡ length (roots_of trees)
unfolding listed
length-listed no_trees = refl
length-listed (tree first rest) = ap suc (length-listed rest)

module _ {N : Type 0} (takes : N → ℕ) where
  -- a node stands over the trees that it takes
  before : (n : N) (front : List (Tree N)) (trees : Trees N) → length (roots_of trees) ≡ takes n → length (front ++ listed trees) - takes n ≡ length front
  before n front trees over = let all = length-append front (listed trees) in let own = length-listed trees in omega arith

  over : (n : N) (front : List (Tree N)) (trees : Trees N) → length (roots_of trees) ≡ takes n
      → trees_of (drop (length (front ++ listed trees) - takes n) (front ++ listed trees)) ≡ trees
  over n front trees is = rw (before n front trees is, drop-append_seam front (listed trees)) (trees_of-listed trees)

  with_node-over : (n : N) (front : List (Tree N)) (trees : Trees N) → length (roots_of trees) ≡ takes n
      → with_node takes (front ++ listed trees) n ≡ front ++ node n trees ∷ []
  with_node-over n front trees is =
      rw (before n front trees is, drop-append_seam front (listed trees), take-append_seam front (listed trees), trees_of-listed trees) refl

  mutual
    unfolding listed

    -- behind a tree's nodes stands the tree
    pub fold-tree : (t : Tree N) (front : List (Tree N)) (rest : List N) → EachNode (λ n trees. length (roots_of trees) ≡ takes n) t
        → fold (with_node takes) front (in_order t ++ rest) ≡ fold (with_node takes) (front ++ t ∷ []) rest
    fold-tree (node n trees) front rest each =
        ap (fold (with_node takes) front) (append_assoc (all_in_order trees) (n ∷ []) rest)
        ∙ fold-trees trees front (n ∷ rest) each.1
        ∙ ap (λ trees. fold (with_node takes) trees rest) (with_node-over n front trees each.0)

    fold-trees : (trees : Trees N) (front : List (Tree N)) (rest : List N) → EachNodeBelow (λ n trees. length (roots_of trees) ≡ takes n) trees
        → fold (with_node takes) front (all_in_order trees ++ rest) ≡ fold (with_node takes) (front ++ listed trees) rest
    fold-trees no_trees front rest each = ap (λ trees. fold (with_node takes) trees rest) (sym (append-nil front))
    fold-trees (tree first others) front rest each =
        ap (fold (with_node takes) front) (append_assoc (in_order first) (all_in_order others) rest)
        ∙ fold-tree first front (all_in_order others ++ rest) each.0
        ∙ fold-trees others (front ++ first ∷ []) rest each.1
        ∙ ap (λ trees. fold (with_node takes) trees rest) (append_assoc front (first ∷ []) (listed others))

  -- the nodes of a tree, inputs first, make the tree
  pub trees_in-tree : (t : Tree N) → EachNode (λ n trees. length (roots_of trees) ≡ takes n) t → trees_in takes (in_order t) ≡ t ∷ []
  unfolding trees_in
  trees_in-tree t each = ap (fold (with_node takes) []) (sym (append-nil (in_order t))) ∙ fold-tree t [] [] each

  module _ (Fact : N → Trees N → Type 0) where
    mutual
      unfolding listed

      -- what holds of each node of a tree holds of each next one
      pub next-tree : (t : Tree N) (front : List (Tree N)) (rest : List N) → EachNode (λ n trees. length (roots_of trees) ≡ takes n) t → EachNode Fact t
          → EachNext takes Fact (front ++ t ∷ []) rest → EachNext takes Fact front (in_order t ++ rest)
      next-tree (node n trees) front rest each facts behind =
          let here : EachNext takes Fact (front ++ listed trees) (n ∷ rest) =
          (subst (Fact n) (sym (over n front trees each.0)) facts.0, subst (λ ts. EachNext takes Fact ts rest) (sym (with_node-over n front trees each.0)) behind) in
          subst (EachNext takes Fact front) (sym (append_assoc (all_in_order trees) (n ∷ []) rest)) (next-trees trees front (n ∷ rest) each.1 facts.1 here)

      next-trees : (trees : Trees N) (front : List (Tree N)) (rest : List N) → EachNodeBelow (λ n trees. length (roots_of trees) ≡ takes n) trees → EachNodeBelow Fact trees
          → EachNext takes Fact (front ++ listed trees) rest → EachNext takes Fact front (all_in_order trees ++ rest)
      next-trees no_trees front rest each facts behind = subst (λ ts. EachNext takes Fact ts rest) (append-nil front) behind
      next-trees (tree first others) front rest each facts behind =
          subst (EachNext takes Fact front) (sym (append_assoc (in_order first) (all_in_order others) rest))
          (next-tree first front (all_in_order others ++ rest) each.0 facts.0
          (next-trees others (front ++ first ∷ []) rest each.1 facts.1
          (subst (λ ts. EachNext takes Fact ts rest) (sym (append_assoc front (first ∷ []) (listed others))) behind)))

    pub next-all : (t : Tree N) → EachNode (λ n trees. length (roots_of trees) ≡ takes n) t → EachNode Fact t → EachNext takes Fact [] (in_order t)
    next-all t each facts = subst (EachNext takes Fact []) (append-nil (in_order t)) (next-tree t [] [] each facts tt)
