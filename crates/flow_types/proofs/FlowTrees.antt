-- The tree of a typed flow.
use Rattle.std.proofs.Common.{◌≡◌, ◌<◌, ℕ, List, [], ◌∷◌, length, map, slice_get, refl, ap, sym, ◌∙◌, subst, cond, All, zero, suc, find, Bool, true, eq-eqb, inl, inr, count_by, ◌==◌, ◌+◌, None, Some, Ok, ◌≤◌, length-append, arith}
use Rattle.std.specs.List.{list_all}
use Rattle.std.proofs.lemmas.List.{length-map}
use Rattle.std.proofs.lemmas.List.Sums.{sum_by-cons}
use Rattle.std.proofs.lemmas.List.Elements.{All-nil, All-head, All-tail, All-cons, All-append}
use Rattle.std.proofs.lemmas.Bool.Decides.{eqb_tells}
use Rattle.std.proofs.lemmas.Option.{same_Some}
use Rattle.list_algebra.specs.Trees.{Tree, node, Trees, no_trees, tree, roots_of, in_order, all_in_order, seen_tree, EachNode, EachNodeBelow, EachNext, root_of, trees_in}
use Rattle.list_algebra.proofs.Trees.{trees_in-tree, next-all}
use Rattle.tuple_schema.specs.Schemas.{are_distinct}
use Rattle.workflow_file.specs.declared.raw.RawFlow.{RawFlow}
use Rattle.flow_types.specs.declared.node.Kind.{Kind}
use Rattle.flow_types.specs.declared.node.Kind.TheVariants as kind
use Rattle.flow_types.specs.declared.node.Node.{Node}
use Rattle.flow_types.specs.Flows.{TypedFlow, number_of, count_inputs, tree_of, root_in, ids_of, node_of, columns_of, keeps_order, has_fixed_root}
use Rattle.flow_types.specs.Linked.{IsOver, IsLinked, IsLinkedOver, AreApart, IsFlow}
use Rattle.flow_types.specs.Graph.{names_of, graph_of, ComeOnce}
use Rattle.flow_types.specs.Typed.{typed, typed_tree}
use Rattle.flow_types.specs.Typing.{HasTree}
use Rattle.flow_types.proofs.Made.{bound, tree_numbers, seen_in_order}
use Rattle.flow_types.proofs.TypedTrees.{root_in-tree}
use Rattle.flow_types.proofs.Distinct.{names_apart}

-- a node has the inputs that the trees below it have as roots
abbrev pub HasInputs : Node → Trees Node → Type 0
HasInputs n trees = n.inputs ≡ ids_of (roots_of trees)

mutual
  -- a node that has the inputs below it has as many as there are trees
  pub counts : (t : Tree Node) → EachNode HasInputs t → EachNode (λ n trees. length (roots_of trees) ≡ count_inputs n) t
  counts (node n trees) has =
      let all : length (ids_of (roots_of trees)) ≡ length (roots_of trees) = rw length-map refl in
      (sym (ap length has.0 ∙ all), all_counts trees has.1)

  all_counts : (trees : Trees Node) → EachNodeBelow HasInputs trees → EachNodeBelow (λ n trees. length (roots_of trees) ≡ count_inputs n) trees
  all_counts no_trees has = tt
  all_counts (tree first rest) has = (counts first has.0, all_counts rest has.1)

mutual
  -- a linked node does
  pub linked_has : (t : Tree Node) → EachNode IsLinkedOver t → EachNode HasInputs t
  linked_has (node n trees) linked = (linked.0.inputs, all_linked_has trees linked.1)

  all_linked_has : (trees : Trees Node) → EachNodeBelow IsLinkedOver trees → EachNodeBelow HasInputs trees
  all_linked_has no_trees linked = tt
  all_linked_has (tree first rest) linked = (linked_has first linked.0, all_linked_has rest linked.1)

pub some_in : (t : Tree Node) → 1 ≤ length (in_order t)
some_in (node n trees) = let all = length-append (all_in_order trees) (n ∷ []) in omega arith

-- so the nodes of a tree make the tree
pub tree_made : (t : Tree Node) → EachNode HasInputs t → tree_of (in_order t) ≡ Some t
tree_made t has = ap (λ trees. slice_get trees 0) (trees_in-tree count_inputs t (counts t has))

pub next_in : (flow : TypedFlow) → IsFlow flow → EachNext count_inputs IsLinkedOver [] flow.nodes
next_in flow is = subst (EachNext count_inputs IsLinkedOver []) is.all (next-all count_inputs IsLinkedOver is.tree (counts is.tree (linked_has is.tree is.linked)) is.linked)

pub made_of : (raw : RawFlow) (places : Tree ℕ) (flow : TypedFlow) (t : Tree Node) → graph_of raw ≡ Ok places → typed raw ≡ Ok flow
    → tree_of flow.nodes ≡ Some t → seen_tree number_of t ≡ places
unfolding typed
made_of raw places flow t graph read is =
    let whole = bound (typed_tree raw places) _ flow (rw graph at read) in
    let nodes : in_order whole.0 ≡ flow.nodes = let same = whole.2 in cc in
    let numbers = tree_numbers raw places whole.0 whole.1 in
    let same : whole.0 ≡ t = same_Some _ _ (sym (tree_made whole.0 numbers.1) ∙ (ap tree_of nodes ∙ is)) in
    rw (← same) numbers.0

-- a flow has nodes
pub some_nodes : (flow : TypedFlow) → IsFlow flow → 1 ≤ length flow.nodes
some_nodes flow is = rw (← is.all) (some_in is.tree)

numbers_count : (q : ℕ) (nodes : List Node) → count_by (λ p. p == q) (map number_of nodes) ≡ count_by (λ n. number_of n == q) nodes
numbers_count q [] = refl
numbers_count q (n ∷ nodes) =
    sum_by-cons (λ p. cond (p == q) 1 0) (number_of n) (map number_of nodes) ∙ ap (λ count. cond (number_of n == q) 1 0 + count) (numbers_count q nodes)
    ∙ sym (sum_by-cons (λ m. cond (number_of m == q) 1 0) n nodes)

pub typed_is : (raw : RawFlow) (places : Tree ℕ) (nodes : List Node) (root : ℕ) → graph_of raw ≡ Ok places → HasTree raw places [] nodes root
    → typed raw ≡ Ok (record { nodes = nodes; key = None })
unfolding typed
typed_is raw places nodes root graph has = rw (graph, has.typed, has.all) refl

-- the nodes that were typed of a tree whose places come once are a flow
pub flow_of : (raw : RawFlow) (places : Tree ℕ) (nodes : List Node) (root : ℕ) → graph_of raw ≡ Ok places → HasTree raw places [] nodes root
    → All (λ p. p < length (names_of raw)) (in_order places) → ComeOnce (in_order places) → length (in_order places) ≤ 80 → IsFlow (record { nodes = nodes; key = None })
flow_of raw places nodes root graph has small once few =
    let all : in_order has.tree ≡ nodes = sym has.all in
    let numbers : map number_of nodes ≡ in_order places =
    ap (map number_of) (sym all) ∙ sym (seen_in_order number_of has.tree) ∙ ap in_order (tree_numbers raw places has.tree has.typed).0 in
    let count : length (map number_of nodes) ≡ length nodes = rw length-map refl in
    record {
      tree = has.tree;
      all = all;
      made = ap tree_of (sym all) ∙ tree_made has.tree (linked_has has.tree has.linked);
      linked = has.linked;
      apart = λ q. rw (← numbers_count q nodes, numbers) (once q);
      named = subst (λ (ns : List Node). are_distinct (map (λ n. n.name) ns) ≡ true) all (names_apart raw places has.tree graph has.typed (ap (map number_of) all ∙ numbers) small once);
      few = rw (← count, numbers) few;
    }

pub alone_in : (flow : TypedFlow) (is : IsFlow flow) → trees_in count_inputs flow.nodes ≡ is.tree ∷ []
alone_in flow is = ap (trees_in count_inputs) (sym is.all) ∙ trees_in-tree count_inputs is.tree (counts is.tree (linked_has is.tree is.linked))

pub root_at : (flow : TypedFlow) (is : IsFlow flow) → root_in flow.nodes ≡ Some (root_of is.tree)
root_at flow is = ap root_in (sym is.all) ∙ root_in-tree is.tree

module _ (P : Node → Type 0) (of : (n : Node) (below : List Node) → IsLinked n below → P n) where
  mutual
    all_in : (t : Tree Node) → EachNode IsLinkedOver t → All P (in_order t)
    all_in (node n trees) linked =
        All-append P (all_in_order trees) (n ∷ []) (all_below trees linked.1) (All-cons P n [] (of n (roots_of trees) linked.0) (All-nil P))

    all_below : (trees : Trees Node) → EachNodeBelow IsLinkedOver trees → All P (all_in_order trees)
    all_below no_trees linked = All-nil P
    all_below (tree first rest) linked = All-append P (in_order first) (all_in_order rest) (all_in first linked.0) (all_below rest linked.1)

  -- what holds of each node that is linked holds of each node of a flow
  each_node : (flow : TypedFlow) → IsFlow flow → All P flow.nodes
  each_node flow is = subst (All P) is.all (all_in is.tree is.linked)

list_all_true : {X : Type 0} (test : X → Bool) (xs : List X) → All (λ x. test x ≡ true) xs → list_all test xs ≡ true
list_all_true test [] all = refl
list_all_true test (x ∷ xs) all =
    rw (All-head (λ y. test y ≡ true) x xs all, list_all_true test xs (All-tail (λ y. test y ≡ true) x xs all)) refl

ordered : (n : Node) (below : List Node) → IsLinked n below → keeps_order n.kind ≡ true
ordered n below is = by n.kind refl is.over
  where
    by : (k : Kind) → n.kind ≡ k → IsOver n.kind (columns_of below) n.schema → keeps_order n.kind ≡ true
    by (kind.Source s) same over = let built = subst (λ k. IsOver k (columns_of below) n.schema) same over in rw same built.1.seq
    by (kind.Select test) same over = rw same refl
    by (kind.Project from) same over = rw same refl
    by (kind.Map sets) same over = rw same refl
    by (kind.Join left right) same over = rw same refl
    by (kind.Lookup left right) same over = rw same refl
    by (kind.Aggregate columns makes order) same over = rw same refl
    by (kind.Sort columns) same over = rw same refl
    by kind.Distinct same over = rw same refl
    by (kind.Union any) same over = rw same refl

-- each node of a flow keeps the order of rows
pub fixed_root : (flow : TypedFlow) → IsFlow flow → has_fixed_root flow.nodes ≡ true
fixed_root flow is = list_all_true (λ n. keeps_order n.kind) flow.nodes (each_node (λ n. keeps_order n.kind ≡ true) ordered flow is)

adds : (b : Bool) → b ≡ true → (let count : ℕ = cond b 1 0 in count) ≡ 1
adds b is = rw is refl

counted : (nodes : List Node) (k : ℕ) (m : Node) (q : ℕ) → slice_get nodes k ≡ Some m → number_of m ≡ q → 1 ≤ count_by (λ n. number_of n == q) nodes
counted [] k m q is same = absurd (cc)
counted (n ∷ nodes) zero m q is same =
    let here : n ≡ m = same_Some _ _ is in
    let one = adds (number_of n == q) (eq-eqb (number_of n) q (ap number_of here ∙ same)) in
    let sum = sum_by-cons (λ x. cond (number_of x == q) 1 0) n nodes in
    omega arith
counted (n ∷ nodes) (suc k) m q is same =
    let rest = counted nodes k m q is same in
    let sum = sum_by-cons (λ x. cond (number_of x == q) 1 0) n nodes in
    omega arith

found : (nodes : List Node) (k : ℕ) (n : Node) → AreApart nodes → slice_get nodes k ≡ Some n → find (λ m. number_of m == number_of n) nodes ≡ Some n
found [] k n apart is = absurd (cc)
found (x ∷ nodes) zero n apart is =
    let here : x ≡ n = same_Some _ _ is in
    rw (eq-eqb (number_of x) (number_of n) (ap number_of here)) (ap Some here)
found (x ∷ nodes) (suc k) n apart is = elim (eqb_tells (number_of x) (number_of n)) [
  | inl same ↦
      let one = adds (number_of x == number_of n) same.0 in
      let rest = counted nodes k n (number_of n) is refl in
      let sum = sum_by-cons (λ y. cond (number_of y == number_of n) 1 0) x nodes in
      let most = apart (number_of n) in
      absurd (omega arith)
  | inr other ↦
      rw other.0
      (found nodes k n (λ q. let sum = sum_by-cons (λ y. cond (number_of y == q) 1 0) x nodes in let most = apart q in omega arith) is)
]

pub found_in : (flow : TypedFlow) → IsFlow flow → (place : ℕ) (n : Node) → slice_get flow.nodes place ≡ Some n → node_of flow n.id ≡ Some n
found_in flow is place n at = found flow.nodes place n is.apart at
