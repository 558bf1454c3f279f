-- Trimmed runs of a flow: there is one, and any of them brings what stands behind the committed rows.
use Rattle.std.proofs.Common.{◌≡◌, ◌≤◌, ◌==◌, ◌∙◌, ℕ, List, [], ◌∷◌, ◌++◌, length, map, drop, cond, count_by, All, Bool, true, false, Some, refl, sym, ap, subst, eq-eqb, inl, inr, arith}
use Rattle.std.proofs.lemmas.Bool.{cases_Bool}
use Rattle.std.proofs.lemmas.List.Elements.{All-nil, All-head, All-tail, All-cons, All-append}
use Rattle.std.proofs.lemmas.List.Sums.{sum_by-cons}
use Rattle.std.proofs.lemmas.Option.{same_Some}
use Rattle.list_algebra.specs.Bags.{Tuple}
use Rattle.list_algebra.specs.Trees.{Tree, node, Trees, no_trees, tree, root_of, roots_of, in_order, all_in_order, seen_tree, seen_trees, EachNode, EachNodeBelow}
use Rattle.flow_types.specs.declared.node.Node.{Node}
use Rattle.flow_types.specs.Flows.{TypedFlow, number_of, root_in}
use Rattle.flow_types.specs.Linked.{IsFlow}
use Rattle.kind_laws.specs.Outputs.{output_of}
use Rattle.kind_laws.specs.Wholes.{Lists, taken, list_of, lists_of}
use Rattle.kind_laws.specs.Runs.{Yield, brought, columns_below, Yields, at_root}
use Rattle.load_runner.specs.Trimmed.{is_root, kept_on, IsTrimmedRun}

-- All of two lists, one behind the other.

pub all_left : {X : Type 0} (P : X → Type 0) (xs ys : List X) → All P (xs ++ ys) → All P xs
all_left P [] ys all = All-nil P
all_left P (x ∷ xs) ys all = All-cons P x xs (All-head P x (xs ++ ys) all) (all_left P xs ys (All-tail P x (xs ++ ys) all))

pub all_right : {X : Type 0} (P : X → Type 0) (xs ys : List X) → All P (xs ++ ys) → All P ys
all_right P [] ys all = all
all_right P (x ∷ xs) ys all = all_right P xs ys (All-tail P x (xs ++ ys) all)

-- The run in which all is left.

abbrev mutual
  pub full_run : Lists → Tree Node → Tree Yield
  full_run lists (node n trees) = node (record {
    node = n;
    given = list_of lists (node n trees);
    left = list_of lists (node n trees);
  }) (full_runs lists trees)

  pub full_runs : Lists → Trees Node → Trees Yield
  full_runs lists no_trees = no_trees
  full_runs lists (tree first rest) = tree (full_run lists first) (full_runs lists rest)

abbrev node_of_yield : Yield → Node
node_of_yield y = y.node

mutual
  full_tree : (lists : Lists) (t : Tree Node) → seen_tree node_of_yield (full_run lists t) ≡ t
  full_tree lists (node n trees) = ap (λ ts. node n ts) (full_trees lists trees)

  full_trees : (lists : Lists) (trees : Trees Node) → seen_trees node_of_yield (full_runs lists trees) ≡ trees
  full_trees lists no_trees = refl
  full_trees lists (tree first rest) = rw (full_tree lists first, full_trees lists rest) refl

full_root : (lists : Lists) (t : Tree Node) → ((root_of (full_run lists t)).node ≡ root_of t) × ((root_of (full_run lists t)).left ≡ list_of lists t)
full_root lists (node n trees) = (refl, refl)

full_nodes : (lists : Lists) (trees : Trees Node) → map node_of_yield (roots_of (full_runs lists trees)) ≡ roots_of trees
full_nodes lists no_trees = refl
full_nodes lists (tree first rest) = rw ((full_root lists first).0, full_nodes lists rest) refl

full_brought : (lists : Lists) (trees : Trees Node) → brought (full_runs lists trees) ≡ lists_of lists trees
full_brought lists no_trees = refl
full_brought lists (tree first rest) = rw ((full_root lists first).1, full_brought lists rest) refl

-- a node that is no root
abbrev IsInner : TypedFlow → Node → Type 0
IsInner flow n = is_root flow.nodes n ≡ false

-- what an edge may leave
abbrev Keeps : TypedFlow → List Tuple → Node → List Tuple → List Tuple → Type 0
Keeps flow committed n given left = kept_on flow committed n given ≡ Some left

gives_list : (lists : Lists) (n : Node) (trees : Trees Node)
    → list_of lists (node n trees) ≡ output_of n.kind (columns_below (full_runs lists trees)) (taken (lists n) (brought (full_runs lists trees)))
gives_list lists n trees = rw (full_nodes lists trees, full_brought lists trees) refl

mutual
  full_yields : (flow : TypedFlow) (committed : List Tuple) (lists : Lists) (t : Tree Node) → All (IsInner flow) (in_order t)
      → EachNode (Yields (Keeps flow committed) lists) (full_run lists t)
  full_yields flow committed lists (node n trees) inner =
      let own : IsInner flow n = All-head (IsInner flow) n [] (all_right (IsInner flow) (all_in_order trees) (n ∷ []) inner) in (
        record { gives = gives_list lists n trees; leaves = rw own refl },
        all_full_yields flow committed lists trees (all_left (IsInner flow) (all_in_order trees) (n ∷ []) inner),
      )

  all_full_yields : (flow : TypedFlow) (committed : List Tuple) (lists : Lists) (trees : Trees Node) → All (IsInner flow) (all_in_order trees)
      → EachNodeBelow (Yields (Keeps flow committed) lists) (full_runs lists trees)
  all_full_yields flow committed lists no_trees inner = tt
  all_full_yields flow committed lists (tree first rest) inner = (
    full_yields flow committed lists first (all_left (IsInner flow) (in_order first) (all_in_order rest) inner),
    all_full_yields flow committed lists rest (all_right (IsInner flow) (in_order first) (all_in_order rest) inner),
  )

-- The root, and the nodes below it.

adds_one : (b : Bool) → b ≡ true → (let count : ℕ = cond b 1 0 in count) ≡ 1
adds_one b is = rw is refl

-- it counts the last one at least
last_counted : {X : Type 0} (p : X → Bool) (xs : List X) (x : X) → p x ≡ true → 1 ≤ count_by p (xs ++ x ∷ [])
last_counted p [] x is =
    let own = sum_by-cons (λ y. cond (p y) 1 0) x [] in
    let one = adds_one (p x) is in
    omega (arith, own, one)
last_counted p (y ∷ xs) x is =
    let own = sum_by-cons (λ z. cond (p z) 1 0) y (xs ++ x ∷ []) in
    let more = last_counted p xs x is in
    omega (arith, own, more)

-- where one is counted at most, and the last one is, no other is
none_counted : {X : Type 0} (p : X → Bool) (xs : List X) (x : X) → count_by p (xs ++ x ∷ []) ≤ 1 → p x ≡ true → All (λ y. p y ≡ false) xs
none_counted p [] x few is = All-nil (λ y. p y ≡ false)
none_counted p (y ∷ xs) x few is =
    let own = sum_by-cons (λ z. cond (p z) 1 0) y (xs ++ x ∷ []) in
    let last = last_counted p xs x is in
    let less : count_by p (xs ++ x ∷ []) ≤ 1 = omega (arith, own, few) in
    All-cons (λ z. p z ≡ false) y xs
    (elim (cases_Bool (p y)) [
      | inl is_one ↦ let one = adds_one (p y) is_one in absurd (omega (arith, own, few, last, one))
      | inr is_none ↦ is_none
    ])
    (none_counted p xs x less is)

-- the flow, its root and its tree
pub record Rooted (flow : TypedFlow) (t : Tree Node) : Type 0 where
  pub root : is_root flow.nodes (root_of t) ≡ true
  pub inner : (n : Node) (trees : Trees Node) → t ≡ node n trees → All (IsInner flow) (all_in_order trees)

pub rooted : (flow : TypedFlow) (is : IsFlow flow) → root_in flow.nodes ≡ Some (root_of is.tree) → Rooted flow is.tree
rooted flow is last = record {
  root = rw last (eq-eqb (number_of (root_of is.tree)) (number_of (root_of is.tree)) refl);
  inner = λ n trees same.
      let own : root_of is.tree ≡ n = ap root_of same in
      let few : count_by (λ m. number_of m == number_of n) (all_in_order trees ++ n ∷ []) ≤ 1 =
      subst (λ nodes. count_by (λ m. number_of m == number_of n) nodes ≤ 1) (sym is.all ∙ ap in_order same) (is.apart (number_of n)) in
      rw (last, own) (none_counted (λ m. number_of m == number_of n) (all_in_order trees) n few (eq-eqb (number_of n) (number_of n) refl));
}

-- There is a trimmed run.

-- the run in which the root's edge skips as many rows as are committed
abbrev skip_run : List Tuple → Lists → Tree Node → Tree Yield
skip_run committed lists (node n trees) = node (record {
  node = n;
  given = list_of lists (node n trees);
  left = drop (length committed) (list_of lists (node n trees));
}) (full_runs lists trees)

-- it is trimmed, and of the root's list all is left but as many rows as are committed
pub record Trimming (flow : TypedFlow) (committed : List Tuple) (lists : Lists) (t : Tree Node) : Type 0 where
  pub run : Tree Yield
  pub trimmed : IsTrimmedRun flow committed lists t run
  pub root : (root_of run).node ≡ root_of t
  pub given : (root_of run).given ≡ list_of lists t
  pub left : at_root run ≡ drop (length committed) (list_of lists t)
  pub inner : (y : Yield) (below : Trees Yield) → run ≡ node y below → All (λ z. is_root flow.nodes z.node ≡ false) (all_in_order below)

mutual
  seen_inner : (flow : TypedFlow) (lists : Lists) (t : Tree Node) → All (IsInner flow) (in_order t) → All (λ z. is_root flow.nodes z.node ≡ false) (in_order (full_run lists t))
  seen_inner flow lists (node n trees) inner =
      let Inner : Yield → Type 0 = λ z. is_root flow.nodes z.node ≡ false in
      let y : Yield = record { node = n; given = list_of lists (node n trees); left = list_of lists (node n trees) } in
      let own : IsInner flow n = All-head (IsInner flow) n [] (all_right (IsInner flow) (all_in_order trees) (n ∷ []) inner) in
      All-append Inner (all_in_order (full_runs lists trees)) (y ∷ []) (all_seen_inner flow lists trees (all_left (IsInner flow) (all_in_order trees) (n ∷ []) inner)) (All-cons Inner y [] own (All-nil Inner))

  all_seen_inner : (flow : TypedFlow) (lists : Lists) (trees : Trees Node) → All (IsInner flow) (all_in_order trees) → All (λ z. is_root flow.nodes z.node ≡ false) (all_in_order (full_runs lists trees))
  all_seen_inner flow lists no_trees inner = All-nil (λ z. is_root flow.nodes z.node ≡ false)
  all_seen_inner flow lists (tree first rest) inner =
      All-append (λ z. is_root flow.nodes z.node ≡ false) (in_order (full_run lists first)) (all_in_order (full_runs lists rest))
      (seen_inner flow lists first (all_left (IsInner flow) (in_order first) (all_in_order rest) inner))
      (all_seen_inner flow lists rest (all_right (IsInner flow) (in_order first) (all_in_order rest) inner))

pub trimming : (flow : TypedFlow) (committed : List Tuple) (lists : Lists) (t : Tree Node) → Rooted flow t → Trimming flow committed lists t
trimming flow committed lists (node n trees) is =
    let inner : All (IsInner flow) (all_in_order trees) = is.inner n trees refl in
    record {
      run = skip_run committed lists (node n trees);
      trimmed = record {
        of_tree = ap (λ ts. node n ts) (full_trees lists trees);
        each = (record { gives = gives_list lists n trees; leaves = rw is.root refl }, all_full_yields flow committed lists trees inner);
      };
      root = refl;
      given = refl;
      left = refl;
      inner = λ y below same.
          let trees_same : full_runs lists trees ≡ below = ap trees_of_node same in
          subst (λ b. All (λ z. is_root flow.nodes z.node ≡ false) (all_in_order b)) trees_same (all_seen_inner flow lists trees inner);
    }
  where
    trees_of_node : Tree Yield → Trees Yield
    trees_of_node (node y below) = below

-- Any trimmed run brings the same.

root_seen : (run : Tree Yield) → (root_of run).node ≡ root_of (seen_tree node_of_yield run)
root_seen (node y below) = refl

mutual
  yields_list : (flow : TypedFlow) (committed : List Tuple) (lists : Lists) (run : Tree Yield) → All (IsInner flow) (in_order (seen_tree node_of_yield run))
      → EachNode (Yields (Keeps flow committed) lists) run → (root_of run).left ≡ list_of lists (seen_tree node_of_yield run)
  yields_list flow committed lists (node y below) inner each =
      let trees = seen_trees node_of_yield below in
      let own : IsInner flow y.node = All-head (IsInner flow) y.node [] (all_right (IsInner flow) (all_in_order trees) (y.node ∷ []) inner) in
      let left : y.left ≡ y.given = same_Some _ _ (sym (rw own at each.0.leaves)) in
      let same = yields_lists flow committed lists below (all_left (IsInner flow) (all_in_order trees) (y.node ∷ []) inner) each.1 in
      left ∙ each.0.gives ∙ rw (same.0, same.1) refl

  yields_lists : (flow : TypedFlow) (committed : List Tuple) (lists : Lists) (below : Trees Yield) → All (IsInner flow) (all_in_order (seen_trees node_of_yield below))
      → EachNodeBelow (Yields (Keeps flow committed) lists) below
      → (map node_of_yield (roots_of below) ≡ roots_of (seen_trees node_of_yield below)) × (brought below ≡ lists_of lists (seen_trees node_of_yield below))
  yields_lists flow committed lists no_trees inner each = (refl, refl)
  yields_lists flow committed lists (tree first rest) inner each =
      let some = yields_list flow committed lists first (all_left (IsInner flow) (in_order (seen_tree node_of_yield first)) (all_in_order (seen_trees node_of_yield rest)) inner) each.0 in
      let others = yields_lists flow committed lists rest (all_right (IsInner flow) (in_order (seen_tree node_of_yield first)) (all_in_order (seen_trees node_of_yield rest)) inner) each.1 in
      (rw (root_seen first, others.0) refl, rw (some, others.1) refl)

pub brings_behind : (flow : TypedFlow) (committed : List Tuple) (lists : Lists) (t : Tree Node) (run : Tree Yield) → Rooted flow t
    → IsTrimmedRun flow committed lists t run → at_root run ≡ drop (length committed) (list_of lists t)
brings_behind flow committed lists t (node y below) is trimmed =
    let trees = seen_trees node_of_yield below in
    let of_tree : node y.node trees ≡ t = trimmed.of_tree in
    let inner = is.inner y.node trees (sym of_tree) in
    let root : is_root flow.nodes y.node ≡ true = subst (λ (n : Node). is_root flow.nodes n ≡ true) (sym (ap root_of of_tree)) is.root in
    let left : y.left ≡ drop (length committed) y.given = same_Some _ _ (sym (rw root at trimmed.each.0.leaves)) in
    let same = yields_lists flow committed lists below inner trimmed.each.1 in
    let own : y.given ≡ list_of lists (node y.node trees) = trimmed.each.0.gives ∙ rw (same.0, same.1) refl in
    left ∙ ap (drop (length committed)) (own ∙ ap (list_of lists) of_tree)
