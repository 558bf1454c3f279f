-- Each input of a node stands before it.
use Rattle.std.proofs.Common.{◌≡◌, ℕ, zero, suc, ◌+◌, ◌-◌, ◌<◌, ◌≤◌, ◌==◌, List, [], ◌∷◌, ◌++◌, length, position, get_or, slice_get, Bool, true, nat_lt, IfSome, Option, Some, None, All, refl, ap, sym, ◌∙◌, subst, inl, inr, eq-eqb, length-append, arith}
use Rattle.std.proofs.lemmas.Bool.{cases_lt, both_ways, lt-ltb}
use Rattle.std.proofs.lemmas.Option.{same_Some, slice_get_within, get_or_from_slice_get}
use Rattle.std.specs.List.{position_or_len}
use Rattle.std.proofs.lemmas.List.Sums.{fails_before_first}
use Rattle.std.proofs.lemmas.List.Elements.{All-nil, All-cons, All-weaker}
use Rattle.list_algebra.specs.Trees.{Tree, node, Trees, no_trees, tree, roots_of, root_of, in_order, all_in_order, EachNode, EachNodeBelow}
use Rattle.flow_types.specs.declared.fault.NodeId.{NodeId}
use Rattle.flow_types.specs.declared.node.Node.{Node}
use Rattle.flow_types.specs.Flows.{TypedFlow, number_of, ids_of, node_of, rank_of, IsBelow}
use Rattle.flow_types.specs.Linked.{IsFlow}
use Rattle.flow_types.proofs.TypedTrees.{root_in-tree}
use Rattle.flow_types.proofs.Ranks.{found_at}
use Rattle.flow_types.proofs.FlowTrees.{HasInputs, linked_has, some_in}

-- a node of this number stands among the nodes, before a place
pub record IsBefore (nodes : List Node) (place : ℕ) (id : NodeId) : Type 0 where
  pub at : ℕ
  pub less : at < place
  pub n : Node
  pub there : slice_get nodes at ≡ Some n
  pub same : n.id ≡ id

left : (xs ys : List Node) (k : ℕ) (n : Node) → slice_get xs k ≡ Some n → slice_get (xs ++ ys) k ≡ Some n
left [] ys k n is = absurd (cc)
left (x ∷ xs) ys zero n is = is
left (x ∷ xs) ys (suc k) n is = left xs ys k n is

left_back : (xs ys : List Node) (k : ℕ) (n : Node) → k < length xs → slice_get (xs ++ ys) k ≡ Some n → slice_get xs k ≡ Some n
left_back [] ys k n h is = absurd (omega arith)
left_back (x ∷ xs) ys zero n h is = is
left_back (x ∷ xs) ys (suc k) n h is = left_back xs ys k n (omega arith) is

right : (xs ys : List Node) (k : ℕ) → slice_get (xs ++ ys) (length xs + k) ≡ slice_get ys k
right [] ys k = let same : 0 + k ≡ k = omega arith in rw same refl
right (x ∷ xs) ys k = let same : length (x ∷ xs) + k ≡ suc (length xs + k) = omega arith in rw same (right xs ys k)

right_back : (xs ys : List Node) (k : ℕ) (n : Node) → length xs ≤ k → slice_get (xs ++ ys) k ≡ Some n → slice_get ys (k - length xs) ≡ Some n
right_back xs ys k n h is =
    let at : length xs + (k - length xs) ≡ k = omega arith in
    sym (right xs ys (k - length xs)) ∙ (ap (slice_get (xs ++ ys)) at ∙ is)

-- more nodes behind, or in front
behind : (xs ys : List Node) (k : ℕ) (id : NodeId) → IsBefore xs k id → IsBefore (xs ++ ys) k id
behind xs ys k id is = record { at = is.at; less = is.less; n = is.n; there = left xs ys is.at is.n is.there; same = is.same }

in_front : (xs ys : List Node) (k : ℕ) (id : NodeId) → IsBefore ys k id → IsBefore (xs ++ ys) (length xs + k) id
in_front xs ys k id is = record { at = length xs + is.at; less = let less = is.less in omega arith; n = is.n; there = right xs ys is.at ∙ is.there; same = is.same }

later : (xs : List Node) (k more : ℕ) (id : NodeId) → k ≤ more → IsBefore xs k id → IsBefore xs more id
later xs k more id h is = record { at = is.at; less = let less = is.less in omega arith; n = is.n; there = is.there; same = is.same }

-- the roots of trees stand among their nodes
roots_stand : (trees : Trees Node) → All (IsBefore (all_in_order trees) (length (all_in_order trees))) (ids_of (roots_of trees))
roots_stand no_trees = All-nil (IsBefore [] 0)
roots_stand (tree first rest) =
    let all = length-append (in_order first) (all_in_order rest) in
    let some = some_in first in
    let own : IsBefore (in_order first) (length (in_order first)) (root_of first).id = record {
      at = length (in_order first) - 1;
      less = omega arith;
      n = root_of first;
      there = root_in-tree first;
      same = refl;
    } in
    All-cons (IsBefore (in_order first ++ all_in_order rest) (length (in_order first ++ all_in_order rest))) (root_of first).id (ids_of (roots_of rest))
    (later _ (length (in_order first)) (length (in_order first ++ all_in_order rest)) _ (omega arith) (behind (in_order first) (all_in_order rest) _ _ own))
    (All-weaker (IsBefore (all_in_order rest) (length (all_in_order rest))) (IsBefore (in_order first ++ all_in_order rest) (length (in_order first ++ all_in_order rest)))
    (λ id is. later _ (length (in_order first) + length (all_in_order rest)) _ id (omega arith) (in_front (in_order first) (all_in_order rest) _ id is)) (ids_of (roots_of rest)) (roots_stand rest))

abbrev InputsBefore : List Node → ℕ → Node → Type 0
InputsBefore nodes k n = All (IsBefore nodes k) n.inputs

mutual
  inputs_before : (t : Tree Node) → EachNode HasInputs t → (k : ℕ) (n : Node) → slice_get (in_order t) k ≡ Some n → InputsBefore (in_order t) k n
  inputs_before (node m trees) has k n is = elim (cases_lt k (length (all_in_order trees))) [
    | inl less ↦
        All-weaker (IsBefore (all_in_order trees) k) (IsBefore (all_in_order trees ++ m ∷ []) k) (λ id. behind (all_in_order trees) (m ∷ []) k id) n.inputs
        (all_before trees has.1 k n (left_back (all_in_order trees) (m ∷ []) k n less is))
    | inr past ↦
        let within = slice_get_within (all_in_order trees ++ m ∷ []) k n is in
        let all = length-append (all_in_order trees) (m ∷ []) in
        let end : k ≡ length (all_in_order trees) = omega arith in
        let last : slice_get (m ∷ []) (k - length (all_in_order trees)) ≡ Some n = right_back (all_in_order trees) (m ∷ []) k n past is in
        let none : k - length (all_in_order trees) ≡ 0 = omega arith in
        let here : m ≡ n = same_Some _ _ (rw none at last) in
        let inputs : n.inputs ≡ ids_of (roots_of trees) = ap (λ (x : Node). x.inputs) (sym here) ∙ has.0 in
        let stand : All (IsBefore (all_in_order trees ++ m ∷ []) (length (all_in_order trees))) (ids_of (roots_of trees)) =
        All-weaker (IsBefore (all_in_order trees) (length (all_in_order trees))) (IsBefore (all_in_order trees ++ m ∷ []) (length (all_in_order trees)))
        (λ id. behind (all_in_order trees) (m ∷ []) (length (all_in_order trees)) id) (ids_of (roots_of trees)) (roots_stand trees) in
        subst (λ (j : ℕ). All (IsBefore (all_in_order trees ++ m ∷ []) j) n.inputs) (sym end)
        (subst (λ (ids : List NodeId). All (IsBefore (all_in_order trees ++ m ∷ []) (length (all_in_order trees))) ids) (sym inputs) stand)
  ]

  all_before : (trees : Trees Node) → EachNodeBelow HasInputs trees → (k : ℕ) (n : Node) → slice_get (all_in_order trees) k ≡ Some n → InputsBefore (all_in_order trees) k n
  all_before no_trees has k n is = absurd (cc)
  all_before (tree first rest) has k n is = elim (cases_lt k (length (in_order first))) [
    | inl less ↦
        All-weaker (IsBefore (in_order first) k) (IsBefore (in_order first ++ all_in_order rest) k) (λ id. behind (in_order first) (all_in_order rest) k id) n.inputs
        (inputs_before first has.0 k n (left_back (in_order first) (all_in_order rest) k n less is))
    | inr past ↦
        let at : length (in_order first) + (k - length (in_order first)) ≡ k = omega arith in
        All-weaker (IsBefore (all_in_order rest) (k - length (in_order first))) (IsBefore (in_order first ++ all_in_order rest) k)
        (λ id before. subst (λ j. IsBefore (in_order first ++ all_in_order rest) j id) at (in_front (in_order first) (all_in_order rest) (k - length (in_order first)) id before)) n.inputs
        (all_before rest has.1 (k - length (in_order first)) n (right_back (in_order first) (all_in_order rest) k n past is))
  ]

-- the first node of a number is not behind another
first_of : (nodes : List Node) (k : ℕ) (n : Node) (id : NodeId) → slice_get nodes k ≡ Some n → n.id ≡ id → (j : ℕ) × (position (λ m. number_of m == id.0) nodes ≡ Some j) × (j ≤ k)
first_of nodes k n id at same =
    let test : Node → Bool = λ m. number_of m == id.0 in
    let here : get_or nodes k n ≡ n = get_or_from_slice_get nodes k n n at in
    let passes : test (get_or nodes k n) ≡ true = rw here (eq-eqb (number_of n) id.0 (ap (λ (i : NodeId). i.0) same)) in
    elim (cases_lt k (position_or_len test nodes)) [
      | inl less ↦ absurd (both_ways (test (get_or nodes k n)) (fails_before_first test nodes k n less) passes)
      | inr past ↦
          let within = slice_get_within nodes k n at in
          let small : nat_lt (position_or_len test nodes) (length nodes) ≡ true = lt-ltb (position_or_len test nodes) (length nodes) (omega arith) in
          (position_or_len test nodes, rw small refl, past)
    ]

pub ranked_above : (flow : TypedFlow) (is : IsFlow flow) (rank : ℕ) (n : Node) → slice_get flow.nodes rank ≡ Some n → All (IsBelow flow rank) n.inputs
ranked_above flow is rank n at =
    let before : InputsBefore flow.nodes rank n =
    subst (λ nodes. InputsBefore nodes rank n) is.all (inputs_before is.tree (linked_has is.tree is.linked) rank n (rw is.all at)) in
    All-weaker (IsBefore flow.nodes rank) (IsBelow flow rank)
    (λ id one. let found = first_of flow.nodes one.at one.n id one.there one.same in let less = one.less in let most = found.2 in record { below = found.0; there = found.1; lower = omega arith }) n.inputs before

pub above_at : (flow : TypedFlow) → IsFlow flow → (rank : ℕ) (id : NodeId) → rank_of flow id ≡ Some rank → IfSome (node_of flow id) (λ n. All (IsBelow flow rank) n.inputs)
above_at flow is rank id ranked = by (node_of flow id) refl
  where
    by : (o : Option Node) → node_of flow id ≡ o → IfSome (node_of flow id) (λ n. All (IsBelow flow rank) n.inputs)
    by None none = rw none tt
    by (Some n) some = rw some (ranked_above flow is rank n (sym (found_at (λ m. number_of m == id.0) flow.nodes rank ranked) ∙ some))
