-- The nodes of a flow have names of their own.
use Rattle.std.proofs.Common.{◌≡◌, ℕ, zero, suc, ◌<◌, ◌≤◌, ◌==◌, List, [], ◌∷◌, length, map, get_or, bytes_eq, Bool, true, false, cond, count_by, All, eq-eqb, Option, Some, None, Ok, refl, ap, sym, ◌∙◌, subst, inl, inr, arith}
use Rattle.std.specs.List.{list_any}
use Rattle.std.proofs.lemmas.Bool.{cases_lt}
use Rattle.std.proofs.lemmas.List.{length-map, get_or-map}
use Rattle.std.proofs.lemmas.List.Folds.{list_any_none}
use Rattle.std.proofs.lemmas.List.Sums.{sum_by-cons}
use Rattle.std.proofs.lemmas.List.Elements.{All-nil, All-head, All-tail, All-cons, All-append}
use Rattle.tuple_schema.specs.Schemas.{are_distinct}
use Rattle.list_algebra.specs.Trees.{Tree, node, Trees, no_trees, tree, roots_of, in_order, all_in_order}
use Rattle.workflow_file.specs.declared.raw.RawFlow.{RawFlow}
use Rattle.flow_types.specs.declared.node.Node.{Node}
use Rattle.flow_types.specs.Names.{name_at, is_again, again}
use Rattle.flow_types.specs.Graph.{names_of, names_differ, graph_of}
use Rattle.flow_types.specs.Flows.{number_of, columns_of}
use Rattle.flow_types.specs.NodeTexts.{text_at}
use Rattle.flow_types.specs.Typed.{typed_at, typed_node, at_node, typed_tree, typed_trees}
use Rattle.flow_types.proofs.Columns.{least_fails, pair_differs, differ_back}
use Rattle.flow_types.proofs.Made.{bound, placed, same_node, node_is}

-- a node has the name that stands at its number
abbrev OfName : RawFlow → Node → Type 0
OfName flow n = n.name ≡ name_at (names_of flow) (number_of n)

named_node : (flow : RawFlow) (place : ℕ) (inputs : List Node) (n : Node) → at_node place (typed_node flow place inputs) ≡ Ok n → OfName flow n
named_node flow place inputs n e =
    let made = bound (typed_at (text_at flow place) (columns_of inputs)) _ n (placed place _ n e) in
    let same = same_node _ _ made.2 in
    ap (λ (m : Node). m.name) (sym same) ∙ ap (name_at (names_of flow)) (sym (node_is flow place inputs n e).0)

mutual
  tree_named : (flow : RawFlow) (places : Tree ℕ) (t : Tree Node) → typed_tree flow places ≡ Ok t → All (OfName flow) (in_order t)
  tree_named flow (node place below) t e =
      let inputs = bound (typed_trees flow below) _ t e in
      let top = bound (at_node place (typed_node flow place (roots_of inputs.0))) _ t inputs.2 in
      let same : node top.0 inputs.0 ≡ t = cc in
      let own = All-cons (OfName flow) top.0 [] (named_node flow place (roots_of inputs.0) top.0 top.1) (All-nil (OfName flow)) in
      subst (λ (u : Tree Node). All (OfName flow) (in_order u)) same (All-append (OfName flow) (all_in_order inputs.0) (top.0 ∷ []) (trees_named flow below inputs.0 inputs.1) own)

  trees_named : (flow : RawFlow) (places : Trees ℕ) (ts : Trees Node) → typed_trees flow places ≡ Ok ts → All (OfName flow) (all_in_order ts)
  trees_named flow no_trees ts e =
      let same : no_trees ≡ ts = cc in
      subst (λ (us : Trees Node). All (OfName flow) (all_in_order us)) same (All-nil (OfName flow))
  trees_named flow (tree first rest) ts e =
      let one = bound (typed_tree flow first) _ ts e in
      let others = bound (typed_trees flow rest) _ ts one.2 in
      let same : tree one.0 others.0 ≡ ts = cc in
      subst (λ (us : Trees Node). All (OfName flow) (all_in_order us)) same
      (All-append (OfName flow) (in_order one.0) (all_in_order others.0) (tree_named flow first one.0 one.1) (trees_named flow rest others.0 others.1))

names_are : (flow : RawFlow) (nodes : List Node) → All (OfName flow) nodes → map (λ n. n.name) nodes ≡ map (name_at (names_of flow)) (map number_of nodes)
names_are flow [] all = refl
names_are flow (n ∷ nodes) all =
    ap (λ name. name ∷ map (λ m. m.name) nodes) (All-head (OfName flow) n nodes all)
    ∙ ap (λ names. name_at (names_of flow) (number_of n) ∷ names) (names_are flow nodes (All-tail (OfName flow) n nodes all))

adds : (b : Bool) → b ≡ true → (let count : ℕ = cond b 1 0 in count) ≡ 1
adds b is = rw is refl

there : (places : List ℕ) (k q : ℕ) → k < length places → get_or places k 0 ≡ q → 1 ≤ count_by (λ p. p == q) places
there [] k q h is = absurd (omega arith)
there (p ∷ places) zero q h is =
    let one = adds (p == q) (eq-eqb p q is) in
    let sum = sum_by-cons (λ x. cond (x == q) 1 0) p places in
    omega arith
there (p ∷ places) (suc k) q h is =
    let rest = there places k q (omega arith) is in
    let sum = sum_by-cons (λ x. cond (x == q) 1 0) p places in
    omega arith

module _ (names : List (List ℕ)) (fine : again names ≡ None) where
  apart_at : (i j : ℕ) → i < length names → j < length names → (i ≡ j → ⊥) → bytes_eq (name_at names i) (name_at names j) ≡ false
  apart_at i j h k other = elim (cases_lt i j) [
    | inl less ↦ pair_differs names i j less k (least_fails (length names) (is_again names) j k fine)
    | inr more ↦ elim (cases_lt j i) [
      | inl less ↦ differ_back (name_at names j) (name_at names i) (pair_differs names j i less h (least_fails (length names) (is_again names) i h fine))
      | inr same ↦ absurd (other (omega arith))
    ]
  ]

  distinct_at : (places : List ℕ) → All (λ p. p < length names) places → ((q : ℕ) → count_by (λ p. p == q) places ≤ 1) → are_distinct (map (name_at names) places) ≡ true
  distinct_at [] small once = refl
  distinct_at (p ∷ places) small once =
      let own = All-head (λ q. q < length names) p places small in
      let others = All-tail (λ q. q < length names) p places small in
      let one = adds (p == p) (eq-eqb p p refl) in
      let other : (k : ℕ) → k < length places → p ≡ get_or places k 0 → ⊥ =
      λ k h same. let sum = sum_by-cons (λ x. cond (x == p) 1 0) p places in let least = there places k p h (sym same) in let most = once p in omega arith in
      let none : list_any (bytes_eq (name_at names p)) (map (name_at names) places) ≡ false =
      list_any_none (bytes_eq (name_at names p)) (map (name_at names) places)
      (λ k d h. let within : k < length places = rw length-map at h in rw (get_or-map (name_at names) places k 0 d within) (apart_at p (get_or places k 0) own (others k 0 within) (other k within))) in
      let rest = distinct_at places others (λ q. let sum = sum_by-cons (λ x. cond (x == q) 1 0) p places in let most = once q in omega arith) in
      rw (none, rest) refl

none_twice : (names : List (List ℕ)) (o : Option ℕ) → again names ≡ o → names_differ names ≡ Ok tt → again names ≡ None
none_twice names None is fine = is
none_twice names (Some k) is fine = let wrong = rw is at fine in absurd (cc)

-- the nodes that were typed of a tree of a graph
pub names_apart : (flow : RawFlow) (places : Tree ℕ) (t : Tree Node) → graph_of flow ≡ Ok places → typed_tree flow places ≡ Ok t → map number_of (in_order t) ≡ in_order places
    → All (λ p. p < length (names_of flow)) (in_order places) → ((q : ℕ) → count_by (λ p. p == q) (in_order places) ≤ 1) → are_distinct (map (λ n. n.name) (in_order t)) ≡ true
names_apart flow places t graph typed numbers small once =
    let differ = bound (names_differ (names_of flow)) _ places graph in
    let fine = none_twice (names_of flow) (again (names_of flow)) refl differ.1 in
    let are = names_are flow (in_order t) (tree_named flow places t typed) ∙ ap (map (name_at (names_of flow))) numbers in
    rw are (distinct_at (names_of flow) fine (in_order places) small once)
