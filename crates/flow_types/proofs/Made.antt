-- A typed node has the number of its place, so that the numbers of a typed tree make the tree of places.
use Rattle.std.proofs.Common.{◌≡◌, ℕ, List, [], ◌∷◌, ◌++◌, map, refl, ap, sym, ◌∙◌, Result, Ok, Err}
use Rattle.std.proofs.lemmas.List.{map-append}
use Rattle.tuple_schema.specs.Stops.{◌>>=◌}
use Rattle.list_algebra.specs.Trees.{Tree, node, Trees, no_trees, tree, roots_of, in_order, all_in_order, seen_tree, seen_trees, EachNode, EachNodeBelow}
use Rattle.workflow_file.specs.declared.raw.RawFlow.{RawFlow}
use Rattle.flow_types.specs.declared.fault.SchemaCause.{SchemaCause}
use Rattle.flow_types.specs.declared.node.Node.{Node}
use Rattle.flow_types.specs.Flows.{number_of, ids_of, columns_of}
use Rattle.flow_types.specs.NodeTexts.{text_at}
use Rattle.flow_types.specs.Typed.{typed_at, typed_node, at_node, typed_tree, typed_trees}

-- a value that was read, in two steps
pub bound : {X Y F : Type 0} (r : Result X F) (k : X → Result Y F) (y : Y) → (r >>= k) ≡ Ok y → (x : X) × (r ≡ Ok x) × (k x ≡ Ok y)
bound (Ok x) k y e = (x, refl, e)
bound (Err f) k y e = absurd (cc)

pub same_node : (x y : Node) → (let r : Result Node SchemaCause = Ok x in r) ≡ Ok y → x ≡ y
same_node x y e = cc

pub placed : (place : ℕ) (r : Result Node SchemaCause) (n : Node) → at_node place r ≡ Ok n → r ≡ Ok n
placed place (Ok m) n e = let same : m ≡ n = cc in ap Ok same
placed place (Err why) n e = absurd (cc)

-- its number, and its inputs
pub node_is : (flow : RawFlow) (place : ℕ) (inputs : List Node) (n : Node) → at_node place (typed_node flow place inputs) ≡ Ok n
    → (number_of n ≡ place) × (n.inputs ≡ ids_of inputs)
node_is flow place inputs n e =
    let made = bound (typed_at (text_at flow place) (columns_of inputs)) _ n (placed place _ n e) in
    let same = same_node _ _ made.2 in
    (ap number_of (sym same), ap (λ m. m.inputs) (sym same))

mutual
  pub tree_numbers : (flow : RawFlow) (places : Tree ℕ) (t : Tree Node) → typed_tree flow places ≡ Ok t
      → (seen_tree number_of t ≡ places) × EachNode (λ n trees. n.inputs ≡ ids_of (roots_of trees)) t
  tree_numbers flow (node place below) t e =
      let inputs = bound (typed_trees flow below) _ t e in
      let top = bound (at_node place (typed_node flow place (roots_of inputs.0))) _ t inputs.2 in
      let same : node top.0 inputs.0 ≡ t = cc in
      let is = node_is flow place (roots_of inputs.0) top.0 top.1 in
      let others = trees_numbers flow below inputs.0 inputs.1 in
      rw (← same) (rw (is.0, others.0) refl, (is.1, others.1))

  trees_numbers : (flow : RawFlow) (places : Trees ℕ) (ts : Trees Node) → typed_trees flow places ≡ Ok ts
      → (seen_trees number_of ts ≡ places) × EachNodeBelow (λ n trees. n.inputs ≡ ids_of (roots_of trees)) ts
  trees_numbers flow no_trees ts e = let same : no_trees ≡ ts = cc in rw (← same) (refl, tt)
  trees_numbers flow (tree first rest) ts e =
      let one = bound (typed_tree flow first) _ ts e in
      let others = bound (typed_trees flow rest) _ ts one.2 in
      let same : tree one.0 others.0 ≡ ts = cc in
      let own = tree_numbers flow first one.0 one.1 in
      let more = trees_numbers flow rest others.0 others.1 in
      rw (← same) (rw (own.0, more.0) refl, (own.1, more.1))

mutual
  -- what is seen of the nodes of a tree, in order
  pub seen_in_order : {N M : Type 0} (see : N → M) (t : Tree N) → in_order (seen_tree see t) ≡ map see (in_order t)
  seen_in_order see (node n below) = ap (λ ms. ms ++ see n ∷ []) (seen_all see below) ∙ sym (map-append see (all_in_order below) (n ∷ []))

  seen_all : {N M : Type 0} (see : N → M) (ts : Trees N) → all_in_order (seen_trees see ts) ≡ map see (all_in_order ts)
  seen_all see no_trees = refl
  seen_all see (tree first rest) =
      ap (λ ms. ms ++ all_in_order (seen_trees see rest)) (seen_in_order see first) ∙ ap (λ ms. map see (in_order first) ++ ms) (seen_all see rest)
      ∙ sym (map-append see (in_order first) (all_in_order rest))
