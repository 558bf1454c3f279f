-- The typed nodes of trees, one tree behind the other.
use Rattle.std.proofs.Common.{◌≡◌, ℕ, zero, suc, ◌-◌, ◌+◌, ◌<◌, ◌≤◌, List, [], ◌∷◌, ◌++◌, length, map, filter_map, take, drop, get_or, slice_get, refl, sym, ap, ◌∙◌, Some, All, subst, Ok, Err, length-append, append_assoc, append-nil, arith}
use Rattle.std.proofs.Math.Seq.{get_or-append_seam}
use Rattle.std.proofs.lemmas.List.{map-append, take_more, take_all, drop_more, take-append-drop}
use Rattle.std.proofs.lemmas.List.Elements.{All-nil, All-cons}
use Rattle.std.proofs.lemmas.Option.{slice_get-get_or, slice_get_within}
use Rattle.tuple_schema.specs.declared.memory.Stop.{Stop}
use Rattle.tuple_schema.specs.declared.memory.Stop.TheVariants as stop
use Rattle.tuple_schema.specs.Stops.{IfFault, Fails}
use Rattle.list_algebra.specs.Trees.{Tree, node, Trees, no_trees, tree, trees_of, root_of, roots_of, in_order, all_in_order, EachNode, EachNodeBelow}
use Rattle.workflow_file.specs.declared.raw.RawFlow.{RawFlow}
use Rattle.flow_types.specs.declared.fault.SchemaFault.{SchemaFault}
use Rattle.flow_types.specs.declared.node.Node.{Node}
use Rattle.flow_types.specs.Trees.{tree_below, inputs_below}
use Rattle.flow_types.specs.Flows.{root_in}
use Rattle.flow_types.specs.Typed.{typed_node, at_node, typed_tree, typed_trees}
use Rattle.flow_types.specs.Linked.{IsLinked, IsLinkedOver}
use Rattle.flow_types.specs.Typing.{HasTree}
use Rattle.flow_types.proofs.Made.{bound}
use Rattle.flow_types.proofs.Reached.{tree_split}

-- the last node of a tree is its root
root_behind : (nodes : List Node) (n : Node) → root_in (nodes ++ n ∷ []) ≡ Some n
root_behind nodes n =
    let all = length-append nodes (n ∷ []) in
    let at : length (nodes ++ n ∷ []) - 1 ≡ length nodes = omega arith in
    let within : length nodes < length (nodes ++ n ∷ []) = omega arith in
    rw at (slice_get-get_or (nodes ++ n ∷ []) (length nodes) n within ∙ ap Some (get_or-append_seam nodes n [] n))

pub root_in-tree : (t : Tree Node) → root_in (in_order t) ≡ Some (root_of t)
root_in-tree (node n trees) = root_behind (all_in_order trees) n

-- One tree more.

unfoldable with_last : Trees Node → Tree Node → Trees Node
with_last no_trees t = tree t no_trees
with_last (tree first rest) t = tree first (with_last rest t)

last_order : (trees : Trees Node) (t : Tree Node) → all_in_order (with_last trees t) ≡ all_in_order trees ++ in_order t
unfolding with_last
last_order no_trees t = append-nil (in_order t)
last_order (tree first rest) t = ap (λ ns. in_order first ++ ns) (last_order rest t) ∙ sym (append_assoc (in_order first) (all_in_order rest) (in_order t))

last_roots : (trees : Trees Node) (t : Tree Node) → roots_of (with_last trees t) ≡ roots_of trees ++ root_of t ∷ []
unfolding with_last
last_roots no_trees t = refl
last_roots (tree first rest) t = ap (λ ns. root_of first ∷ ns) (last_roots rest t)

last_linked : (trees : Trees Node) (t : Tree Node) → EachNodeBelow IsLinkedOver trees → EachNode IsLinkedOver t → EachNodeBelow IsLinkedOver (with_last trees t)
unfolding with_last
last_linked no_trees t before linked = (linked, tt)
last_linked (tree first rest) t before linked = (before.0, last_linked rest t before.1 linked)

cons_typed : (raw : RawFlow) (p : Tree ℕ) (places : List (Tree ℕ)) (u : Tree Node) (us : Trees Node) → typed_tree raw p ≡ Ok u → typed_trees raw (trees_of places) ≡ Ok us
    → typed_trees raw (trees_of (p ∷ places)) ≡ Ok (tree u us)
cons_typed raw p places u us first rest = rw (first, rest) refl

cons_fails : (raw : RawFlow) (p : Tree ℕ) (places : List (Tree ℕ)) (u : Tree Node) (fault : SchemaFault) → typed_tree raw p ≡ Ok u → typed_trees raw (trees_of places) ≡ Err fault
    → typed_trees raw (trees_of (p ∷ places)) ≡ Err fault
cons_fails raw p places u fault first rest = rw (first, rest) refl

last_typed : (raw : RawFlow) (places : List (Tree ℕ)) (place : Tree ℕ) (trees : Trees Node) (t : Tree Node) → typed_trees raw (trees_of places) ≡ Ok trees → typed_tree raw place ≡ Ok t
    → typed_trees raw (trees_of (places ++ place ∷ [])) ≡ Ok (with_last trees t)
unfolding with_last
last_typed raw [] place trees t before is =
    let none : no_trees ≡ trees = cc in
    subst (λ (ts : Trees Node). typed_trees raw (trees_of (place ∷ [])) ≡ Ok (with_last ts t)) none (cons_typed raw place [] t no_trees is refl)
last_typed raw (p ∷ places) place trees t before is =
    let one = bound (typed_tree raw p) _ trees before in
    let others = bound (typed_trees raw (trees_of places)) _ trees one.2 in
    let same : tree one.0 others.0 ≡ trees = cc in
    subst (λ (ts : Trees Node). typed_trees raw (trees_of (p ∷ (places ++ place ∷ []))) ≡ Ok (with_last ts t)) same
    (cons_typed raw p (places ++ place ∷ []) one.0 (with_last others.0 t) one.1 (last_typed raw places place others.0 t others.1 is))

-- a tree that fails, behind others that don't
last_fails : (raw : RawFlow) (places rest : List (Tree ℕ)) (place : Tree ℕ) (trees : Trees Node) (fault : SchemaFault) → typed_trees raw (trees_of places) ≡ Ok trees → typed_tree raw place ≡ Err fault
    → typed_trees raw (trees_of (places ++ place ∷ rest)) ≡ Err fault
last_fails raw [] rest place trees fault before is = rw is refl
last_fails raw (p ∷ places) rest place trees fault before is =
    let one = bound (typed_tree raw p) _ trees before in
    let others = bound (typed_trees raw (trees_of places)) _ trees one.2 in
    cons_fails raw p (places ++ place ∷ rest) one.0 fault one.1 (last_fails raw places rest place others.0 fault others.1 is)

-- Nodes that stand among others.

stays_at : (nodes more : List Node) (k : ℕ) (n : Node) → slice_get nodes k ≡ Some n → slice_get (nodes ++ more) k ≡ Some n
stays_at [] more k n at = absurd (cc)
stays_at (m ∷ nodes) more zero n at = at
stays_at (m ∷ nodes) more (suc k) n at = stays_at nodes more k n at

all_stay : (nodes more : List Node) (roots : List ℕ) (ns : List Node) → map (slice_get nodes) roots ≡ map Some ns → map (slice_get (nodes ++ more)) roots ≡ map Some ns
all_stay nodes more [] [] at = refl
all_stay nodes more [] (n ∷ ns) at = absurd (cc)
all_stay nodes more (r ∷ roots) [] at = absurd (cc)
all_stay nodes more (r ∷ roots) (n ∷ ns) at =
    let here : slice_get nodes r ≡ Some n = cc in
    let others : map (slice_get nodes) roots ≡ map Some ns = cc in
    rw (stays_at nodes more r n here, all_stay nodes more roots ns others) refl

found_all : (nodes : List Node) (roots : List ℕ) (ns : List Node) → map (slice_get nodes) roots ≡ map Some ns → filter_map (slice_get nodes) roots ≡ ns
found_all nodes [] [] at = refl
found_all nodes [] (n ∷ ns) at = absurd (cc)
found_all nodes (r ∷ roots) [] at = absurd (cc)
found_all nodes (r ∷ roots) (n ∷ ns) at =
    let here : slice_get nodes r ≡ Some n = cc in
    let others : map (slice_get nodes) roots ≡ map Some ns = cc in
    rw (here, found_all nodes roots ns others) refl

all_within : (nodes : List Node) (roots : List ℕ) (ns : List Node) → map (slice_get nodes) roots ≡ map Some ns → All (λ root. root < length nodes) roots
all_within nodes [] ns at = All-nil (λ root. root < length nodes)
all_within nodes (r ∷ roots) [] at = absurd (cc)
all_within nodes (r ∷ roots) (n ∷ ns) at =
    let here : slice_get nodes r ≡ Some n = cc in
    let others : map (slice_get nodes) roots ≡ map Some ns = cc in
    All-cons (λ root. root < length nodes) r roots (slice_get_within nodes r n here) (all_within nodes roots ns others)

-- behind the nodes at the front stand the typed trees of these places, each root at its place
pub record HasTrees (raw : RawFlow) (places : Trees ℕ) (front nodes : List Node) (roots : List ℕ) : Type 0 where
  pub trees : Trees Node
  pub typed : typed_trees raw places ≡ Ok trees
  pub linked : EachNodeBelow IsLinkedOver trees
  pub all : nodes ≡ front ++ all_in_order trees
  pub stand : map (slice_get nodes) roots ≡ map Some (roots_of trees)

pub no_trees_yet : (raw : RawFlow) (front : List Node) → HasTrees raw no_trees front front []
no_trees_yet raw front = record { trees = no_trees; typed = refl; linked = tt; all = sym (append-nil front); stand = refl }

one_more : (raw : RawFlow) (places : List (Tree ℕ)) (place : Tree ℕ) (front nodes more : List Node) (roots : List ℕ) (root : ℕ)
    → HasTrees raw (trees_of places) front nodes roots → HasTree raw place nodes more root → HasTrees raw (trees_of (places ++ place ∷ [])) front more (roots ++ root ∷ [])
one_more raw places place front nodes more roots root has one = record {
  trees = with_last has.trees one.tree;
  typed = last_typed raw places place has.trees one.tree has.typed one.typed;
  linked = last_linked has.trees one.tree has.linked one.linked;
  all =
      one.all ∙ ap (λ ns. ns ++ in_order one.tree) has.all ∙ append_assoc front (all_in_order has.trees) (in_order one.tree)
      ∙ ap (λ ns. front ++ ns) (sym (last_order has.trees one.tree));
  stand =
      map-append (slice_get more) roots (root ∷ [])
      ∙ ap (λ os. os ++ slice_get more root ∷ []) (ap (λ ns. map (slice_get ns) roots) one.all ∙ all_stay nodes (in_order one.tree) roots (roots_of has.trees) has.stand)
      ∙ ap (λ o. map Some (roots_of has.trees) ++ o ∷ []) one.stands
      ∙ sym (map-append Some (roots_of has.trees) (root_of one.tree ∷ []))
      ∙ ap (map Some) (sym (last_roots has.trees one.tree));
}

pub trees_more : (raw : RawFlow) (below : ℕ → Tree ℕ) (inputs : List ℕ) (i : ℕ) → i < length inputs → (front nodes more : List Node) (roots : List ℕ) (root : ℕ)
    → HasTrees raw (trees_of (map below (take i inputs))) front nodes roots → HasTree raw (below (get_or inputs i 0)) nodes more root
    → HasTrees raw (trees_of (map below (take (i + 1) inputs))) front more (roots ++ root ∷ [])
trees_more raw below inputs i h front nodes more roots root has one =
    let trees : map below (take (i + 1) inputs) ≡ map below (take i inputs) ++ below (get_or inputs i 0) ∷ [] =
    ap (map below) (take_more inputs i 0 h) ∙ map-append below (take i inputs) (get_or inputs i 0 ∷ []) in
    subst (λ (ts : List (Tree ℕ)). HasTrees raw (trees_of ts) front more (roots ++ root ∷ [])) (sym trees)
    (one_more raw (map below (take i inputs)) (below (get_or inputs i 0)) front nodes more roots root has one)

module _ (raw : RawFlow) (places : Trees ℕ) (front nodes : List Node) (roots : List ℕ) (has : HasTrees raw places front nodes roots) where
  pub roots_within : All (λ root. root < length nodes) roots
  roots_within = all_within nodes roots (roots_of has.trees) has.stand

  inputs_are : filter_map (slice_get nodes) roots ≡ roots_of has.trees
  inputs_are = found_all nodes roots (roots_of has.trees) has.stand

  -- a node over these trees
  pub tree_over : (place : ℕ) (n : Node) → at_node place (typed_node raw place (filter_map (slice_get nodes) roots)) ≡ Ok n → IsLinked n (filter_map (slice_get nodes) roots)
      → HasTree raw (node place places) front (nodes ++ n ∷ []) (length nodes)
  tree_over place n made linked =
      let top : at_node place (typed_node raw place (roots_of has.trees)) ≡ Ok n = rw inputs_are at made in
      let all = length-append nodes (n ∷ []) in
      let within : length nodes < length (nodes ++ n ∷ []) = omega arith in
      record {
        tree = node n has.trees;
        typed = rw (has.typed, top) refl;
        linked = (rw inputs_are at linked, has.linked);
        all = ap (λ ns. ns ++ n ∷ []) has.all ∙ append_assoc front (all_in_order has.trees) (n ∷ []);
        stands = slice_get-get_or (nodes ++ n ∷ []) (length nodes) n within ∙ ap Some (get_or-append_seam nodes n [] n);
      }

  pub fault_over : (place : ℕ) (e : Stop SchemaFault) → Fails e (at_node place (typed_node raw place (filter_map (slice_get nodes) roots)))
      → IfFault {T = ℕ} (Err e) (λ fault. typed_tree raw (node place places) ≡ Err fault)
  fault_over place stop.Memory failed = tt
  fault_over place (stop.Fault fault) failed =
      let top : at_node place (typed_node raw place (roots_of has.trees)) ≡ Err fault = rw inputs_are at failed in
      rw (has.typed, top) refl

-- The tree of a node of a graph, whose inputs are these.

module _ (raw : RawFlow) (links : List (List ℕ)) (depth place : ℕ) (inputs : List ℕ) (are : inputs ≡ inputs_below links depth place) where
  abbrev below : ℕ → Tree ℕ
  below input = tree_below links (depth - 1) input

  split : tree_below links depth place ≡ node place (trees_of (map below inputs))
  split = tree_split links depth place ∙ ap (λ ps. node place (trees_of (map below ps))) (sym are)

  parts : (i : ℕ) → i < length inputs → map below inputs ≡ map below (take i inputs) ++ below (get_or inputs i 0) ∷ map below (drop (i + 1) inputs)
  parts i h =
      ap (map below) (sym (take-append-drop i inputs) ∙ ap (λ ps. take i inputs ++ ps) (drop_more inputs i 0 h))
      ∙ map-append below (take i inputs) (get_or inputs i 0 ∷ drop (i + 1) inputs)

  fault_below : (i : ℕ) (front nodes : List Node) (roots : List ℕ) (fault : SchemaFault) → i < length inputs → HasTrees raw (trees_of (map below (take i inputs))) front nodes roots
      → typed_tree raw (below (get_or inputs i 0)) ≡ Err fault → typed_tree raw (node place (trees_of (map below inputs))) ≡ Err fault
  fault_below i front nodes roots fault h has failed =
      let fails : typed_trees raw (trees_of (map below inputs)) ≡ Err fault =
      subst (λ (ts : List (Tree ℕ)). typed_trees raw (trees_of ts) ≡ Err fault) (sym (parts i h))
      (last_fails raw (map below (take i inputs)) (map below (drop (i + 1) inputs)) (below (get_or inputs i 0)) has.trees fault has.typed failed) in
      rw fails refl

  pub fault_in : (i : ℕ) (front nodes : List Node) (roots : List ℕ) (e : Stop SchemaFault) → i < length inputs
      → HasTrees raw (trees_of (map below (take i inputs))) front nodes roots
      → IfFault {T = ℕ} (Err e) (λ fault. typed_tree raw (below (get_or inputs i 0)) ≡ Err fault)
      → IfFault {T = ℕ} (Err e) (λ fault. typed_tree raw (tree_below links depth place) ≡ Err fault)
  fault_in i front nodes roots stop.Memory h has failed = tt
  fault_in i front nodes roots (stop.Fault fault) h has failed = ap (typed_tree raw) split ∙ fault_below i front nodes roots fault h has failed

  module _ (i : ℕ) (front nodes : List Node) (roots : List ℕ) (h : length inputs ≤ i) (has : HasTrees raw (trees_of (map below (take i inputs))) front nodes roots) where
    -- all inputs were typed
    all_typed : HasTrees raw (trees_of (map below inputs)) front nodes roots
    all_typed = subst (λ (ps : List ℕ). HasTrees raw (trees_of (map below ps)) front nodes roots) (take_all i inputs h) has

    pub fault_top : (e : Stop SchemaFault) → Fails e (at_node place (typed_node raw place (filter_map (slice_get nodes) roots)))
        → IfFault {T = ℕ} (Err e) (λ fault. typed_tree raw (tree_below links depth place) ≡ Err fault)
    fault_top stop.Memory failed = tt
    fault_top (stop.Fault fault) failed = ap (typed_tree raw) split ∙ fault_over raw (trees_of (map below inputs)) front nodes roots all_typed place (stop.Fault fault) failed

    pub tree_top : (n : Node) → at_node place (typed_node raw place (filter_map (slice_get nodes) roots)) ≡ Ok n → IsLinked n (filter_map (slice_get nodes) roots)
        → HasTree raw (tree_below links depth place) front (nodes ++ n ∷ []) (length nodes)
    tree_top n made linked =
        subst (λ (t : Tree ℕ). HasTree raw t front (nodes ++ n ∷ []) (length nodes)) (sym split)
        (tree_over raw (trees_of (map below inputs)) front nodes roots all_typed place n made linked)
