use Rattle.std.proofs.Common.{◌≡◌, ◌≤◌, ◌+◌, ◌-◌, ℕ, List, [], ◌∷◌, ◌++◌, map, take, drop, length, get_or, slice_get, IfSome, Some, refl, ap, sym, ◌∙◌, subst, length-append, arith}
use Rattle.std.proofs.lemmas.List.{map-append, length-map, drop-map, take-map, take_all, get_or-set_other}
use Rattle.std.proofs.lemmas.Option.{slice_get_read}
use Rattle.list_algebra.specs.Trees.{Tree, root_of, trees_in, EachNext}
use Rattle.row_batch.specs.Packing.{BatchOf}
use Rattle.flow_types.specs.declared.node.Node.{Node}
use Rattle.flow_types.specs.Flows.{number_of, count_inputs, columns_of}
use Rattle.flow_types.specs.Linked.{IsLinkedOver}
use Rattle.kind_laws.specs.Outputs.{output_of}
use Rattle.kind_laws.specs.Laws.{SourcesHaveColumns, HasOwnColumns}
use Rattle.kind_laws.specs.Wholes.{Lists, by_number}
use Rattle.kind_laws.proofs.Stacks.{batch_of, source_at, Made, made_source, made_other, can_take_last, grown, next_here, roots_grown, batches_grown, apart_at, inputs_stand}
use Rattle.kind_laws.proofs.evaluation.whole.Goals as goal
use Rattle.kind_laws.proofs.evaluation.whole.Goals.{in-Source+in_ok-rows-in-Source, in_default+in_ok-split_off-in_default+in_ok-split_off-in_default-2+in_ok-rows-in_default}

abbrev truth_in : List BatchOf → Lists
truth_in batches = by_number (map (λ (b : BatchOf). b.rows) batches)

pub loop-node-init : goal.loop-node-init
unfolding trees_in
loop-node-init c = record {
  inputs = rw c.new-inputs.ensures.items refl;
  lists = rw c.new-lists.ensures.items refl;
  next = rw c.nodes-node-items.ensures.same (c.tree_laws.ensures.next c.args.flow.now c.nodes-node-items.ensures.flow);
  unspent = λ k n none past is. refl;
}

pub overflow_sub-at : goal.overflow_sub-at
overflow_sub-at c =
    let nodes = c.nodes-node-items.result.now in
    let trees = trees_in count_inputs (take c.loop-node.node-index nodes) in
    let n = c.node-item.result in
    let next = next_here nodes c.loop-node.node-index n c.loop-node-test.true c.node-item.is trees c.loop-node.invariant.next in
    let lists : length c.loop-node.lists.items ≡ length trees = ap length c.loop-node.invariant.lists ∙ rw length-map refl in
    let stand : count_inputs n ≤ length trees = inputs_stand n trees next.0 in
    let inputs : length c.nodes.result.now ≡ count_inputs n = ap length c.nodes.ensures in
    omega (arith, c.len.ensures, c.loop-node.lists.ok.0, lists, stand, inputs)

pub split_off-requires : goal.split_off-requires
split_off-requires c =
    let nodes = c.nodes-node-items.result.now in
    let trees = trees_in count_inputs (take c.loop-node.node-index nodes) in
    let lists : length c.loop-node.lists.items ≡ length trees = ap length c.loop-node.invariant.lists ∙ rw length-map refl in
    let roots : length (map (λ m. m.now) c.loop-node.inputs.items) ≡ length (map root_of trees) = ap length c.loop-node.invariant.inputs in
    let mapped : length (map (λ m. m.now) c.loop-node.inputs.items) ≡ length c.loop-node.inputs.items = rw length-map refl in
    let rooted : length (map root_of trees) ≡ length trees = rw length-map refl in
    let inputs : length c.loop-node.inputs.items ≡ length trees = sym mapped ∙ roots ∙ rooted in
    omega (arith, c.len.ensures, c.loop-node.lists.ok.0, c.loop-node.inputs.ok.0, lists, inputs)

pub out-requires : goal.out-requires
out-requires c =
    let truth = truth_in c.args.sources.items in
    let nodes = c.nodes-node-items.result.now in
    let trees = trees_in count_inputs (take c.loop-node.node-index nodes) in
    let n = c.node-item.result in
    let next = next_here nodes c.loop-node.node-index n c.loop-node-test.true c.node-item.is trees c.loop-node.invariant.next in
    let lists : length c.loop-node.lists.items ≡ length trees = ap length c.loop-node.invariant.lists ∙ rw length-map refl in
    let at : c.len.result - length c.nodes.result.now ≡ length trees - count_inputs n =
    rw c.nodes.ensures (ap (λ k. k - count_inputs n) (omega (arith, c.len.ensures, c.loop-node.lists.ok.0, lists))) in
    let inputs : map (λ m. m.now) c.in_ok-split_off-in_default.field-0.items ≡ drop (length trees - count_inputs n) (map root_of trees) =
    ap (map (λ m. m.now)) c.in_ok-split_off-in_default.ensures.tail ∙ sym (drop-map (λ m. m.now) _ c.loop-node.inputs.items) ∙ ap (drop _) c.loop-node.invariant.inputs ∙ ap (λ k. drop k (map root_of trees)) at in
    let given : c.in_ok-split_off-in_default-2.field-0.items ≡ drop (length trees - count_inputs n) (map (batch_of truth) trees) =
    c.in_ok-split_off-in_default-2.ensures.tail ∙ ap (drop _) c.loop-node.invariant.lists ∙ ap (λ k. drop k (map (batch_of truth) trees)) at in
    rw (inputs, given) (can_take_last truth trees n next.0)

single : {X : Type 0} (x y : X) (front : List X) → x ∷ [] ≡ front ++ y ∷ [] → x ≡ y
single x y [] is = cc
single x y (z ∷ front) is =
    let len = ap length is in
    let all = length-append front (y ∷ []) in
    absurd (omega arith)

ends : (c : goal.After-drop-sources-2) → batch_of (truth_in c.args.sources.items) c.nodes-node-items.ensures.flow.tree ≡ c.in-Some.rows
ends c =
    let truth = truth_in c.args.sources.items in
    let nodes = c.nodes-node-items.result.now in
    let flow = c.nodes-node-items.ensures.flow in
    let all : take c.loop-node.node-index nodes ≡ c.args.flow.now.nodes = take_all c.loop-node.node-index nodes c.loop-node-test.false ∙ c.nodes-node-items.ensures.same in
    let alone : trees_in count_inputs (take c.loop-node.node-index nodes) ≡ flow.tree ∷ [] = ap (trees_in count_inputs) all ∙ c.tree_laws.ensures.alone c.args.flow.now flow in
    let lists = c.loop-node.invariant.lists ∙ ap (map (batch_of truth)) alone in
    single (batch_of truth flow.tree) c.in-Some.rows _ (sym lists ∙ c.in-Some.ensures.items)

pub returns-clause-whole : goal.returns-clause-whole
returns-clause-whole c = rw (c.nodes-node-items.ensures.flow.made) (ap (λ (b : BatchOf). Some b.rows) (ends c))

pub returns-clause-columns : goal.returns-clause-columns
returns-clause-columns c =
    rw (c.tree_laws.ensures.root c.args.flow.now c.nodes-node-items.ensures.flow) (sym (ap (λ (b : BatchOf). b.columns) (ends c)))

abbrev trees_at : goal.In_ok-push-2 → List (Tree Node)
trees_at c = trees_in count_inputs (take c.loop-node.node-index c.nodes-node-items.result.now)

item_at : (c : goal.In_ok-push-2) → slice_get c.nodes-node-items.result.now c.loop-node.node-index ≡ Some c.node-item.result
item_at c = slice_get_read c.nodes-node-items.result.now (length c.nodes-node-items.result.now) c.loop-node.node-index c.node-item.result refl c.loop-node-test.true c.node-item.is

next_at : (c : goal.In_ok-push-2) → EachNext count_inputs IsLinkedOver (trees_at c) (c.node-item.result ∷ drop (c.loop-node.node-index + 1) c.nodes-node-items.result.now)
next_at c = next_here c.nodes-node-items.result.now c.loop-node.node-index c.node-item.result c.loop-node-test.true c.node-item.is (trees_at c) c.loop-node.invariant.next

made : (c : goal.In_ok-push-2) → Made (truth_in c.args.sources.items) (trees_at c) c.node-item.result (map (λ m. m.now) c.match-node.inputs.items) c.match-node.lists.items c.match-node.rows
made c = elim c.match-node.branch [
  | in-Source+in_ok-rows-in-Source w ↦
      let truth = truth_in c.args.sources.items in
      let n = c.node-item.result in
      let none : BatchOf = record { columns = n.schema; rows = [] } in
      let have : SourcesHaveColumns c.nodes-node-items.result.now c.args.sources.items = rw c.nodes-node-items.ensures.same c.requires in
      let own : HasOwnColumns n.kind n.schema (slice_get c.args.sources.items (number_of n)) =
      subst (λ (m : Node). HasOwnColumns m.kind m.schema (slice_get c.args.sources.items (number_of m))) (sym c.node-item.is) (have c.loop-node.node-index n c.loop-node-test.true) in
      let columns : IfSome (slice_get c.args.sources.items (number_of n)) (λ (b : BatchOf). b.columns ≡ n.schema) =
      subst (λ k. HasOwnColumns k n.schema (slice_get c.args.sources.items (number_of n))) w.in-Source.is own in
      let rows : c.match-node.rows ≡ record { columns = n.schema; rows = truth n } =
      w.rows-is ∙ w.in_ok-rows-in-Source.ensures.list ∙ c.loop-node.invariant.unspent c.loop-node.node-index n none (omega arith) (item_at c)
      ∙ source_at c.args.sources.items (number_of n) n.schema columns in
      rw (w.inputs-is, w.lists-is, c.loop-node.invariant.inputs, c.loop-node.invariant.lists)
      (made_source truth (trees_at c) n (next_at c).0 w.in-Source.field-0 w.in-Source.is c.match-node.rows rows)
  | in_default+in_ok-split_off-in_default+in_ok-split_off-in_default-2+in_ok-rows-in_default w ↦
      let truth = truth_in c.args.sources.items in
      let trees = trees_at c in
      let n = c.node-item.result in
      let lists : length c.loop-node.lists.items ≡ length trees = ap length c.loop-node.invariant.lists ∙ rw length-map refl in
      let at : w.len.result - length w.nodes.result.now ≡ length trees - count_inputs n =
      rw w.nodes.ensures (ap (λ k. k - count_inputs n) (omega (arith, w.len.ensures, c.loop-node.lists.ok.0, lists))) in
      let inputs : map (λ m. m.now) w.in_ok-split_off-in_default.field-0.items ≡ drop (length trees - count_inputs n) (map root_of trees) =
      ap (map (λ m. m.now)) w.in_ok-split_off-in_default.ensures.tail ∙ sym (drop-map (λ m. m.now) _ c.loop-node.inputs.items) ∙ ap (drop _) c.loop-node.invariant.inputs ∙ ap (λ k. drop k (map root_of trees)) at in
      let given : w.in_ok-split_off-in_default-2.field-0.items ≡ drop (length trees - count_inputs n) (map (batch_of truth) trees) =
      w.in_ok-split_off-in_default-2.ensures.tail ∙ ap (drop _) c.loop-node.invariant.lists ∙ ap (λ k. drop k (map (batch_of truth) trees)) at in
      let left : map (λ m. m.now) c.match-node.inputs.items ≡ take (length trees - count_inputs n) (map root_of trees) =
      ap (λ v. map (λ m. m.now) v.items) w.inputs-is ∙ ap (map (λ m. m.now)) w.in_ok-split_off-in_default.ensures.items ∙ sym (take-map (λ m. m.now) _ c.loop-node.inputs.items)
      ∙ ap (take _) c.loop-node.invariant.inputs ∙ ap (λ k. take k (map root_of trees)) at in
      let others : c.match-node.lists.items ≡ take (length trees - count_inputs n) (map (batch_of truth) trees) =
      ap (λ v. v.items) w.lists-is ∙ w.in_ok-split_off-in_default-2.ensures.items ∙ ap (take _) c.loop-node.invariant.lists ∙ ap (λ k. take k (map (batch_of truth) trees)) at in
      let columns : c.match-node.rows.columns ≡ n.schema = ap (λ (b : BatchOf). b.columns) w.rows-is ∙ w.in_ok-rows-in_default.ensures.columns in
      let rows : c.match-node.rows.rows ≡ output_of n.kind (columns_of (drop (length trees - count_inputs n) (map root_of trees))) (map (λ (b : BatchOf). b.rows) (drop (length trees - count_inputs n) (map (batch_of truth) trees))) =
      ap (λ (b : BatchOf). b.rows) w.rows-is ∙ w.in_ok-rows-in_default.ensures.rows
      ∙ ap (λ ns. output_of n.kind (columns_of ns) (map (λ (b : BatchOf). b.rows) w.in_ok-split_off-in_default-2.field-0.items)) inputs
      ∙ ap (λ bs. output_of n.kind (columns_of (drop (length trees - count_inputs n) (map root_of trees))) (map (λ (b : BatchOf). b.rows) bs)) given in
      rw (left, others) (made_other truth trees n (next_at c).0 w.in_default.not-Source c.match-node.rows columns rows)
]

unspent : (c : goal.In_ok-push-2) (k : ℕ) (n : Node) (none : BatchOf) → c.loop-node.node-index + 1 ≤ k → slice_get c.nodes-node-items.result.now k ≡ Some n
    → get_or c.match-node.sources.items (number_of n) none ≡ get_or c.args.sources.items (number_of n) none
unspent c k n none past is = elim c.match-node.branch [
  | in-Source+in_ok-rows-in-Source w ↦
      let flow = c.nodes-node-items.ensures.flow in
      let same = c.nodes-node-items.ensures.same in
      let other : number_of n ≡ number_of c.node-item.result → ⊥ =
      apart_at c.args.flow.now.nodes c.loop-node.node-index k c.node-item.result n flow.apart (rw (← same) (item_at c)) (rw (← same) is) (omega arith) in
      rw (w.sources-is, w.in_ok-rows-in-Source.ensures.others, get_or-set_other c.loop-node.sources.items (number_of c.node-item.result) (number_of n) _ none other)
      (c.loop-node.invariant.unspent k n none (omega arith) is)
  | in_default+in_ok-split_off-in_default+in_ok-split_off-in_default-2+in_ok-rows-in_default w ↦ rw w.sources-is (c.loop-node.invariant.unspent k n none (omega arith) is)
]

pub loop-node-preserved : goal.loop-node-preserved
loop-node-preserved c =
    let truth = truth_in c.args.sources.items in
    let n = c.node-item.result in
    let trees = trees_at c in
    let is = made c in
    let more = grown c.nodes-node-items.result.now c.loop-node.node-index n c.loop-node-test.true c.node-item.is in
    rw more
    (record {
      inputs = ap (map (λ m. m.now)) c.in_ok-push.ensures.items ∙ map-append (λ m. m.now) c.match-node.inputs.items _ ∙ ap (λ ns. ns ++ n ∷ []) is.inputs_are ∙ sym (roots_grown truth trees n);
      lists = c.in_ok-push-2.ensures.items ∙ ap (λ bs. bs ++ c.match-node.rows ∷ []) is.batches_are ∙ ap (λ b. take (length trees - count_inputs n) (map (batch_of truth) trees) ++ b ∷ []) is.batch_is ∙ sym (batches_grown truth trees n);
      next = (next_at c).1;
      unspent = unspent c;
    })
