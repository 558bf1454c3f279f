-- The batches of the trees that stand when nodes were taken one after the other.
use Rattle.std.proofs.Common.{◌≡◌, ℕ, zero, suc, ◌+◌, ◌-◌, ◌<◌, ◌≤◌, ◌==◌, List, [], ◌∷◌, ◌++◌, length, take, drop, map, fold, get_or, slice_get, count_by, cond, Bool, true, eq-eqb, Some, IfSome, refl, ap, sym, ◌∙◌, subst, inl, inr, arith}
use Rattle.std.proofs.lemmas.List.{length-map, length-drop, map-append, take-map, drop-map, take_all, take_more, drop_more}
use Rattle.std.proofs.lemmas.List.Sums.{fold-append, sum_by-cons}
use Rattle.std.proofs.lemmas.Option.{same_Some}
use Rattle.tuple_schema.specs.declared.schema.Column.{Column}
use Rattle.row_batch.specs.Packing.{BatchOf}
use Rattle.list_algebra.specs.Bags.{Tuple}
use Rattle.list_algebra.specs.Trees.{Tree, node, root_of, roots_of, trees_of, with_node, trees_in, EachNext}
use Rattle.flow_types.specs.declared.node.Kind.TheVariants as kind
use Rattle.flow_types.specs.declared.node.Node.{Node}
use Rattle.flow_types.specs.Flows.{number_of, count_inputs, columns_of, ids_of}
use Rattle.flow_types.specs.Linked.{IsOver, IsLinked, IsLinkedOver, AreApart}
use Rattle.kind_laws.specs.Outputs.{output_of}
use Rattle.kind_laws.specs.Wholes.{Lists, list_of, lists_of}
use Rattle.kind_laws.specs.Laws.{CanTake}
use Rattle.kind_laws.proofs.Inputs.{source_or_over}

roots-list : (trees : List (Tree Node)) → roots_of (trees_of trees) ≡ map root_of trees
roots-list [] = refl
roots-list (t ∷ trees) = ap (λ ns. root_of t ∷ ns) (roots-list trees)

lists-list : (truth : Lists) (trees : List (Tree Node)) → lists_of truth (trees_of trees) ≡ map (list_of truth) trees
lists-list truth [] = refl
lists-list truth (t ∷ trees) = ap (λ ls. list_of truth t ∷ ls) (lists-list truth trees)

-- the batch of a tree: its list, with the columns of its root
abbrev pub batch_of : Lists → Tree Node → BatchOf
batch_of truth t = record { columns = (root_of t).schema; rows = list_of truth t }

pub same_batch : (b : BatchOf) (columns : List Column) (rows : List Tuple) → b.columns ≡ columns → b.rows ≡ rows
    → b ≡ record { columns = columns; rows = rows }
same_batch b columns rows own are = rw (← own, ← are) refl

columns_batches : (truth : Lists) (trees : List (Tree Node)) → map (λ (b : BatchOf). b.columns) (map (batch_of truth) trees) ≡ columns_of (map root_of trees)
columns_batches truth [] = refl
columns_batches truth (t ∷ trees) = ap (λ cs. (root_of t).schema ∷ cs) (columns_batches truth trees)

rows_batches : (truth : Lists) (trees : List (Tree Node)) → map (λ (b : BatchOf). b.rows) (map (batch_of truth) trees) ≡ map (list_of truth) trees
rows_batches truth [] = refl
rows_batches truth (t ∷ trees) = ap (λ ls. list_of truth t ∷ ls) (rows_batches truth trees)

module _ (truth : Lists) (n : Node) (trees : List (Tree Node)) (linked : IsLinkedOver n (trees_of trees)) where
  over : IsLinked n (map root_of trees)
  over = subst (IsLinked n) (roots-list trees) linked

  -- what stands below a node it can take
  pub can_take : CanTake n (map root_of trees) (map (batch_of truth) trees)
  can_take = record { linked = over; columns = columns_batches truth trees }

  -- a source stands over nothing, and its list is its own
  pub own_list : (file : _) → n.kind ≡ kind.Source file → list_of truth (node n (trees_of trees)) ≡ truth n
  own_list file is = by trees (subst (λ k. IsOver k (columns_of (map root_of trees)) n.schema) is over.over)
    where
      by : (ts : List (Tree Node)) → IsOver (kind.Source file) (columns_of (map root_of ts)) n.schema → list_of truth (node n (trees_of ts)) ≡ truth n
      by [] none = rw is refl
      by (t ∷ ts) some = let none = ap length some.0 in absurd (omega arith)

  -- any other gives what its kind makes of the lists below it
  pub made_list : ((file : _) → n.kind ≡ kind.Source file → ⊥)
      → list_of truth (node n (trees_of trees)) ≡ output_of n.kind (columns_of (map root_of trees)) (map (λ (b : BatchOf). b.rows) (map (batch_of truth) trees))
  made_list no_source = by trees over.over ∙ ap (output_of n.kind (columns_of (map root_of trees))) (sym (rows_batches truth trees))
    where
      by : (ts : List (Tree Node)) → IsOver n.kind (columns_of (map root_of ts)) n.schema
          → list_of truth (node n (trees_of ts)) ≡ output_of n.kind (columns_of (map root_of ts)) (map (list_of truth) ts)
      by [] over = elim (source_or_over n.kind [] n.schema over) [
        | inl source ↦ absurd (no_source source.0 source.1)
        | inr some ↦ absurd (omega arith)
      ]
      by (t ∷ ts) over = rw (roots-list ts, lists-list truth ts) refl

  -- a source has no inputs
  pub no_inputs : (file : _) → n.kind ≡ kind.Source file → count_inputs n ≡ 0
  no_inputs file is =
      let source = subst (λ k. IsOver k (columns_of (map root_of trees)) n.schema) is over.over in
      let none : columns_of (map root_of trees) ≡ [] = source.0 in
      let columns : length (columns_of (map root_of trees)) ≡ length (map root_of trees) = rw length-map refl in
      let ids : length (ids_of (map root_of trees)) ≡ length (map root_of trees) = rw length-map refl in
      let inputs = ap length over.inputs in
      let empty = ap length none in
      omega arith

-- One node more.

module _ (nodes : List Node) (i : ℕ) (n : Node) (small : i < length nodes) (is : n ≡ get_or nodes i n) where
  pub grown : trees_in count_inputs (take (i + 1) nodes) ≡ with_node count_inputs (trees_in count_inputs (take i nodes)) n
  unfolding trees_in
  grown = ap (fold (with_node count_inputs) []) (take_more nodes i n small ∙ ap (λ m. take i nodes ++ m ∷ []) (sym is)) ∙ fold-append (with_node count_inputs) [] (take i nodes) (n ∷ [])

  pub next_here : (trees : List (Tree Node)) → EachNext count_inputs IsLinkedOver trees (drop i nodes) → EachNext count_inputs IsLinkedOver trees (n ∷ drop (i + 1) nodes)
  next_here trees next = subst (EachNext count_inputs IsLinkedOver trees) (drop_more nodes i n small ∙ ap (λ m. m ∷ drop (i + 1) nodes) (sym is)) next

module _ (truth : Lists) (trees : List (Tree Node)) (n : Node) where
  abbrev here : ℕ
  here = length trees - count_inputs n

  pub roots_grown : map root_of (with_node count_inputs trees n) ≡ take here (map root_of trees) ++ n ∷ []
  roots_grown = map-append root_of (take here trees) _ ∙ ap (λ ns. ns ++ n ∷ []) (sym (take-map root_of here trees))

  pub batches_grown : map (batch_of truth) (with_node count_inputs trees n)
      ≡ take here (map (batch_of truth) trees) ++ batch_of truth (node n (trees_of (drop here trees))) ∷ []
  batches_grown = map-append (batch_of truth) (take here trees) _ ∙ ap (λ bs. bs ++ batch_of truth (node n (trees_of (drop here trees))) ∷ []) (sym (take-map (batch_of truth) here trees))

-- Numbers of nodes that come once.

adds : (b : Bool) → b ≡ true → (let count : ℕ = cond b 1 0 in count) ≡ 1
adds b is = rw is refl

counted : (nodes : List Node) (k : ℕ) (m : Node) (q : ℕ) → slice_get nodes k ≡ Some m → number_of m ≡ q → 1 ≤ count_by (λ n. number_of n == q) nodes
counted [] k m q is same = absurd (cc)
counted (n ∷ nodes) zero m q is same =
    let here : n ≡ m = same_Some _ _ is in
    let test : (number_of n == q) ≡ true = eq-eqb (number_of n) q (ap number_of here ∙ same) in
    let one = adds (number_of n == q) test in
    let sum = sum_by-cons (λ x. cond (number_of x == q) 1 0) n nodes in
    omega arith
counted (n ∷ nodes) (suc k) m q is same =
    let rest = counted nodes k m q is same in
    let sum = sum_by-cons (λ x. cond (number_of x == q) 1 0) n nodes in
    omega arith

pub apart_at : (nodes : List Node) (i k : ℕ) (n m : Node) → AreApart nodes → slice_get nodes i ≡ Some n → slice_get nodes k ≡ Some m → i < k → number_of m ≡ number_of n → ⊥
apart_at [] i k n m apart is there less same = absurd (cc)
apart_at (x ∷ nodes) i zero n m apart is there less same = absurd (omega arith)
apart_at (x ∷ nodes) zero (suc k) n m apart is there less same =
    let here : x ≡ n = same_Some _ _ is in
    let test : (number_of x == number_of n) ≡ true = eq-eqb (number_of x) (number_of n) (ap number_of here) in
    let one = adds (number_of x == number_of n) test in
    let rest = counted nodes k m (number_of n) there same in
    let sum = sum_by-cons (λ y. cond (number_of y == number_of n) 1 0) x nodes in
    let most = apart (number_of n) in
    omega arith
apart_at (x ∷ nodes) (suc i) (suc k) n m apart is there less same =
    apart_at nodes i k n m
    (λ q. let sum = sum_by-cons (λ y. cond (number_of y == q) 1 0) x nodes in let most = apart q in omega arith)
    is there (omega arith) same

-- what a source takes from the batches by number, where its own has its columns or isn't there
pub source_at : (batches : List BatchOf) (number : ℕ) (columns : List Column) → IfSome (slice_get batches number) (λ (b : BatchOf). b.columns ≡ columns)
    → get_or batches number (record { columns = columns; rows = [] }) ≡ record { columns = columns; rows = get_or (map (λ (b : BatchOf). b.rows) batches) number [] }
source_at [] zero columns own = refl
source_at [] (suc number) columns own = refl
source_at (b ∷ batches) zero columns own = same_batch b columns b.rows own refl
source_at (b ∷ batches) (suc number) columns own = source_at batches number columns own

-- what holds once the batch of a node was made, over the last of these trees
pub record Made (truth : Lists) (trees : List (Tree Node)) (n : Node) (inputs : List Node) (batches : List BatchOf) (b : BatchOf) : Type 0 where
  pub inputs_are : inputs ≡ take (length trees - count_inputs n) (map root_of trees)
  pub batches_are : batches ≡ take (length trees - count_inputs n) (map (batch_of truth) trees)
  pub batch_is : b ≡ batch_of truth (node n (trees_of (drop (length trees - count_inputs n) trees)))

module _ (truth : Lists) (trees : List (Tree Node)) (n : Node) (linked : IsLinkedOver n (trees_of (drop (length trees - count_inputs n) trees))) where
  -- of a source
  pub made_source : (file : _) → n.kind ≡ kind.Source file → (b : BatchOf) → b ≡ record { columns = n.schema; rows = truth n }
      → Made truth trees n (map root_of trees) (map (batch_of truth) trees) b
  made_source file is b own =
      let none = no_inputs truth n (drop (length trees - count_inputs n) trees) linked file is in
      let roots : length (map root_of trees) ≡ length trees = rw length-map refl in
      let batches : length (map (batch_of truth) trees) ≡ length trees = rw length-map refl in
      record {
        inputs_are = sym (take_all (length trees - count_inputs n) (map root_of trees) (omega arith));
        batches_are = sym (take_all (length trees - count_inputs n) (map (batch_of truth) trees) (omega arith));
        batch_is = same_batch b n.schema _ (ap (λ (c : BatchOf). c.columns) own)
            (ap (λ (c : BatchOf). c.rows) own ∙ sym (own_list truth n (drop (length trees - count_inputs n) trees) linked file is));
      }

  -- of any other
  pub made_other : ((file : _) → n.kind ≡ kind.Source file → ⊥) → (b : BatchOf) → b.columns ≡ n.schema
      → b.rows ≡ output_of n.kind (columns_of (drop (length trees - count_inputs n) (map root_of trees))) (map (λ (c : BatchOf). c.rows) (drop (length trees - count_inputs n) (map (batch_of truth) trees)))
      → Made truth trees n (take (length trees - count_inputs n) (map root_of trees)) (take (length trees - count_inputs n) (map (batch_of truth) trees)) b
  made_other no_source b own are = record {
    inputs_are = refl;
    batches_are = refl;
    batch_is = same_batch b n.schema _ own
        (are ∙ ap (λ ns. output_of n.kind (columns_of ns) (map (λ (c : BatchOf). c.rows) (drop (length trees - count_inputs n) (map (batch_of truth) trees)))) (drop-map root_of (length trees - count_inputs n) trees)
        ∙ ap (λ bs. output_of n.kind (columns_of (map root_of (drop (length trees - count_inputs n) trees))) (map (λ (c : BatchOf). c.rows) bs)) (drop-map (batch_of truth) (length trees - count_inputs n) trees)
        ∙ sym (made_list truth n (drop (length trees - count_inputs n) trees) linked no_source));
  }

  pub can_take_last : CanTake n (drop (length trees - count_inputs n) (map root_of trees)) (drop (length trees - count_inputs n) (map (batch_of truth) trees))
  can_take_last =
      rw (drop-map root_of (length trees - count_inputs n) trees, drop-map (batch_of truth) (length trees - count_inputs n) trees)
      (can_take truth n (drop (length trees - count_inputs n) trees) linked)

-- A node has no more inputs than trees stand.

pub inputs_stand : (n : Node) (trees : List (Tree Node)) → IsLinkedOver n (trees_of (drop (length trees - count_inputs n) trees))
    → count_inputs n ≤ length trees
inputs_stand n trees linked =
    let here : ℕ = length trees - count_inputs n in
    let below = linked.inputs ∙ ap ids_of (roots-list (drop here trees)) in
    let inputs : count_inputs n ≡ length (map (λ (m : Node). m.id) (map root_of (drop here trees))) = ap length below in
    let roots : length (map (λ (m : Node). m.id) (map root_of (drop here trees))) ≡ length (drop here trees) = rw (length-map, length-map) refl in
    let rest : length (drop here trees) ≡ length trees - here = length-drop here trees in
    omega arith
