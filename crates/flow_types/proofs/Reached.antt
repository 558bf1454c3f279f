-- Which nodes the table's input reaches.
use Rattle.std.proofs.Common.{◌≡◌, ℕ, zero, suc, ◌-◌, ◌<◌, ◌≤◌, ◌==◌, List, [], ◌∷◌, ◌++◌, length, map, take, drop, get_or, slice_set, Bool, true, false, not, ◌||◌, refl, ap, sym, inl, inr, ◌+◌, ◌∙◌, append_assoc, Ok, Err, arith, sub-one}
use Rattle.std.specs.List.{list_any}
use Rattle.std.proofs.Math.Bool.{or_assoc}
use Rattle.std.proofs.Math.Seq.{take-append_seam}
use Rattle.std.proofs.lemmas.List.{append-nil, take_more, get_or-set_other}
use Rattle.std.proofs.lemmas.List.Folds.{list_any-append}
use Rattle.std.proofs.lemmas.Grind.{get_or-set_at}
use Rattle.std.proofs.lemmas.Bool.Decides.{eqb_tells}
use Rattle.flow_types.specs.declared.fault.SchemaCause.TheVariants as cause
use Rattle.list_algebra.specs.Trees.{Tree, node, trees_of, in_order, all_in_order}
use Rattle.flow_types.specs.Trees.{tree_below, inputs_below}
use Rattle.flow_types.specs.Graph.{flow_tree, is_in, all_reached, fault_at}
use Rattle.flow_types.proofs.Places.{least_is, least_none}

-- a tree is its node over the trees of the inputs that it has
pub tree_split : (links : List (List ℕ)) (depth place : ℕ) → tree_below links depth place ≡ node place (trees_of (map (tree_below links (depth - 1)) (inputs_below links depth place)))
unfolding tree_below
tree_split links zero place = refl
tree_split links (suc depth) place = rw sub-one refl

or_false : (b : Bool) → (b || false) ≡ b
or_false true = refl
or_false false = refl

or_true : (b : Bool) → (b || true) ≡ true
or_true true = refl
or_true false = refl

-- a mark more
marked_here : (marks : List Bool) (place k : ℕ) → place < length marks → get_or (slice_set marks place true) k false ≡ (get_or marks k false || (place == k))
marked_here marks place k h =
    elim (eqb_tells place k) [
      | inl same ↦ rw (same.0, or_true, get_or-set_at marks place k true false (sym same.1) h) refl
      | inr other ↦
          let apart : k ≡ place → ⊥ = λ e. other.1 (sym e) in
          rw (other.0, or_false, get_or-set_other marks place k true false apart) refl
    ]

-- one tree more
order_more : {X : Type 0} (f : X → Tree ℕ) (xs : List X) (x : X) → all_in_order (trees_of (map f (xs ++ x ∷ []))) ≡ all_in_order (trees_of (map f xs)) ++ in_order (f x)
order_more f [] x = append-nil (in_order (f x))
order_more f (y ∷ xs) x = ap (λ ps. in_order (f y) ++ ps) (order_more f xs x) ∙ sym (append_assoc (in_order (f y)) (all_in_order (trees_of (map f xs))) (in_order (f x)))

-- whether the place is in a tree of these
abbrev pub is_in_all : (ℕ → Tree ℕ) → List ℕ → ℕ → Bool
is_in_all f places k = list_any (λ p. p == k) (all_in_order (trees_of (map f places)))

pub marked_more : (f : ℕ → Tree ℕ) (inputs : List ℕ) (i : ℕ) (start before after : Bool) (k : ℕ) → i < length inputs
    → before ≡ (start || is_in_all f (take i inputs) k) → after ≡ (before || is_in (f (get_or inputs i 0)) k) → after ≡ (start || is_in_all f (take (i + 1) inputs) k)
marked_more f inputs i start before after k h was now =
    rw (take_more inputs i 0 h, order_more f (take i inputs) (get_or inputs i 0), list_any-append, now, was)
    (or_assoc start (is_in_all f (take i inputs) k) (is_in (f (get_or inputs i 0)) k))

pub marked_all : (links : List (List ℕ)) (depth place : ℕ) (before marks : List Bool) → place < length marks
    → ((k : ℕ) → get_or marks k false ≡ (get_or before k false || is_in_all (tree_below links (depth - 1)) (inputs_below links depth place) k))
    → (k : ℕ) → get_or (slice_set marks place true) k false ≡ (get_or before k false || is_in (tree_below links depth place) k)
marked_all links depth place before marks h below k =
    rw (marked_here marks place k h, below k, tree_split links depth place, list_any-append, or_false)
    (or_assoc (get_or before k false) (is_in_all (tree_below links (depth - 1)) (inputs_below links depth place) k) (place == k))

-- nothing was marked before
pub marks_are : (before marks : List Bool) (has : Bool) (k : ℕ) → get_or before k false ≡ false → get_or marks k false ≡ (get_or before k false || has) → has ≡ get_or marks k false
marks_are before marks has k none is = rw (is, none) refl

pub refilled : {X : Type 0} (n : ℕ) (xs ys : List X) → length xs ≡ n → take n (xs ++ drop (length xs) ys) ≡ xs
refilled n xs ys is = rw (← is) (take-append_seam xs (drop (length xs) ys))

module _ (root : ℕ) (links : List (List ℕ)) where
  abbrev has : ℕ → Bool
  has place = is_in (flow_tree root links) place

  pub not_reached : (place : ℕ) → place < length links → has place ≡ false → ((k : ℕ) → k < place → has k ≡ true) → all_reached root links ≡ Err (fault_at place cause.NotReached)
  not_reached place h missing before =
      rw (least_is (length links) (λ k. not (has k)) place h (ap not missing) (λ k less. ap not (before k less))) refl

  pub reaches_all : (n : ℕ) → length links ≤ n → ((k : ℕ) → k < n → has k ≡ true) → all_reached root links ≡ Ok tt
  reaches_all n h all = rw (least_none (length links) (λ k. not (has k)) (λ k less. ap not (all k (omega arith)))) refl
