-- A tree that is as deep as there are nodes, none of which is used twice, is whole.
use Rattle.std.proofs.Common.{◌≡◌, ℕ, zero, suc, ◌+◌, ◌-◌, ◌<◌, ◌≤◌, List, [], ◌∷◌, length, map, get_or, refl, ap, sym, ◌∙◌, ◌⊎◌, inl, inr, Ok, length-append, sub-one, arith}
use Rattle.list_algebra.specs.Trees.{node, Trees, no_trees, tree, trees_of, in_order, all_in_order}
use Rattle.flow_types.specs.Trees.{tree_below, inputs_below, IsWhole}
use Rattle.flow_types.specs.Graph.{used_once, AreWithin}
use Rattle.flow_types.proofs.Once.{few_below}

module _ (links : List (List ℕ)) where
  abbrev inputs : ℕ → List ℕ
  inputs place = get_or links place []

  abbrev below : ℕ → List ℕ → Trees ℕ
  below depth places = trees_of (map (tree_below links depth) places)

  abbrev size : ℕ → ℕ → ℕ
  size depth place = length (in_order (tree_below links depth place))

  leaf : (place : ℕ) → tree_below links zero place ≡ node place no_trees
  unfolding tree_below
  leaf place = refl

  over : (depth place : ℕ) → tree_below links (suc depth) place ≡ node place (below depth (inputs place))
  unfolding tree_below
  over depth place = refl

  sizes : (place : ℕ) (trees : Trees ℕ) → length (in_order (node place trees)) ≡ length (all_in_order trees) + 1
  sizes place trees = length-append (all_in_order trees) (place ∷ [])

  size_over : (depth place : ℕ) → size (suc depth) place ≡ length (all_in_order (below depth (inputs place))) + 1
  size_over depth place = ap (λ t. length (in_order t)) (over depth place) ∙ sizes place (below depth (inputs place))

  -- one level deeper a tree is the same, or has more nodes
  abbrev Grows : ℕ → ℕ → Type 0
  Grows depth place = IsWhole links depth place ⊎ (suc (size depth place) ≤ size (suc depth) place)

  grow_all : (depth : ℕ) (places : List ℕ) → ((p : ℕ) → Grows depth p)
      → (below depth places ≡ below (suc depth) places) ⊎ (suc (length (all_in_order (below depth places))) ≤ length (all_in_order (below (suc depth) places)))
  grow_all depth [] each = inl refl
  grow_all depth (p ∷ places) each =
      let now = length-append (in_order (tree_below links depth p)) (all_in_order (below depth places)) in
      let next = length-append (in_order (tree_below links (suc depth) p)) (all_in_order (below (suc depth) places)) in
      elim (each p) [
        | inl same ↦ elim (grow_all depth places each) [
          | inl others ↦ inl (ap (λ t. tree t (below depth places)) same ∙ ap (tree (tree_below links (suc depth) p)) others)
          | inr more ↦ let one = ap (λ t. length (in_order t)) same in inr (omega arith)
        ]
        | inr more ↦ elim (grow_all depth places each) [
          | inl others ↦ let rest = ap (λ ts. length (all_in_order ts)) others in inr (omega arith)
          | inr too ↦ inr (omega arith)
        ]
      ]

  nothing : (places : List ℕ) → no_trees ≡ below zero places → places ≡ []
  nothing [] none = refl
  nothing (p ∷ places) none = absurd (cc)

  grows_leaf : (place : ℕ) (places : List ℕ) → inputs place ≡ places → Grows zero place
  grows_leaf place [] none = inl (leaf place ∙ sym (over zero place ∙ ap (λ ps. node place (below zero ps)) none))
  grows_leaf place (p ∷ places) some =
      let one : size zero place ≡ 1 = rw (leaf place) refl in
      let own : size zero p ≡ 1 = rw (leaf p) refl in
      let all = size_over zero place in
      let first = ap (λ ps. length (all_in_order (below zero ps))) some in
      let split = length-append (in_order (tree_below links zero p)) (all_in_order (below zero places)) in
      inr (omega arith)

  grows : (depth place : ℕ) → Grows depth place
  grows zero place = grows_leaf place (inputs place) refl
  grows (suc depth) place =
      let now = size_over depth place in
      let next = size_over (suc depth) place in
      elim (grow_all depth (inputs place) (λ p. grows depth p)) [
        | inl same ↦ inl (over depth place ∙ (ap (node place) same ∙ sym (over (suc depth) place)))
        | inr more ↦ inr (omega arith)
      ]

  -- what is whole stays the same however deep it is
  stay_all : (depth : ℕ) (places : List ℕ) → ((p : ℕ) → IsWhole links depth p → IsWhole links (suc depth) p)
      → below depth places ≡ below (suc depth) places → below (suc depth) places ≡ below (suc (suc depth)) places
  stay_all depth [] each same = refl
  stay_all depth (p ∷ places) each same =
      let first : tree_below links depth p ≡ tree_below links (suc depth) p = cc in
      let others : below depth places ≡ below (suc depth) places = cc in
      ap (λ t. tree t (below (suc depth) places)) (each p first) ∙ ap (tree (tree_below links (suc (suc depth)) p)) (stay_all depth places each others)

  leaf_inputs : (place : ℕ) → IsWhole links zero place → inputs place ≡ []
  leaf_inputs place whole =
      let same : node place no_trees ≡ node place (below zero (inputs place)) = sym (leaf place) ∙ (whole ∙ over zero place) in
      let none : no_trees ≡ below zero (inputs place) = cc in
      nothing (inputs place) none

  same_below : (depth place : ℕ) → IsWhole links (suc depth) place → below depth (inputs place) ≡ below (suc depth) (inputs place)
  same_below depth place whole =
      let same : node place (below depth (inputs place)) ≡ node place (below (suc depth) (inputs place)) = sym (over depth place) ∙ (whole ∙ over (suc depth) place) in
      cc

  stays : (depth place : ℕ) → IsWhole links depth place → IsWhole links (suc depth) place
  stays zero place whole =
      let none = leaf_inputs place whole in
      over zero place ∙ (ap (λ ps. node place (below zero ps)) none ∙ (sym (ap (λ ps. node place (below 1 ps)) none) ∙ sym (over 1 place)))
  stays (suc depth) place whole =
      over (suc depth) place ∙ (ap (node place) (stay_all depth (inputs place) (λ p. stays depth p) (same_below depth place whole)) ∙ sym (over (suc (suc depth)) place))

  -- a tree is whole, or has more nodes than it is deep
  deep : (depth root : ℕ) → IsWhole links depth root ⊎ (suc (suc depth) ≤ size (suc depth) root)
  deep zero root = elim (grows zero root) [
    | inl whole ↦ inl whole
    | inr more ↦ let one : size zero root ≡ 1 = rw (leaf root) refl in inr (omega arith)
  ]
  deep (suc depth) root = elim (deep depth root) [
    | inl whole ↦ inl (stays depth root whole)
    | inr many ↦ elim (grows (suc depth) root) [
      | inl whole ↦ inl whole
      | inr more ↦ inr (omega arith)
    ]
  ]

  -- a whole tree has all inputs of its node
  pub whole_inputs : (depth place : ℕ) → IsWhole links depth place → inputs_below links depth place ≡ get_or links place []
  whole_inputs zero place whole = sym (leaf_inputs place whole)
  whole_inputs (suc depth) place whole = refl

  at_input : (depth : ℕ) (places : List ℕ) (i d : ℕ) → below depth places ≡ below (suc depth) places → i < length places → IsWhole links depth (get_or places i d)
  at_input depth [] i d same h = absurd (omega arith)
  at_input depth (p ∷ places) zero d same h = cc
  at_input depth (p ∷ places) (suc i) d same h =
      let others : below depth places ≡ below (suc depth) places = cc in
      at_input depth places i d others (omega arith)

  -- and those are whole
  pub whole_below : (depth place i d : ℕ) → IsWhole links depth place → i < length (inputs_below links depth place) → IsWhole links (depth - 1) (get_or (inputs_below links depth place) i d)
  whole_below zero place i d whole h = absurd (omega arith)
  whole_below (suc depth) place i d whole h = rw sub-one (at_input depth (get_or links place []) i d (same_below depth place whole) h)

pub flow_whole : (root : ℕ) (links : List (List ℕ)) → used_once root links ≡ Ok tt → root < length links → AreWithin links → IsWhole links (length links - 1) root
flow_whole root links fine small within = elim (deep links (length links - 1) root) [
  | inl whole ↦ whole
  | inr many ↦
      let few = few_below root links fine small within (suc (length links - 1)) in
      absurd (omega arith)
]
