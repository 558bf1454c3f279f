-- In the tree of a graph in which no node is an input twice, no node comes twice.
use Rattle.std.proofs.Common.{◌≡◌, ℕ, zero, suc, ◌+◌, ◌-◌, ◌<◌, ◌≤◌, ◌==◌, List, [], ◌∷◌, ◌++◌, length, map, get_or, set, replicate, count_by, cond, All, nat_lt, Option, Some, None, option_map, Ok, Bool, eq-eqb, refl, ap, sym, ◌∙◌, inl, inr, arith}
use Rattle.std.specs.List.{concat, sum_by}
use Rattle.std.proofs.lemmas.List.{get_or-set_other, get_or-replicate}
use Rattle.std.proofs.lemmas.List.Sums.{sum_by-append}
use Rattle.std.proofs.lemmas.Bool.{cases_lt, ltb-false}
use Rattle.std.proofs.lemmas.Bool.Decides.{eqb_tells}
use Rattle.std.proofs.lemmas.List.Elements.{All-nil, All-head, All-tail, All-append, All-cons}
use Rattle.list_algebra.specs.Trees.{trees_of, in_order, all_in_order}
use Rattle.flow_types.specs.Trees.{tree_below}
use Rattle.flow_types.specs.declared.fault.SchemaCause.TheVariants as cause
use Rattle.flow_types.specs.Names.{least, refused}
use Rattle.flow_types.specs.Graph.{ComeOnce, uses_of, used_once, fault_at, AreWithin, flow_tree}
use Rattle.flow_types.proofs.Columns.{least_fails}

-- how often the place comes
unfoldable pub times : ℕ → List ℕ → ℕ
times q places = count_by (λ p. p == q) places

pub times-append : (q : ℕ) (xs ys : List ℕ) → times q (xs ++ ys) ≡ times q xs + times q ys
unfolding times
times-append q xs ys = sum_by-append (λ p. cond (p == q) 1 0) xs ys

times-cons : (q x : ℕ) (xs : List ℕ) → times q (x ∷ xs) ≡ times q (x ∷ []) + times q xs
times-cons q x xs = times-append q (x ∷ []) xs

times-nil : (q : ℕ) → times q [] ≡ 0
unfolding times
times-nil q = refl

times-own : (q : ℕ) → times q (q ∷ []) ≡ 1
unfolding times
times-own q = rw (eq-eqb q q refl) refl

times-other : (q p : ℕ) → (p ≡ q → ⊥) → times q (p ∷ []) ≡ 0
unfolding times
times-other q p other = elim (eqb_tells p q) [ inl same ↦ absurd (other same.1) | inr differs ↦ rw differs.0 refl ]

times-is : (q : ℕ) (places : List ℕ) → times q places ≡ count_by (λ p. p == q) places
unfolding times
times-is q places = refl

-- how often it is an input of these
unfoldable as_input : List (List ℕ) → ℕ → List ℕ → ℕ
as_input links q places = sum_by (λ p. times q (get_or links p [])) places

as_input-append : (links : List (List ℕ)) (q : ℕ) (xs ys : List ℕ) → as_input links q (xs ++ ys) ≡ as_input links q xs + as_input links q ys
unfolding as_input
as_input-append links q xs ys = sum_by-append (λ p. times q (get_or links p [])) xs ys

as_input-one : (links : List (List ℕ)) (q x : ℕ) → as_input links q (x ∷ []) ≡ times q (get_or links x [])
unfolding as_input
as_input-one links q x = omega arith

as_input-nil : (links : List (List ℕ)) (q : ℕ) → as_input links q [] ≡ 0
unfolding as_input
as_input-nil links q = refl

-- with the inputs of one node taken away
without : (links : List (List ℕ)) (p : ℕ) (q : ℕ) → times q (concat links) ≡ times q (get_or links p []) + times q (concat (set links p []))
without [] p q = let none = times-nil q in omega arith
without (l ∷ links) zero q = times-append q l (concat links)
without (l ∷ links) (suc p) q =
    let own = without links p q in
    let all = times-append q l (concat links) in
    let less = times-append q l (concat (set links p [])) in
    omega arith

set_here : (links : List (List ℕ)) (p : ℕ) (xs : List ℕ) (q : ℕ) → times p xs ≡ 0 → as_input (set links p []) q xs ≡ as_input links q xs
set_here links p [] q none = as_input-nil (set links p []) q ∙ sym (as_input-nil links q)
set_here links p (x ∷ xs) q none =
    let split = times-cons p x xs in
    let fewer : times p xs ≡ 0 = omega arith in
    let other : x ≡ p → ⊥ = λ same. let own = times-own p in let here : times p (x ∷ []) ≡ 1 = rw same own in omega arith in
    let rest = set_here links p xs q fewer in
    let left = as_input-append (set links p []) q (x ∷ []) xs in
    let right = as_input-append links q (x ∷ []) xs in
    let one = as_input-one (set links p []) q x in
    let two = as_input-one links q x in
    let same : times q (get_or (set links p []) x []) ≡ times q (get_or links x []) = ap (times q) (get_or-set_other links p x [] [] other) in
    omega arith

abbrev IsOnce : List ℕ → Type 0
IsOnce xs = (q : ℕ) → times q xs ≤ 1

-- nodes that come once have no more inputs than there are
covers : (xs : List ℕ) (links : List (List ℕ)) (q : ℕ) → IsOnce xs → as_input links q xs ≤ times q (concat links)
covers [] links q once = let none = as_input-nil links q in omega arith
covers (x ∷ xs) links q once =
    let own = times-own x in
    let split = times-cons x x xs in
    let least = once x in
    let gone : times x xs ≡ 0 = omega arith in
    let others : IsOnce xs = λ k. let more = times-cons k x xs in let all = once k in omega arith in
    let rest = covers xs (set links x []) q others in
    let same = set_here links x xs q gone in
    let sum = as_input-append links q (x ∷ []) xs in
    let one = as_input-one links q x in
    let all = without links x q in
    omega arith

module _ (links : List (List ℕ)) (q : ℕ) where
  all_below : ℕ → List ℕ → List ℕ
  all_below depth places = all_in_order (trees_of (map (tree_below links depth) places))

  -- the nodes one level deeper are the place itself and the inputs of those before
  abbrev Level : ℕ → ℕ → Type 0
  Level depth place = times q (in_order (tree_below links (suc depth) place)) ≡ times q (place ∷ []) + as_input links q (in_order (tree_below links depth place))

  leaves : (places : List ℕ) → all_below zero places ≡ places
  unfolding all_below tree_below
  leaves [] = refl
  leaves (p ∷ places) = ap (λ ps. p ∷ ps) (leaves places)

  none_below : (depth : ℕ) → all_below depth [] ≡ []
  unfolding all_below
  none_below depth = refl

  more_below : (depth p : ℕ) (places : List ℕ) → all_below depth (p ∷ places) ≡ in_order (tree_below links depth p) ++ all_below depth places
  unfolding all_below
  more_below depth p places = refl

  at_place : (depth place : ℕ) → in_order (tree_below links (suc depth) place) ≡ all_below depth (get_or links place []) ++ place ∷ []
  unfolding all_below tree_below
  at_place depth place = refl

  alone : (place : ℕ) → in_order (tree_below links zero place) ≡ place ∷ []
  unfolding tree_below
  alone place = refl

  levels : (depth : ℕ) (places : List ℕ) → ((p : ℕ) → Level depth p) → times q (all_below (suc depth) places) ≡ times q places + as_input links q (all_below depth places)
  levels depth [] level =
      rw (none_below (suc depth), none_below depth) (let none = as_input-nil links q in omega arith)
  levels depth (p ∷ places) level =
      let here = level p in
      let rest = levels depth places level in
      let split = times-cons q p places in
      let deep = times-append q (in_order (tree_below links (suc depth) p)) (all_below (suc depth) places) in
      let flat = as_input-append links q (in_order (tree_below links depth p)) (all_below depth places) in
      rw (more_below (suc depth) p places, more_below depth p places) (omega arith)

  level : (depth place : ℕ) → Level depth place
  level zero place =
      let own = times-append q (get_or links place []) (place ∷ []) in
      let one = as_input-one links q place in
      rw (at_place zero place, leaves (get_or links place []), alone place) (omega arith)
  level (suc depth) place =
      let places = get_or links place [] in
      let rest = levels depth places (λ p. level depth p) in
      let deep = times-append q (all_below (suc depth) places) (place ∷ []) in
      let flat = as_input-append links q (all_below depth places) (place ∷ []) in
      let one = as_input-one links q place in
      rw (at_place (suc depth) place, at_place depth place) (omega arith)

-- a tree in whose graph no node is used twice has each node once
once_below : (links : List (List ℕ)) (root : ℕ) → IsOnce (root ∷ concat links) → (depth : ℕ) → IsOnce (in_order (tree_below links depth root))
once_below links root used zero q =
    let all = used q in
    let split = times-cons q root (concat links) in
    rw (alone links q root) (omega arith)
once_below links root used (suc depth) q =
    let all = used q in
    let split = times-cons q root (concat links) in
    let here = level links q depth root in
    let few = covers (in_order (tree_below links depth root)) links q (once_below links root used depth) in
    omega arith

-- Places that are nodes.

abbrev Below : ℕ → List ℕ → Type 0
Below n places = All (λ p. p < n) places

never : (n q : ℕ) (places : List ℕ) → Below n places → n ≤ q → times q places ≡ 0
never n q [] below past = times-nil q
never n q (p ∷ places) below past =
    let here : p < n = All-head (λ p. p < n) p places below in
    let rest = never n q places (All-tail (λ p. p < n) p places below) past in
    let split = times-cons q p places in
    let other = times-other q p (λ same. let h : q < n = rw (← same) here in omega arith) in
    omega arith

within_concat : (n : ℕ) (links : List (List ℕ)) → All (λ inputs. Below n inputs) links → Below n (concat links)
within_concat n [] within = All-nil (λ p. p < n)
within_concat n (inputs ∷ links) within =
    All-append (λ p. p < n) inputs (concat links) (All-head (λ places. Below n places) inputs links within)
    (within_concat n links (All-tail (λ places. Below n places) inputs links within))

not_again : (n : ℕ) (test : ℕ → Bool) (o : Option ℕ) → least n test ≡ o → refused (option_map (λ place. fault_at place cause.UsedTwice) (least n test)) ≡ Ok tt → least n test ≡ None
not_again n test None is fine = is
not_again n test (Some k) is fine = let wrong = rw is at fine in absurd (cc)

-- what isn't used twice is used once at most
used_are_once : (root : ℕ) (links : List (List ℕ)) → used_once root links ≡ Ok tt → root < length links → AreWithin links → IsOnce (root ∷ concat links)
used_are_once root links fine small within q = elim (cases_lt q (length links)) [
  | inl less ↦
      let test : ℕ → Bool = λ place. nat_lt 1 (uses_of root links place) in
      let none = not_again (length links) test _ refl fine in
      let fails = least_fails (length links) test q less none in
      rw (times-is q (root ∷ concat links)) (ltb-false 1 (uses_of root links q) fails)
  | inr past ↦
      let none = never (length links) q (root ∷ concat links) (All-cons (λ p. p < length links) root (concat links) small (within_concat (length links) links within)) past in
      omega arith
]

pub tree_once : (root : ℕ) (links : List (List ℕ)) → used_once root links ≡ Ok tt → root < length links → AreWithin links → ComeOnce (in_order (flow_tree root links))
unfolding times
tree_once root links fine small within = once_below links root (used_are_once root links fine small within) (length links - 1)

-- Places of nodes that come once are no more than there are nodes.

below_input : (n : ℕ) (links : List (List ℕ)) (place : ℕ) → All (λ inputs. Below n inputs) links → Below n (get_or links place [])
below_input n [] place within = All-nil (λ p. p < n)
below_input n (inputs ∷ links) zero within = All-head (λ places. Below n places) inputs links within
below_input n (inputs ∷ links) (suc place) within = below_input n links place (All-tail (λ places. Below n places) inputs links within)

module _ (n : ℕ) (links : List (List ℕ)) (within : All (λ inputs. Below n inputs) links) where
  below_trees : (depth : ℕ) (places : List ℕ) → ((p : ℕ) → p < n → Below n (in_order (tree_below links depth p))) → Below n places → Below n (all_below links 0 depth places)
  below_trees depth [] tree small = rw (none_below links 0 depth) (All-nil (λ p. p < n))
  below_trees depth (p ∷ places) tree small =
      rw (more_below links 0 depth p places)
      (All-append (λ p. p < n) (in_order (tree_below links depth p)) (all_below links 0 depth places)
      (tree p (All-head (λ p. p < n) p places small)) (below_trees depth places tree (All-tail (λ p. p < n) p places small)))

  below_tree : (depth place : ℕ) → place < n → Below n (in_order (tree_below links depth place))
  below_tree zero place small = rw (alone links 0 place) (All-cons (λ p. p < n) place [] small (All-nil (λ p. p < n)))
  below_tree (suc depth) place small =
      rw (at_place links 0 depth place)
      (All-append (λ p. p < n) (all_below links 0 depth (get_or links place [])) (place ∷ [])
      (below_trees depth (get_or links place []) (λ p less. below_tree depth p less) (below_input n links place within))
      (All-cons (λ p. p < n) place [] small (All-nil (λ p. p < n))))

ones_count : (n : ℕ) → times 0 (concat (replicate n (0 ∷ []))) ≡ n
ones_count zero = times-nil 0
ones_count (suc n) =
    let rest = ones_count n in
    let own = times-own 0 in
    let split = times-cons 0 0 (concat (replicate n (0 ∷ []))) in
    omega arith

ones_length : (n : ℕ) (xs : List ℕ) → Below n xs → as_input (replicate n (0 ∷ [])) 0 xs ≡ length xs
ones_length n [] below = as_input-nil (replicate n (0 ∷ [])) 0
ones_length n (x ∷ xs) below =
    let rest = ones_length n xs (All-tail (λ p. p < n) x xs below) in
    let one = as_input-one (replicate n (0 ∷ [])) 0 x in
    let here : times 0 (get_or (replicate n (0 ∷ [])) x []) ≡ 1 = ap (times 0) (get_or-replicate n x (0 ∷ []) [] (All-head (λ p. p < n) x xs below)) ∙ times-own 0 in
    let split = as_input-append (replicate n (0 ∷ [])) 0 (x ∷ []) xs in
    omega arith

few_once : (n : ℕ) (xs : List ℕ) → IsOnce xs → Below n xs → length xs ≤ n
few_once n xs once below =
    let all = covers xs (replicate n (0 ∷ [])) 0 once in
    let long = ones_length n xs below in
    let count = ones_count n in
    omega arith

-- however deep the tree is
pub few_below : (root : ℕ) (links : List (List ℕ)) → used_once root links ≡ Ok tt → root < length links → AreWithin links
    → (depth : ℕ) → length (in_order (tree_below links depth root)) ≤ length links
few_below root links fine small within depth =
    few_once (length links) _ (once_below links root (used_are_once root links fine small within) depth) (below_tree (length links) links within depth root small)

-- and its places are those of nodes
pub inside_tree : (root : ℕ) (links : List (List ℕ)) → root < length links → AreWithin links → All (λ p. p < length links) (in_order (flow_tree root links))
inside_tree root links small within = below_tree (length links) links within (length links - 1) root small
