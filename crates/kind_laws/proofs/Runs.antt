-- In a list of items that ascend by their keys, those whose key ties with a given one are one run.
use Rattle.std.proofs.Common.{◌≡◌, ◌∙◌, ℕ, ◌+◌, ◌<◌, ◌≤◌, List, [], ◌∷◌, ◌++◌, length, take, drop, filter, get_or, All, Bool, true, false, not, ◌&&◌, ◌||◌, cond, refl, ap, sym, subst, arith}
use Rattle.std.specs.List.{list_any, prefix_len}
use Rattle.std.specs.List.Sorted.{IsPermutation, IsSortedBy, IsStableBy, IsPartitionPoint, IsPartitionedBy, ties}
use Rattle.std.specs.Cmp.{IsTotalOrder}
use Rattle.std.specs.Ordering.{is_lt, is_eq, is_le, ordering_index, ordering_reverse}
use Rattle.std.specs.declared.cmp.Ordering.{Ordering}
use Rattle.std.specs.declared.cmp.Ordering.TheVariants.{Less, Equal, Greater}
use Rattle.std.proofs.lemmas.List.{take-append-drop, append-nil, length-take, length-drop, get_or-take, get_or-drop}
use Rattle.std.proofs.lemmas.List.Elements.{filter-append, filter_agree, All-head, All-tail}
use Rattle.std.proofs.lemmas.List.Sorted.{list_any-IsPermutation, searchable_from_sorted, IsNonDecreasingBy-drop}
use Rattle.std.proofs.lemmas.List.Sums.{prefix_len_passes, prefix_len_stops}
use Rattle.std.proofs.lemmas.Cmp.{alike_right}

-- what passes nowhere, and what passes everywhere
pub filter_none : {X : Type 0} (p : X → Bool) (xs : List X) → All (λ x. p x ≡ false) xs → filter p xs ≡ []
filter_none p [] all = refl
filter_none p (x ∷ xs) all =
    ap (λ b. cond b (x ∷ filter p xs) (filter p xs)) (All-head (λ y. p y ≡ false) x xs all)
    ∙ filter_none p xs (All-tail (λ y. p y ≡ false) x xs all)

pub filter_whole : {X : Type 0} (p : X → Bool) (xs : List X) → All (λ x. p x ≡ true) xs → filter p xs ≡ xs
filter_whole p [] all = refl
filter_whole p (x ∷ xs) all =
    ap (λ b. cond b (x ∷ filter p xs) (filter p xs)) (All-head (λ y. p y ≡ true) x xs all)
    ∙ ap (λ ys. x ∷ ys) (filter_whole p xs (All-tail (λ y. p y ≡ true) x xs all))

-- of what passes somewhere there is one
any_step : {X : Type 0} (p : X → Bool) (x : X) (xs : List X) (b : Bool) → p x ≡ b → ((b || list_any p xs) ≡ true)
    → (list_any p xs ≡ true → (y : X) × (p y ≡ true)) → (y : X) × (p y ≡ true)
any_step p x xs true e h next = (x, e)
any_step p x xs false e h next = next h

any_one : {X : Type 0} (p : X → Bool) (xs : List X) → list_any p xs ≡ true → (x : X) × (p x ≡ true)
any_one p [] h = absurd cc
any_one p (x ∷ xs) h = any_step p x xs (p x) refl h (any_one p xs)

none_head : (a b : Bool) → (a || b) ≡ false → a ≡ false
none_head false b h = refl
none_head true b h = absurd cc

none_tail : (a b : Bool) → (a || b) ≡ false → b ≡ false
none_tail false b h = h
none_tail true b h = absurd cc

filter_not_any : {X : Type 0} (p : X → Bool) (xs : List X) → list_any p xs ≡ false → filter p xs ≡ []
filter_not_any p [] h = refl
filter_not_any p (x ∷ xs) h =
    ap (λ b. cond b (x ∷ filter p xs) (filter p xs)) (none_head (p x) (list_any p xs) h)
    ∙ filter_not_any p xs (none_tail (p x) (list_any p xs) h)

-- what ties with something that is level with k is level with k
pub tied_level : (r : Ordering) → (not (is_lt (ordering_reverse r)) && not (is_lt r)) ≡ is_eq r
tied_level Less = refl
tied_level Equal = refl
tied_level Greater = refl

equal_from : (r : Ordering) → is_eq r ≡ true → r ≡ Equal
equal_from Less h = absurd cc
equal_from Equal h = refl
equal_from Greater h = absurd cc

-- Less, Equal and Greater in this order
lower_lt : (a b : Ordering) → ordering_index a ≤ ordering_index b → is_lt b ≡ true → is_lt a ≡ true
lower_lt Less b h t = refl
lower_lt Equal Less h t = absurd (omega (arith, h))
lower_lt Equal Equal h t = absurd cc
lower_lt Equal Greater h t = absurd cc
lower_lt Greater Less h t = absurd (omega (arith, h))
lower_lt Greater Equal h t = absurd cc
lower_lt Greater Greater h t = absurd cc

lower_le : (a b : Ordering) → ordering_index a ≤ ordering_index b → is_le b ≡ true → is_le a ≡ true
lower_le Less b h t = refl
lower_le Equal b h t = refl
lower_le Greater Less h t = absurd (omega (arith, h))
lower_le Greater Equal h t = absurd (omega (arith, h))
lower_le Greater Greater h t = absurd cc

lt_not_eq : (r : Ordering) → is_lt r ≡ true → is_eq r ≡ false
lt_not_eq Less h = refl
lt_not_eq Equal h = absurd cc
lt_not_eq Greater h = refl

gt_not_eq : (r : Ordering) → is_le r ≡ false → is_eq r ≡ false
gt_not_eq Less h = refl
gt_not_eq Equal h = absurd cc
gt_not_eq Greater h = refl

between_eq : (r : Ordering) → is_lt r ≡ false → is_le r ≡ true → is_eq r ≡ true
between_eq Less h g = absurd cc
between_eq Equal h g = refl
between_eq Greater h g = absurd cc

-- what holds up to a place holds of what stands before it, and what holds from there on of the rest
pub all_before : {X : Type 0} (P : X → Type 0) (xs : List X) (n : ℕ) → ((k : ℕ) (d : X) → 0 ≤ k → k < n → P (get_or xs k d)) → All P (take n xs)
all_before P xs n h k d small =
    let long = length-take n xs in
    let inside : k < n = omega (arith, long, small) in
    subst P (sym (get_or-take n xs k d inside)) (h k d (omega arith) inside)

pub all_behind : {X : Type 0} (P : X → Type 0) (xs : List X) (n : ℕ) → ((k : ℕ) (d : X) → n ≤ k → k < length xs → P (get_or xs k d)) → All P (drop n xs)
all_behind P xs n h k d small =
    let long = length-drop n xs in
    subst P (sym (get_or-drop n xs k d)) (h (n + k) d (omega arith) (omega (arith, long, small)))

stays_false : (a b : Bool) → (b ≡ true → a ≡ true) → a ≡ false → b ≡ false
stays_false a false h f = refl
stays_false a true h f = sym (h refl) ∙ f

-- where all that passes stands first, the first that fails parts it from the rest
pub prefix_parts : {X : Type 0} (p : X → Bool) (xs : List X) → IsPartitionedBy p xs
    → IsPartitionPoint (λ y. p y ≡ true) (λ y. p y ≡ false) xs (prefix_len p xs)
prefix_parts p xs parted = (
  λ k d from small. prefix_len_passes p xs k d small,
  λ k d from small. stays_false (p (get_or xs (prefix_len p xs) d)) (p (get_or xs k d)) (parted (prefix_len p xs) k d from small)
      (prefix_len_stops p xs d (omega (arith, from, small))),
)

module _ {X K : Type 0} {R : K → K → Ordering} (o : IsTotalOrder R) (key : X → K) where
  -- the premises of both searches
  pub lower_first : (xs : List X) (k : K) → IsSortedBy (λ a b. is_lt (R (key a) (key b))) xs → IsPartitionedBy (λ y. is_lt (R (key y) k)) xs
  lower_first xs k up i j d h small = lower_lt _ _ (searchable_from_sorted o key xs k up i j d h small)

  pub upto_first : (xs : List X) (k : K) (n : ℕ) → IsSortedBy (λ a b. is_lt (R (key a) (key b))) xs → IsPartitionedBy (λ y. is_le (R (key y) k)) (drop n xs)
  upto_first xs k n up i j d h small =
      lower_le _ _ (IsNonDecreasingBy-drop (λ y. ordering_index (R (key y) k)) n xs (searchable_from_sorted o key xs k up) i j d h small)

  -- between both places stands what is level with k
  pub run_is : (xs : List X) (k : K) (first count : ℕ)
      → IsPartitionPoint (λ y. is_lt (R (key y) k) ≡ true) (λ y. is_lt (R (key y) k) ≡ false) xs first
      → IsPartitionPoint (λ y. is_le (R (key y) k) ≡ true) (λ y. is_le (R (key y) k) ≡ false) (drop first xs) count
      → take count (drop first xs) ≡ filter (λ y. is_eq (R (key y) k)) xs
  run_is xs k first count lower upper =
      let level : X → Bool = λ y. is_eq (R (key y) k) in
      let rest : List X = drop first xs in
      let before : filter level (take first xs) ≡ [] =
      filter_none level (take first xs) (all_before (λ y. level y ≡ false) xs first (λ i d a b. lt_not_eq _ (lower.0 i d a b))) in
      let behind : filter level (drop count rest) ≡ [] =
      filter_none level (drop count rest) (all_behind (λ y. level y ≡ false) rest count (λ i d a b. gt_not_eq _ (upper.1 i d a b))) in
      let upto : All (λ y. is_le (R (key y) k) ≡ true) (take count rest) = all_before (λ y. is_le (R (key y) k) ≡ true) rest count upper.0 in
      let from : All (λ y. is_lt (R (key y) k) ≡ false) rest = all_behind (λ y. is_lt (R (key y) k) ≡ false) xs first lower.1 in
      let inside : filter level (take count rest) ≡ take count rest =
      filter_whole level (take count rest) (λ i d small.
      let long = length-take count rest in
      let at : get_or (take count rest) i d ≡ get_or rest i d = get_or-take count rest i d (omega (arith, long, small)) in
      between_eq (R (key (get_or (take count rest) i d)) k)
      (subst (λ y. is_lt (R (key y) k) ≡ false) (sym at) (from i d (omega (arith, long, small)))) (upto i d small)) in
      sym (ap (filter level) (sym (take-append-drop first xs)) ∙ filter-append level (take first xs) rest
      ∙ ap (λ ys. ys ++ filter level rest) before
      ∙ ap (filter level) (sym (take-append-drop count rest)) ∙ filter-append level (take count rest) (drop count rest)
      ∙ ap (λ ys. filter level (take count rest) ++ ys) behind ∙ append-nil _ ∙ inside)

  -- a stable sort keeps the order of what is level with k
  level_ties : (k : K) (x : X) → is_eq (R (key x) k) ≡ true → (y : X) → ties (λ a b. is_lt (R (key a) (key b))) x y ≡ is_eq (R (key y) k)
  level_ties k x h y =
      let e : R (key x) k ≡ Equal = equal_from _ h in
      let one : R (key x) (key y) ≡ ordering_reverse (R (key y) k) = o.congr (key x) k (key y) e ∙ o.antisymm k (key y) in
      let other : R (key y) (key x) ≡ R (key y) k = alike_right o (key x) k (key y) e in
      ap (λ r. not (is_lt r) && not (is_lt (R (key y) (key x)))) one
      ∙ ap (λ r. not (is_lt (ordering_reverse (R (key y) k))) && not (is_lt r)) other ∙ tied_level (R (key y) k)

  stable_by : (xs ys : List X) (k : K) → IsPermutation xs ys → IsStableBy (λ a b. is_lt (R (key a) (key b))) xs ys
      → (b : Bool) → list_any (λ y. is_eq (R (key y) k)) ys ≡ b
      → filter (λ y. is_eq (R (key y) k)) ys ≡ filter (λ y. is_eq (R (key y) k)) xs
  stable_by xs ys k moved stable true some =
      let one = any_one (λ y. is_eq (R (key y) k)) ys some in
      let same = level_ties k one.0 one.1 in
      sym (filter_agree _ _ same ys) ∙ stable one.0 ∙ filter_agree _ _ same xs
  stable_by xs ys k moved stable false none =
      filter_not_any _ ys none ∙ sym (filter_not_any _ xs (list_any-IsPermutation _ xs ys moved ∙ none))

  pub stable_level : (xs ys : List X) (k : K) → IsPermutation xs ys → IsStableBy (λ a b. is_lt (R (key a) (key b))) xs ys
      → filter (λ y. is_eq (R (key y) k)) ys ≡ filter (λ y. is_eq (R (key y) k)) xs
  stable_level xs ys k moved stable = stable_by xs ys k moved stable (list_any (λ y. is_eq (R (key y) k)) ys) refl
