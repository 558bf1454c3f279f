-- Putting one item after the other into its place sorts them, and no other list is that.
use Rattle.std.proofs.Common.{◌≡◌, ◌∙◌, ℕ, zero, suc, ◌+◌, ◌<◌, ◌≤◌, List, [], ◌∷◌, length, filter, get_or, Bool, true, false, not, ◌&&◌, cond, refl, ap, sym, subst, arith}
use Rattle.std.specs.Prelude.{⊤}
use Rattle.std.specs.Cmp.{IsStrictWeakOrder}
use Rattle.std.specs.List.Sorted.{IsPermutation, IsSortedBy, IsStableBy, ties}
use Rattle.std.proofs.lemmas.List.Sorted.{sorted_far, IsPermutation-refl, IsPermutation-trans, IsPermutation-cons, IsPermutation-middle, length_permutation}
use Rattle.list_algebra.specs.Bags.{Tuple}
use Rattle.list_algebra.specs.Sorting.{ascending, comes_before, put}
use Rattle.list_algebra.proofs.Comparing.{rows_ranked}

-- ---- lists of which the heads are known

heads_agree : {X : Type 0} (x y : X) (xs ys : List X) → x ∷ xs ≡ y ∷ ys → x ≡ y
heads_agree x y xs ys h = cc

tails_agree : {X : Type 0} (x y : X) (xs ys : List X) → x ∷ xs ≡ y ∷ ys → xs ≡ ys
tails_agree x y xs ys h = cc

-- the same item before both, or before neither
same_behind : {X : Type 0} (x : X) (xs ys : List X) (b : Bool) → cond b (x ∷ xs) xs ≡ cond b (x ∷ ys) ys → xs ≡ ys
same_behind x xs ys true h = tails_agree x x xs ys h
same_behind x xs ys false h = h

-- two items change places where not both are kept
either_first : {X : Type 0} (x y : X) (l : List X) (a b : Bool) → (a ≡ true → b ≡ true → ⊥)
    → cond b (y ∷ cond a (x ∷ l) l) (cond a (x ∷ l) l) ≡ cond a (x ∷ cond b (y ∷ l) l) (cond b (y ∷ l) l)
either_first x y l true true h = absurd (h refl refl)
either_first x y l true false h = refl
either_first x y l false true h = refl
either_first x y l false false h = refl

-- ---- what ties

both_not : (a b : Bool) → (not a && not b) ≡ true → (a ≡ false) × (b ≡ false)
both_not true b h = absurd cc
both_not false true h = absurd cc
both_not false false h = (refl, refl)

never : (b : Bool) → (b ≡ true → b ≡ false) → b ≡ false
never true h = h refl
never false h = refl

-- ---- any order

module _ {X : Type 0} (lt : X → X → Bool) (o : IsStrictWeakOrder lt) where
  -- items that ascend, and one more
  abbrev place : X → List X → List X
  place t [] = t ∷ []
  place t (first ∷ rest) = cond (lt first t) (first ∷ place t rest) (t ∷ first ∷ rest)

  abbrev arranged : List X → List X
  arranged [] = []
  arranged (first ∷ rest) = place first (arranged rest)

  -- the items are there
  place_one : (t first : X) (rest : List X) (b : Bool) → IsPermutation (t ∷ rest) (place t rest)
      → IsPermutation (t ∷ first ∷ rest) (cond b (first ∷ place t rest) (t ∷ first ∷ rest))
  place_one t first rest true h =
      IsPermutation-trans (t ∷ first ∷ rest) (first ∷ t ∷ rest) (first ∷ place t rest) (IsPermutation-middle (t ∷ []) first rest)
      (IsPermutation-cons first (t ∷ rest) (place t rest) h)
  place_one t first rest false h = IsPermutation-refl (t ∷ first ∷ rest)

  place_moves : (t : X) (rest : List X) → IsPermutation (t ∷ rest) (place t rest)
  place_moves t [] = IsPermutation-refl (t ∷ [])
  place_moves t (first ∷ rest) = place_one t first rest (lt first t) (place_moves t rest)

  pub arranged_moves : (xs : List X) → IsPermutation xs (arranged xs)
  arranged_moves [] = IsPermutation-refl []
  arranged_moves (x ∷ xs) =
      IsPermutation-trans (x ∷ xs) (x ∷ arranged xs) (place x (arranged xs)) (IsPermutation-cons x xs (arranged xs) (arranged_moves xs))
      (place_moves x (arranged xs))

  -- no item of a list is less than this one
  abbrev NoneLess : X → List X → Type 0
  NoneLess x [] = ⊤
  NoneLess x (y ∷ ys) = (lt y x ≡ false) × NoneLess x ys

  -- no item is less than an earlier one
  abbrev Ascends : List X → Type 0
  Ascends [] = ⊤
  Ascends (x ∷ xs) = NoneLess x xs × Ascends xs

  none_less_from : (x : X) (xs : List X) → ((k : ℕ) → k < length xs → lt (get_or xs k x) x ≡ false) → NoneLess x xs
  none_less_from x [] h = tt
  none_less_from x (y ∷ ys) h = (h 0 (omega arith), none_less_from x ys (λ k p. h (suc k) (omega arith)))

  ascends_from : (xs : List X) → ((i j : ℕ) (d : X) → i ≤ j → j < length xs → lt (get_or xs j d) (get_or xs i d) ≡ false) → Ascends xs
  ascends_from [] h = tt
  ascends_from (x ∷ xs) h =
      (none_less_from x xs (λ k p. h 0 (suc k) x (omega arith) (omega arith)), ascends_from xs (λ i j d p q. h (suc i) (suc j) d (omega arith) (omega arith)))

  ascends_of : (xs : List X) → IsSortedBy lt xs → Ascends xs
  ascends_of xs up = ascends_from xs (sorted_far lt o xs up)

  next_not_less : (xs : List X) → Ascends xs → (k : ℕ) (d : X) → suc k < length xs → lt (get_or xs (suc k) d) (get_or xs k d) ≡ false
  next_not_less [] h k d p = absurd (omega arith)
  next_not_less (x ∷ []) h k d p = absurd (omega arith)
  next_not_less (x ∷ y ∷ ys) h zero d p = h.0.0
  next_not_less (x ∷ y ∷ ys) h (suc k) d p = next_not_less (y ∷ ys) h.1 k d (omega arith)

  sorted_of : (xs : List X) → Ascends xs → IsSortedBy lt xs
  sorted_of xs h k d low high =
      let next : k + 1 ≡ suc k = omega arith in
      ap (λ n. lt (get_or xs n d) (get_or xs k d)) next ∙ next_not_less xs h k d (omega arith)

  -- an item at its place
  none_less_further : (t first : X) (rest : List X) → lt first t ≡ false → NoneLess first rest → NoneLess t rest
  none_less_further t first [] e h = tt
  none_less_further t first (y ∷ ys) e h = (o.chain y first t h.0 e, none_less_further t first ys e h.1)

  none_less_one : (x t first : X) (rest : List X) (b : Bool) → lt t x ≡ false → NoneLess x (first ∷ rest) → NoneLess x (place t rest)
      → NoneLess x (cond b (first ∷ place t rest) (t ∷ first ∷ rest))
  none_less_one x t first rest true e h next = (h.0, next)
  none_less_one x t first rest false e h next = (e, h)

  none_less_place : (x t : X) (rest : List X) → lt t x ≡ false → NoneLess x rest → NoneLess x (place t rest)
  none_less_place x t [] e h = (e, tt)
  none_less_place x t (first ∷ rest) e h = none_less_one x t first rest (lt first t) e h (none_less_place x t rest e h.1)

  ascends_one : (t first : X) (rest : List X) (b : Bool) → lt first t ≡ b → Ascends (first ∷ rest) → Ascends (place t rest)
      → Ascends (cond b (first ∷ place t rest) (t ∷ first ∷ rest))
  ascends_one t first rest true e h next = (none_less_place first t rest (o.one_way first t e) h.0, next)
  ascends_one t first rest false e h next = ((e, none_less_further t first rest e h.0), h)

  ascends_place : (t : X) (rest : List X) → Ascends rest → Ascends (place t rest)
  ascends_place t [] h = (tt, tt)
  ascends_place t (first ∷ rest) h = ascends_one t first rest (lt first t) refl h (ascends_place t rest h.1)

  arranged_ascends : (xs : List X) → Ascends (arranged xs)
  arranged_ascends [] = tt
  arranged_ascends (x ∷ xs) = ascends_place x (arranged xs) (arranged_ascends xs)

  pub arranged_sorted : (xs : List X) → IsSortedBy lt (arranged xs)
  arranged_sorted xs = sorted_of (arranged xs) (arranged_ascends xs)

  -- an item passes over such as are less, and what ties with both would make them tie
  not_both : (x t first : X) → lt first t ≡ true → ties lt x t ≡ true → ties lt x first ≡ true → ⊥
  not_both x t first e p q =
      let above = both_not (lt x t) (lt t x) p in
      let below = both_not (lt x first) (lt first x) q in
      let no : lt first t ≡ false = o.chain first x t below.1 above.0 in
      absurd cc

  kept_one : (x t first : X) (rest : List X) (b : Bool) → lt first t ≡ b
      → filter (ties lt x) (place t rest) ≡ filter (ties lt x) (t ∷ rest)
      → filter (ties lt x) (cond b (first ∷ place t rest) (t ∷ first ∷ rest)) ≡ filter (ties lt x) (t ∷ first ∷ rest)
  kept_one x t first rest true e h =
      ap (λ l. cond (ties lt x first) (first ∷ l) l) h
      ∙ either_first t first (filter (ties lt x) rest) (ties lt x t) (ties lt x first) (not_both x t first e)
  kept_one x t first rest false e h = refl

  kept_place : (x t : X) (rest : List X) → filter (ties lt x) (place t rest) ≡ filter (ties lt x) (t ∷ rest)
  kept_place x t [] = refl
  kept_place x t (first ∷ rest) = kept_one x t first rest (lt first t) refl (kept_place x t rest)

  pub arranged_stable : (xs : List X) → IsStableBy lt xs (arranged xs)
  arranged_stable [] x = refl
  arranged_stable (y ∷ ys) x = kept_place x y (arranged ys) ∙ ap (λ l. cond (ties lt x y) (y ∷ l) l) (arranged_stable ys x)

  -- what is kept of a list first is not less than what none of the list is less than
  first_one : (x y w : X) (ws rest : List X) (b : Bool) → lt w x ≡ false → cond b (w ∷ ws) ws ≡ y ∷ rest
      → (ws ≡ y ∷ rest → lt y x ≡ false) → lt y x ≡ false
  first_one x y w ws rest true e h next = subst (λ v. lt v x ≡ false) (heads_agree w y ws rest h) e
  first_one x y w ws rest false e h next = next h

  first_not_less : (p : X → Bool) (x y : X) (l rest : List X) → NoneLess x l → filter p l ≡ y ∷ rest → lt y x ≡ false
  first_not_less p x y [] rest h e = absurd cc
  first_not_less p x y (w ∷ ws) rest h e =
      first_one x y w (filter p ws) rest (p w) h.0 e (λ f. first_not_less p x y ws rest h.1 f)

  itself : (x : X) → lt x x ≡ false
  itself x = never (lt x x) (o.one_way x x)

  ties_both : (x y : X) → lt x y ≡ false → lt y x ≡ false → ties lt x y ≡ true
  ties_both x y e f = λ i. not (e i) && not (f i)

  kept_first : (x y : X) (ys : List X) → ties lt x y ≡ true → filter (ties lt x) (y ∷ ys) ≡ y ∷ filter (ties lt x) ys
  kept_first x y ys e = ap (λ b. cond b (y ∷ filter (ties lt x) ys) (filter (ties lt x) ys)) e

  -- where both heads have what ties with them in the other list
  head_not_less : (y z : X) (ys zs : List X) → NoneLess z zs → filter (ties lt y) (y ∷ ys) ≡ filter (ties lt y) (z ∷ zs) → lt y z ≡ false
  head_not_less y z ys zs h e =
      first_not_less (ties lt y) z y (z ∷ zs) (filter (ties lt y) ys) (itself z, h)
      (sym e ∙ kept_first y y ys (ties_both y y (itself y) (itself y)))

  same_heads : (y z : X) (ys zs : List X) → NoneLess y ys → NoneLess z zs
      → ((x : X) → filter (ties lt x) (y ∷ ys) ≡ filter (ties lt x) (z ∷ zs)) → y ≡ z
  same_heads y z ys zs h k e =
      let up = head_not_less y z ys zs k (e y) in
      let down = head_not_less z y zs ys h (sym (e z)) in
      heads_agree y z (filter (ties lt y) ys) (filter (ties lt y) zs)
      (sym (kept_first y y ys (ties_both y y (itself y) (itself y))) ∙ e y ∙ kept_first y z zs (ties_both y z up down))

  -- lists that ascend and have the same items in the same order wherever items tie
  same_from_ties : (ys zs : List X) → length ys ≡ length zs → Ascends ys → Ascends zs
      → ((x : X) → filter (ties lt x) ys ≡ filter (ties lt x) zs) → ys ≡ zs
  same_from_ties [] [] long h k e = refl
  same_from_ties [] (z ∷ zs) long h k e = absurd (omega arith)
  same_from_ties (y ∷ ys) [] long h k e = absurd (omega arith)
  same_from_ties (y ∷ ys) (z ∷ zs) long h k e =
      let head : y ≡ z = same_heads y z ys zs h.0 k.0 e in
      let tails : ys ≡ zs = same_from_ties ys zs (omega arith) h.1 k.1
      (λ x. same_behind y (filter (ties lt x) ys) (filter (ties lt x) zs) (ties lt x y)
      (e x ∙ ap (λ v. filter (ties lt x) (v ∷ zs)) (sym head))) in
      ap (λ v. v ∷ ys) head ∙ ap (λ l. z ∷ l) tails

  pub arranged_only : (xs made : List X) → IsPermutation xs made → IsSortedBy lt made → IsStableBy lt xs made → made ≡ arranged xs
  arranged_only xs made moved up stable =
      same_from_ties made (arranged xs) (length_permutation xs made moved ∙ sym (length_permutation xs (arranged xs) (arranged_moves xs)))
      (ascends_of made up) (arranged_ascends xs) (λ x. stable x ∙ sym (arranged_stable xs x))

-- ---- rows, by columns

put_is : (cols : List ℕ) (t : Tuple) (rows : List Tuple) → put cols t rows ≡ place (comes_before cols) (rows_ranked cols) t rows
put_is cols t [] = refl
put_is cols t (first ∷ rest) = ap (λ l. cond (comes_before cols first t) (first ∷ l) (t ∷ first ∷ rest)) (put_is cols t rest)

ascending_is : (cols : List ℕ) (rows : List Tuple) → ascending cols rows ≡ arranged (comes_before cols) (rows_ranked cols) rows
ascending_is cols [] = refl
ascending_is cols (first ∷ rest) =
    ap (put cols first) (ascending_is cols rest) ∙ put_is cols first (arranged (comes_before cols) (rows_ranked cols) rest)

pub ascending_moves : (cols : List ℕ) (rows : List Tuple) → IsPermutation rows (ascending cols rows)
ascending_moves cols rows =
    subst (IsPermutation rows) (sym (ascending_is cols rows)) (arranged_moves (comes_before cols) (rows_ranked cols) rows)

pub ascending_sorted : (cols : List ℕ) (rows : List Tuple) → IsSortedBy (comes_before cols) (ascending cols rows)
ascending_sorted cols rows =
    subst (IsSortedBy (comes_before cols)) (sym (ascending_is cols rows)) (arranged_sorted (comes_before cols) (rows_ranked cols) rows)

pub ascending_stable : (cols : List ℕ) (rows : List Tuple) → IsStableBy (comes_before cols) rows (ascending cols rows)
ascending_stable cols rows =
    subst (IsStableBy (comes_before cols) rows) (sym (ascending_is cols rows)) (arranged_stable (comes_before cols) (rows_ranked cols) rows)

pub ascending_only : (cols : List ℕ) (rows made : List Tuple) → IsPermutation rows made → IsSortedBy (comes_before cols) made
    → IsStableBy (comes_before cols) rows made → made ≡ ascending cols rows
ascending_only cols rows made moved up stable =
    arranged_only (comes_before cols) (rows_ranked cols) rows made moved up stable ∙ sym (ascending_is cols rows)
