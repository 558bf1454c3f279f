-- Rows of a bag in ascending order by all their columns: they are one list, whatever order they came in.
use Rattle.std.proofs.Common.{◌≡◌, ◌∙◌, ℕ, zero, suc, ◌<◌, ◌≤◌, ◌==◌, List, [], ◌∷◌, ◌++◌, length, filter, slice_get, All, Bool, true, false, not, ◌&&◌, ◌||◌, cond, Some, None, Contains, get_or, nat_lt, ltb-true, ltb-false, eqb-true, ◌⊎◌, inl, inr, refl, ap, sym, subst, arith}
use Rattle.std.specs.List.{cons_option, list_any}
use Rattle.std.specs.List.Sorted.{IsPermutation, ties}
use Rattle.std.specs.Ordering.{is_eq, is_lt, ordering_reverse}
use Rattle.std.specs.declared.cmp.Ordering.{Ordering}
use Rattle.std.specs.declared.cmp.Ordering.TheVariants.{Less, Equal, Greater}
use Rattle.std.proofs.lemmas.Bool.{cases_Bool, false≢true}
use Rattle.std.proofs.lemmas.List.Elements.{All-nil, All-cons, All-head, All-tail, All-contains, Contains-append_left, Contains-append_right, Contains-push, filter-append}
use Rattle.std.proofs.lemmas.List.Sorted.{IsPermutation-refl, IsPermutation-sym, IsPermutation-trans, IsPermutation-cons, IsPermutation-middle, All-permutation, sum_by-IsPermutation}
use Rattle.std.proofs.lemmas.Option.{slice_get-get_or, slice_get_past, same_Some}
use Rattle.tuple_schema.specs.declared.value.Value.{Value}
use Rattle.tuple_schema.specs.declared.value.Value.TheVariants as value
use Rattle.tuple_schema.specs.Tuples.{part}
use Rattle.list_algebra.specs.Bags.{Tuple, SameBag, same}
use Rattle.list_algebra.specs.Comparing.{compare_tuples}
use Rattle.list_algebra.specs.Joins.{below, others}
use Rattle.list_algebra.specs.Sorting.{ascending, comes_before, sort}
use Rattle.list_algebra.proofs.Same.{same-equal}
use Rattle.list_algebra.proofs.Counted.{cut, no_more}
use Rattle.list_algebra.proofs.Comparing.{same_level, tuples_total}
use Rattle.list_algebra.proofs.Sorted.{ascending_moves, ascending_only, ascending_sorted, ascending_stable}

-- ---- lists that are the same bag

-- one is a permutation of the other
pub bag_moves : (xs ys : List Tuple) → SameBag xs ys → IsPermutation xs ys
bag_moves [] ys h = subst (IsPermutation []) (sym (no_more ys h)) (IsPermutation-refl [])
bag_moves (x ∷ xs) ys h =
    let c = cut x xs ys h in
    subst (IsPermutation (x ∷ xs)) (sym c.whole)
    (IsPermutation-trans (x ∷ xs) (x ∷ (c.front ++ c.back)) (c.front ++ x ∷ c.back)
    (IsPermutation-cons x xs (c.front ++ c.back) (bag_moves xs (c.front ++ c.back) c.rest))
    (IsPermutation-sym (c.front ++ x ∷ c.back) (x ∷ (c.front ++ c.back)) (IsPermutation-middle c.front x c.back)))

-- and a permutation is the same bag
pub moved_bag : (xs ys : List Tuple) → IsPermutation xs ys → SameBag xs ys
moved_bag xs ys moved t = sym (sum_by-IsPermutation (λ z. cond (same t z) 1 0) xs ys moved)

-- a test that no two different ones of their tuples pass keeps the same of both
module _ (p : Tuple → Bool) (Fit : Tuple → Type 0) (one : (a b : Tuple) → Fit a → Fit b → p a ≡ true → p b ≡ true → a ≡ b) where
  passes_one : (x y : Tuple) (kept back : List Tuple) (b : Bool) → Fit x → Fit y → p x ≡ true → p y ≡ b
      → x ∷ (kept ++ back) ≡ kept ++ x ∷ back
      → x ∷ (cond b (y ∷ kept) kept ++ back) ≡ cond b (y ∷ kept) kept ++ x ∷ back
  passes_one x y kept back true fx fy px py h =
      let same : x ≡ y = one x y fx fy px py in
      ap (λ v. v ∷ y ∷ (kept ++ back)) same ∙ ap (λ v. y ∷ v ∷ (kept ++ back)) (sym same) ∙ ap (λ l. y ∷ l) h
  passes_one x y kept back false fx fy px py h = h

  passes : (x : Tuple) (front back : List Tuple) → Fit x → All Fit front → p x ≡ true
      → x ∷ (filter p front ++ back) ≡ filter p front ++ x ∷ back
  passes x [] back fx all px = refl
  passes x (y ∷ front) back fx all px =
      passes_one x y (filter p front) back (p y) fx (All-head Fit y front all) px refl (passes x front back fx (All-tail Fit y front all) px)

  kept_middle : (x : Tuple) (front back : List Tuple) (b : Bool) → Fit x → All Fit front → p x ≡ b
      → cond b (x ∷ (filter p front ++ filter p back)) (filter p front ++ filter p back) ≡ filter p front ++ cond b (x ∷ filter p back) (filter p back)
  kept_middle x front back true fx all px = passes x front (filter p back) fx all px
  kept_middle x front back false fx all px = refl

  all_front : (front back : List Tuple) → All Fit (front ++ back) → All Fit front
  all_front [] back all = All-nil Fit
  all_front (y ∷ front) back all =
      All-cons Fit y front (All-head Fit y (front ++ back) all) (all_front front back (All-tail Fit y (front ++ back) all))

  pub kept_alike : (xs ys : List Tuple) → All Fit xs → SameBag xs ys → filter p xs ≡ filter p ys
  kept_alike [] ys all h = ap (filter p) (sym (no_more ys h))
  kept_alike (x ∷ xs) ys all h =
      let c = cut x xs ys h in
      let rest = All-tail Fit x xs all in
      let there = All-permutation Fit xs (c.front ++ c.back) (bag_moves xs (c.front ++ c.back) c.rest) rest in
      ap (λ l. cond (p x) (x ∷ l) l) (kept_alike xs (c.front ++ c.back) rest c.rest ∙ filter-append p c.front c.back)
      ∙ kept_middle x c.front c.back (p x) (All-head Fit x xs all) (all_front c.front c.back there) refl
      ∙ sym (ap (filter p) c.whole ∙ filter-append p c.front (x ∷ c.back))

-- ---- a tuple is known by its values in all columns

within_or_past : (n m : ℕ) (b : Bool) → nat_lt n m ≡ b → (n < m) ⊎ (m ≤ n)
within_or_past n m true e = inl (ltb-true n m e)
within_or_past n m false e = inr (ltb-false n m e)

heads : (v w : Value) (vs ws : List Value) → v ∷ vs ≡ w ∷ ws → v ≡ w
heads v w vs ws h = cc

tails : (v w : Value) (vs ws : List Value) → v ∷ vs ≡ w ∷ ws → vs ≡ ws
tails v w vs ws h = cc

same_items : (a b : Tuple) → length a ≡ length b → ((place : ℕ) → place < length a → slice_get a place ≡ slice_get b place) → a ≡ b
same_items [] [] long h = refl
same_items [] (w ∷ b) long h = absurd (omega (arith, long))
same_items (v ∷ a) [] long h = absurd (omega (arith, long))
same_items (v ∷ a) (w ∷ b) long h =
    let rest : a ≡ b = same_items a b (omega (arith, long)) (λ place small. h (suc place) (omega (arith, small))) in
    ap (λ u. u ∷ a) (same_Some v w (h 0 (omega arith))) ∙ ap (λ l. w ∷ l) rest

-- each place below the count is among the columns and the others
found_at : (p : ℕ) (c : ℕ) (cols : List ℕ) (b : Bool) → (c == p) ≡ b → (b || list_any (λ n. n == p) cols) ≡ true
    → (list_any (λ n. n == p) cols ≡ true → Contains cols p) → Contains (c ∷ cols) p
found_at p c cols true e h next =
    subst (λ n. Contains (n ∷ cols) p) (sym (eqb-true c p e)) (Contains-append_left (p ∷ []) cols p (Contains-push [] p))
found_at p c cols false e h next = Contains-append_right (c ∷ []) cols p (next h)

found : (p : ℕ) (cols : List ℕ) → list_any (λ n. n == p) cols ≡ true → Contains cols p
found p [] h = absurd (false≢true h)
found p (c ∷ cols) h = found_at p c cols (c == p) refl h (found p cols)

kept_below : (q : ℕ → Bool) (n p : ℕ) → p < n → q p ≡ true → Contains (filter q (below n)) p
unfolding below
kept_below q zero p small passes = absurd (omega (arith, small))
kept_below q (suc n) p small passes =
    subst (λ l. Contains l p) (sym (filter-append q (below n) (n ∷ [])))
    (elim (within_or_past p n (nat_lt p n) refl) [
      | inl less ↦ Contains-append_left (filter q (below n)) (filter q (n ∷ [])) p (kept_below q n p less passes)
      | inr more ↦
          let last : p ≡ n = omega (arith, small, more) in
          Contains-append_right (filter q (below n)) (filter q (n ∷ [])) p
          (subst (λ m. Contains (filter q (m ∷ [])) p) last (subst (λ b. Contains (cond b (p ∷ []) []) p) (sym passes) (Contains-push [] p)))
    ])

every_place : (count : ℕ) (cols : List ℕ) (p : ℕ) → p < count → Contains (cols ++ others count cols) p
every_place count cols p small =
    elim (cases_Bool (list_any (λ c. c == p) cols)) [
      | inl e ↦ Contains-append_left cols (others count cols) p (found p cols e)
      | inr e ↦ Contains-append_right cols (others count cols) p (kept_below (λ place. not (list_any (λ c. c == place) cols)) count p small (ap not e))
    ]

module _ (a b : Tuple) (long : length a ≡ length b) where
  abbrev Alike : ℕ → Type 0
  Alike place = slice_get a place ≡ slice_get b place

  -- both have a value at the place, or neither does
  alike_one : (place : ℕ) (places : List ℕ) → part a (place ∷ places) ≡ part b (place ∷ places)
      → Alike place × (part a places ≡ part b places)
  alike_one place places h =
      elim (within_or_past place (length a) (nat_lt place (length a)) refl) [
        | inl small ↦
            let v = get_or a place value.Null in
            let w = get_or b place value.Null in
            let here : slice_get a place ≡ Some v = slice_get-get_or a place value.Null small in
            let there : slice_get b place ≡ Some w = slice_get-get_or b place value.Null (omega (arith, small, long)) in
            let both : v ∷ part a places ≡ w ∷ part b places =
            sym (ap (λ o. cons_option o (part a places)) here) ∙ h ∙ ap (λ o. cons_option o (part b places)) there in
            (here ∙ ap Some (heads v w (part a places) (part b places) both) ∙ sym there, tails v w (part a places) (part b places) both)
        | inr large ↦
            let here : slice_get a place ≡ None = slice_get_past a place large in
            let there : slice_get b place ≡ None = slice_get_past b place (omega (arith, large, long)) in
            (here ∙ sym there, sym (ap (λ o. cons_option o (part a places)) here) ∙ h ∙ ap (λ o. cons_option o (part b places)) there)
      ]

  all_alike : (places : List ℕ) → part a places ≡ part b places → All Alike places
  all_alike [] h = All-nil Alike
  all_alike (place ∷ places) h =
      let first = alike_one place places h in
      All-cons Alike place places first.0 (all_alike places first.1)

  known : (cols : List ℕ) → part a (cols ++ others (length a) cols) ≡ part b (cols ++ others (length a) cols) → a ≡ b
  known cols h =
      same_items a b long (λ place small.
      All-contains Alike (cols ++ others (length a) cols) place (all_alike (cols ++ others (length a) cols) h) (every_place (length a) cols place small))

-- ---- rows of so many columns, by all of them

level_of : (r : Ordering) → (not (is_lt r) && not (is_lt (ordering_reverse r))) ≡ true → is_eq r ≡ true
level_of Less h = absurd (false≢true h)
level_of Equal h = refl
level_of Greater h = absurd (false≢true h)

tied_equal : (x y : Tuple) → (not (is_lt (compare_tuples x y)) && not (is_lt (compare_tuples y x))) ≡ true → x ≡ y
tied_equal x y h =
    same-equal x y (same_level x y
    ∙ level_of (compare_tuples x y) (sym (ap (λ r. not (is_lt (compare_tuples x y)) && not (is_lt r)) (tuples_total.antisymm y x)) ∙ h))

pub sorted_bag : (count : ℕ) (cols : List ℕ) (xs ys : List Tuple) → All (λ t. length t ≡ count) xs → SameBag xs ys → sort count cols xs ≡ sort count cols ys
sorted_bag count cols xs ys all bag =
    let places = cols ++ others count cols in
    let alone : (x a b : Tuple) → length a ≡ count → length b ≡ count → ties (comes_before places) x a ≡ true → ties (comes_before places) x b ≡ true → a ≡ b =
    λ x a b long also left right.
    known a b (long ∙ sym also) cols
    (subst (λ n. part a (cols ++ others n cols) ≡ part b (cols ++ others n cols)) (sym long)
    (sym (tied_equal (part x places) (part a places) left) ∙ tied_equal (part x places) (part b places) right)) in
    sym (ascending_only places xs (ascending places ys)
    (IsPermutation-trans xs ys (ascending places ys) (bag_moves xs ys bag) (ascending_moves places ys))
    (ascending_sorted places ys)
    (λ x. ascending_stable places ys x ∙ sym (kept_alike (ties (comes_before places) x) (λ t. length t ≡ count) (alone x) xs ys all bag)))

pub ascending_bag : (cols : List ℕ) (rows : List Tuple) → SameBag rows (ascending cols rows)
ascending_bag cols rows = moved_bag rows (ascending cols rows) (ascending_moves cols rows)
