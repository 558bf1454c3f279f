-- Groups in ascending order, by their first rows.
use Rattle.std.proofs.Common.{◌≡◌, ℕ, zero, suc, ◌+◌, ◌<◌, ◌≤◌, List, [], ◌∷◌, ◌++◌, length, map, take, filter_map, get_or, slice_get, Some, Bool, true, false, cond, All, refl, sym, ap, subst, ◌∙◌, arith, Result, Ok, Err, IfOk}
use Rattle.std.specs.List.{cons_option}
use Rattle.std.specs.Ordering.{is_lt}
use Rattle.std.proofs.lemmas.List.{get_or-map, take_all, take_more}
use Rattle.std.proofs.lemmas.Simd.{map-map}
use Rattle.std.proofs.lemmas.List.Elements.{All-head, All-tail, All-nil, All-cons, All-weaker, filter_map-append}
use Rattle.std.proofs.lemmas.Option.{slice_get-get_or}
use Rattle.tuple_schema.specs.declared.value.Value.TheVariants as value
use Rattle.tuple_schema.specs.declared.schema.Column.{Column}
use Rattle.tuple_schema.specs.Schemas.{Fits}
use Rattle.tuple_schema.specs.Tuples.{part}
use Rattle.list_algebra.specs.Bags.{Tuple}
use Rattle.list_algebra.specs.Comparing.{compare_tuples}
use Rattle.list_algebra.specs.Groups.{groups}
use Rattle.list_algebra.specs.Joins.{below}
use Rattle.list_algebra.specs.Keys.{parts}
use Rattle.list_algebra.specs.Sorting.{ascending, comes_before, put}
use Rattle.kind_laws.specs.Indexes.{row_at}
use Rattle.kind_laws.specs.Grouping.{group_at}
use Rattle.kind_laws.proofs.Rows.{fits-length}
use Rattle.kind_laws.proofs.GroupsMore.{map_alike}

-- what holds of a result's value for two reasons
pub of_both : {X E : Type 0} (r : Result X E) (P Q : X → Type 0) → IfOk r P → IfOk r Q → IfOk r (λ x. P x × Q x)
of_both (Ok x) P Q one other = (one, other)
of_both (Err e) P Q one other = tt

-- the first values of a tuple are its part there
part_below : (x : Tuple) (n : ℕ) → n ≤ length x → part x (below n) ≡ take n x
unfolding below
part_below x zero small = refl
part_below x (suc n) small =
    let e : n + 1 ≡ suc n = omega arith in
    let inside : n < length x = omega (arith, small) in
    let one : filter_map (slice_get x) (n ∷ []) ≡ get_or x n value.Null ∷ [] = rw (slice_get-get_or x n value.Null inside) refl in
    filter_map-append (slice_get x) (below n) (n ∷ [])
    ∙ ap (λ vs. vs ++ filter_map (slice_get x) (n ∷ [])) (part_below x n (omega (arith, small)))
    ∙ ap (λ vs. take n x ++ vs) one
    ∙ sym (subst (λ m. take m x ≡ take n x ++ get_or x n value.Null ∷ []) e (take_more x n value.Null inside))

length_part : (x : Tuple) (cols : List ℕ) → All (λ c. c < length x) cols → length (part x cols) ≡ length cols
length_part x [] within = refl
length_part x (c ∷ cols) within =
    let there : slice_get x c ≡ Some (get_or x c value.Null) = slice_get-get_or x c value.Null (All-head (λ d. d < length x) c cols within) in
    let rest = length_part x cols (All-tail (λ d. d < length x) c cols within) in
    ap (λ o. length (cons_option o (part x cols))) there ∙ ap suc rest

-- a part is the whole of itself
pub part_whole : (x : Tuple) (cols : List ℕ) → All (λ c. c < length x) cols → part (part x cols) (below (length cols)) ≡ part x cols
part_whole x cols within =
    let long = length_part x cols within in
    part_below (part x cols) (length cols) (omega (arith, long)) ∙ take_all (length cols) (part x cols) (omega (arith, long))

-- what a step keeps
put_step : (P : Tuple → Type 0) (b : Bool) (t first : Tuple) (rest more : List Tuple) → P t → All P (first ∷ rest) → All P more
    → All P (cond b (first ∷ more) (t ∷ first ∷ rest))
put_step P true t first rest more is all also = All-cons P first more (All-head P first rest all) also
put_step P false t first rest more is all also = All-cons P t (first ∷ rest) is all

put_all : (P : Tuple → Type 0) (cols : List ℕ) (t : Tuple) (ys : List Tuple) → P t → All P ys → All P (put cols t ys)
put_all P cols t [] is all = All-cons P t [] is (All-nil P)
put_all P cols t (first ∷ rest) is all =
    put_step P (comes_before cols first t) t first rest (put cols t rest) is all (put_all P cols t rest is (All-tail P first rest all))

ascending_all : (P : Tuple → Type 0) (cols : List ℕ) (xs : List Tuple) → All P xs → All P (ascending cols xs)
ascending_all P cols [] all = All-nil P
ascending_all P cols (x ∷ xs) all = put_all P cols x (ascending cols xs) (All-head P x xs all) (ascending_all P cols xs (All-tail P x xs all))

module _ (by : List ℕ) (width : ℕ) where
  -- the part of a row is whole where the width is that of the part
  abbrev IsWhole : Tuple → Type 0
  IsWhole t = part (part t by) (below width) ≡ part t by

  before_parts : (first t : Tuple) → IsWhole first → IsWhole t → comes_before by first t ≡ comes_before (below width) (part first by) (part t by)
  before_parts first t is also =
      sym (ap (λ a. is_lt (compare_tuples a (part (part t by) (below width)))) is ∙ ap (λ b. is_lt (compare_tuples (part first by) b)) also)

  parts_step : (b : Bool) (t first : Tuple) (rest more : List Tuple) (made : List Tuple) → parts by more ≡ made
      → parts by (cond b (first ∷ more) (t ∷ first ∷ rest)) ≡ cond b (part first by ∷ made) (part t by ∷ part first by ∷ parts by rest)
  parts_step true t first rest more made is = ap (λ ys. part first by ∷ ys) is
  parts_step false t first rest more made is = refl

  put_parts : (t : Tuple) (ys : List Tuple) → IsWhole t → All IsWhole ys → parts by (put by t ys) ≡ put (below width) (part t by) (parts by ys)
  put_parts t [] is all = refl
  put_parts t (first ∷ rest) is all =
      parts_step (comes_before by first t) t first rest (put by t rest) (put (below width) (part t by) (parts by rest))
      (put_parts t rest is (All-tail IsWhole first rest all))
      ∙ ap (λ b. cond b (part first by ∷ put (below width) (part t by) (parts by rest)) (part t by ∷ part first by ∷ parts by rest))
      (before_parts first t (All-head IsWhole first rest all) is)

  -- the parts of ascending rows are the ascending parts
  pub ascending_parts : (xs : List Tuple) → All IsWhole xs → parts by (ascending by xs) ≡ ascending (below width) (parts by xs)
  ascending_parts [] all = refl
  ascending_parts (x ∷ xs) all =
      put_parts x (ascending by xs) (All-head IsWhole x xs all) (ascending_all IsWhole by xs (All-tail IsWhole x xs all))
      ∙ ap (put (below width) (part x by)) (ascending_parts xs (All-tail IsWhole x xs all))

module _ (columns : List Column) (by : List ℕ) (within : All (λ c. c < length columns) by) (rows first_rows : List Tuple) (fit : All (Fits columns) first_rows) where
  whole_rows : All (IsWhole by (length by)) first_rows
  whole_rows =
      All-weaker (Fits columns) (IsWhole by (length by))
      (λ t is. part_whole t by (All-weaker (λ c. c < length columns) (λ c. c < length t) (λ c small. rw (← fits-length columns t is) small) by within)) first_rows fit

  -- numbers that put the first rows of the groups in order put the groups in order
  pub groups_ascend : parts by first_rows ≡ groups by rows → (numbers : List ℕ) → map (row_at first_rows) numbers ≡ ascending by first_rows
      → All (λ n. n < length first_rows) numbers
      → map (group_at by rows) numbers ≡ ascending (below (length by)) (groups by rows)
  groups_ascend are numbers order inside =
      map_alike (group_at by rows) (λ n. part (row_at first_rows n) by) numbers
      (All-weaker (λ n. n < length first_rows) (λ n. group_at by rows n ≡ part (row_at first_rows n) by)
      (λ n small. ap (λ ks. get_or ks n []) (sym are) ∙ get_or-map (λ t. part t by) first_rows n [] [] small) numbers inside)
      ∙ sym (map-map (λ t. part t by) (row_at first_rows) numbers)
      ∙ ap (parts by) order ∙ ascending_parts by (length by) first_rows whole_rows
      ∙ ap (ascending (below (length by))) are
