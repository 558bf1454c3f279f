-- The keys of rows by their numbers.
use Rattle.std.proofs.Common.{◌≡◌, ◌∙◌, ℕ, zero, suc, ◌<◌, ◌≤◌, List, [], ◌∷◌, length, get_or, slice_get, All, Bool, true, false, Some, None, option_map, nat_lt, ltb-true, ltb-false, lt-ltb, le-ltb, refl, ap, ap₂, sym, arith}
use Rattle.std.specs.Ordering.{bool_cmp}
use Rattle.std.specs.Cmp.{IsTotalOrder}
use Rattle.std.specs.Cmp.Lexicographic.{options_total, lists_total}
use Rattle.tuple_schema.specs.contracts.value.ValueOrd.TheImpl.Laws as value_ord_laws
use Rattle.std.proofs.lemmas.List.Elements.{All-weaker}
use Rattle.tuple_schema.specs.declared.schema.Column.{Column}
use Rattle.tuple_schema.specs.Schemas.{Fits}
use Rattle.tuple_schema.specs.Tuples.{part}
use Rattle.list_algebra.specs.Bags.{Tuple}
use Rattle.kind_laws.specs.Indexes.{compare_keys, key_at, row_at}
use Rattle.kind_laws.proofs.Rows.{fits-length}

-- a row that fits has the places below the number of its columns
pub within_row : (columns : List Column) (row : Tuple) (cols : List ℕ) → Fits columns row → All (λ c. c < length columns) cols → All (λ c. c < length row) cols
within_row columns row cols fit within =
    All-weaker (λ c. c < length columns) (λ c. c < length row) (λ c small. rw (← fits-length columns row fit) small) cols within

pub key_of : (cols : List ℕ) (rows : List Tuple) (n : ℕ) (row : Tuple) → slice_get rows n ≡ Some row → key_at cols rows n ≡ Some (part row cols)
key_of cols rows n row there = ap (option_map (λ r. part r cols)) there

pub no_item : {X : Type 0} (xs : List X) (n : ℕ) → length xs ≤ n → slice_get xs n ≡ None
no_item [] n h = refl
no_item (x ∷ xs) zero h = absurd (omega (arith, h))
no_item (x ∷ xs) (suc n) h = no_item xs n (omega (arith, h))

pub some_item : {X : Type 0} (xs : List X) (n : ℕ) (d : X) → n < length xs → slice_get xs n ≡ Some (get_or xs n d)
some_item [] n d h = absurd (omega (arith, h))
some_item (x ∷ xs) zero d h = refl
some_item (x ∷ xs) (suc n) d h = some_item xs n d (omega (arith, h))

pub key_past : (cols : List ℕ) (rows : List Tuple) (n : ℕ) → length rows ≤ n → key_at cols rows n ≡ None
key_past cols rows n h = ap (option_map (λ r. part r cols)) (no_item rows n h)

pub key_within : (cols : List ℕ) (rows : List Tuple) (n : ℕ) → n < length rows → key_at cols rows n ≡ Some (part (row_at rows n) cols)
key_within cols rows n h = ap (option_map (λ r. part r cols)) (some_item rows n [] h)

-- where one of both is no row, the one that is a row comes later
past_left : (cols : List ℕ) (rows : List Tuple) (one other : ℕ) → length rows ≤ one → (b : Bool) → nat_lt other (length rows) ≡ b
    → bool_cmp false b ≡ compare_keys (key_at cols rows one) (key_at cols rows other)
past_left cols rows one other past true is =
    sym (ap₂ compare_keys (key_past cols rows one past) (key_within cols rows other (ltb-true _ _ is)))
past_left cols rows one other past false is =
    sym (ap₂ compare_keys (key_past cols rows one past) (key_past cols rows other (ltb-false _ _ is)))

pub by_rows_left : (cols : List ℕ) (rows : List Tuple) (one other n m : ℕ) → n ≡ length rows → m ≡ length rows → length rows ≤ one
    → bool_cmp (nat_lt one n) (nat_lt other m) ≡ compare_keys (key_at cols rows one) (key_at cols rows other)
by_rows_left cols rows one other n m is also past =
    ap₂ (λ i j. bool_cmp (nat_lt one i) (nat_lt other j)) is also
    ∙ ap (λ b. bool_cmp b (nat_lt other (length rows))) (le-ltb _ _ past) ∙ past_left cols rows one other past (nat_lt other (length rows)) refl

pub by_rows_right : (cols : List ℕ) (rows : List Tuple) (one other n m : ℕ) → n ≡ length rows → m ≡ length rows → one < length rows → length rows ≤ other
    → bool_cmp (nat_lt one n) (nat_lt other m) ≡ compare_keys (key_at cols rows one) (key_at cols rows other)
by_rows_right cols rows one other n m is also within past =
    ap₂ (λ i j. bool_cmp (nat_lt one i) (nat_lt other j)) is also
    ∙ ap₂ bool_cmp (lt-ltb _ _ within) (le-ltb _ _ past)
    ∙ sym (ap₂ compare_keys (key_within cols rows one within) (key_past cols rows other past))

-- keys are in a total order
pub keys_total : IsTotalOrder compare_keys
keys_total = options_total (lists_total value_ord_laws.total-law)
