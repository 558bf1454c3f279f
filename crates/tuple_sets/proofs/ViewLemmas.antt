-- What a set or a bag has, by what is kept of it.
use Rattle.std.proofs.Common.{◌≡◌, ℕ, ◌+◌, ◌<◌, List, [], ◌∷◌, ◌++◌, true, cond, refl, ap, sym, ◌∙◌, ⊎_elim, arith}
use Rattle.std.specs.Prelude.{nat_lt, IsPermutation}
use Rattle.std.proofs.lemmas.Bool.{cases_Bool, lt-ltb}
use Rattle.tuple_schema.specs.declared.value.Value.{Value}
use Rattle.tuple_sets.specs.declared.entry.Entry.{Entry}
use Rattle.tuple_sets.specs.Bags.{same, has, count_of, SameBag, SameSet}
use Rattle.tuple_sets.specs.Runs.{IsAt, Lacks, IsUnique, count_at, with_count, tuples_of}
use Rattle.tuple_sets.proofs.SameLemmas.{same-equal}
use Rattle.tuple_sets.proofs.BagLemmas.{count-cons, lacks-count, found-count, counted_up, counted_down, pushed_once}

-- ---- sets

pub has-count : (bag : List (List Value)) (tuple : List Value) → has bag tuple ≡ nat_lt 0 (count_of bag tuple)
has-count [] tuple = refl
has-count (t ∷ bag) tuple =
    let parts = count-cons t bag tuple in
    ⊎_elim
    (λ yes.
    let here : has (t ∷ bag) tuple ≡ true = rw yes refl in
    let one_more : cond {A = ℕ} (same tuple t) 1 0 ≡ 1 = rw yes refl in
    here ∙ sym (lt-ltb 0 (count_of (t ∷ bag) tuple) (omega arith)))
    (λ no.
    let here : has (t ∷ bag) tuple ≡ has bag tuple = rw no refl in
    let none_more : cond {A = ℕ} (same tuple t) 1 0 ≡ 0 = rw no refl in
    let alike : count_of (t ∷ bag) tuple ≡ count_of bag tuple = omega arith in
    here ∙ has-count bag tuple ∙ ap (nat_lt 0) (sym alike))
    (cases_Bool (same tuple t))

-- bags that are the same have the same tuples
pub has-same : (xs ys : List (List Value)) → SameBag xs ys → SameSet xs ys
has-same xs ys alike tuple = has-count xs tuple ∙ ap (nat_lt 0) (alike tuple) ∙ sym (has-count ys tuple)

-- a key that is there adds nothing
pub has-again : (keys : List (List Value)) (key : List Value) → 0 < count_of keys key → SameSet keys (key ∷ keys)
has-again keys key there tuple =
    ⊎_elim
    (λ yes.
    let is : tuple ≡ key = same-equal tuple key yes in
    let found : has keys tuple ≡ true = has-count keys tuple ∙ rw is (lt-ltb 0 (count_of keys key) there) in
    rw (yes, found) refl)
    (λ no. rw no refl)
    (cases_Bool (same tuple key))

-- ---- a bag by its view

module _ (es : List Entry) (bag : List (List Value)) (view : tuples_of es ≡ bag) (row : List Value) where
  pub view-lacks : Lacks es row → count_of bag row ≡ 0
  view-lacks none = ap (λ b. count_of b row) (sym view) ∙ lacks-count es row none

  pub view-found : (i : ℕ) → IsAt es row i → IsUnique es → count_of bag row ≡ count_at es i
  view-found i here unique = ap (λ b. count_of b row) (sym view) ∙ found-count es row i here unique

  pub view-up : (i : ℕ) → IsAt es row i → (fs : List Entry) → fs ≡ with_count es i (count_at es i + 1) → SameBag (tuples_of fs) (row ∷ bag)
  view-up i here fs is = rw (is, ← view) (counted_up es row i here)

  pub view-down : (i n : ℕ) → IsAt es row i → n + 1 ≡ count_at es i → (fs : List Entry) → fs ≡ with_count es i n
      → SameBag bag (row ∷ tuples_of fs)
  view-down i n here now fs is = rw (is, ← view) (counted_down es row i n here now)

  pub view-pushed : (fs : List Entry) → IsPermutation (es ++ record { tuple = row; count = 1 } ∷ []) fs
      → SameBag (tuples_of fs) (row ∷ bag)
  view-pushed fs moved = rw (← view) (pushed_once es fs row moved)
