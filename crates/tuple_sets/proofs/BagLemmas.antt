-- How often a tuple is in a bag, by its entries.
use Rattle.std.proofs.Common.{◌≡◌, ℕ, zero, suc, ◌+◌, ◌<◌, ◌≤◌, List, [], ◌∷◌, ◌++◌, length, get_or, set, true, false, cond, refl, ap, sym, subst, ◌∙◌, ⊎_elim, arith}
use Rattle.std.specs.Prelude.{IsPermutation, Result, Ok, Err, OnOk, OnErr}
use Rattle.std.specs.List.{count_by, sum_by}
use Rattle.std.proofs.Math.ListN.{replicate}
use Rattle.std.proofs.lemmas.Bool.{cases_Bool}
use Rattle.std.proofs.lemmas.List.Sums.{sum_by-cons, sum_by-append, sum_by_push, get_or-le-sum_by}
use Rattle.std.proofs.lemmas.List.Folds.{sum_by-replicate}
use Rattle.std.proofs.lemmas.List.Sorted.{sum_by-IsPermutation}
use Rattle.tuple_schema.specs.declared.value.Value.{Value}
use Rattle.tuple_sets.specs.declared.entry.Entry.{Entry}
use Rattle.tuple_sets.specs.Bags.{same, count_of, SameBag}
use Rattle.tuple_sets.specs.Runs.{is_for, IsAt, Lacks, IsUnique, count_at, with_count, tuples_of}
use Rattle.tuple_sets.proofs.SameLemmas.{same-equal}

-- what an entry counts of the tuple
abbrev pub weight : List Value → Entry → ℕ
weight tuple e = cond (is_for tuple e) e.count 0

weight-replicate : (tuple : List Value) (e : Entry) → count_of (replicate e.count e.tuple) tuple ≡ weight tuple e
weight-replicate tuple e = sum_by-replicate (λ t. cond (same tuple t) 1 0) e.count e.tuple ∙ ⊎_elim
    (λ yes. rw yes (omega arith))
    (λ no. rw no (omega arith))
    (cases_Bool (same tuple e.tuple))

pub count-tuples_of : (es : List Entry) (tuple : List Value) → count_of (tuples_of es) tuple ≡ sum_by (weight tuple) es
count-tuples_of [] tuple = refl
count-tuples_of (e ∷ es) tuple =
    let a = sum_by-append (λ t. cond (same tuple t) 1 0) (replicate e.count e.tuple) (tuples_of es) in
    let b = weight-replicate tuple e in
    let c = count-tuples_of es tuple in
    let d = sum_by-cons (weight tuple) e es in
    omega arith

pub count-cons : (row : List Value) (bag : List (List Value)) (tuple : List Value) → count_of (row ∷ bag) tuple ≡ cond (same tuple row) 1 0 + count_of bag tuple
count-cons row bag tuple = sum_by-cons (λ t. cond (same tuple t) 1 0) row bag

-- ---- no entry, or one

abbrev one : List Value → Entry → ℕ
one tuple e = cond (is_for tuple e) 1 0

pub lacks-none : (es : List Entry) (tuple : List Value) → Lacks es tuple → count_by (is_for tuple) es ≡ 0
lacks-none [] tuple none = refl
lacks-none (e ∷ es) tuple none =
    let first : is_for tuple e ≡ false = none 0 e (omega arith) in
    let here : one tuple e ≡ 0 = rw first refl in
    let parts = sum_by-cons (one tuple) e es in
    let rest = lacks-none es tuple (λ k d lt. none (suc k) d (omega arith)) in
    omega arith

none-weighs : (es : List Entry) (tuple : List Value) → count_by (is_for tuple) es ≡ 0 → sum_by (weight tuple) es ≡ 0
none-weighs [] tuple none = refl
none-weighs (e ∷ es) tuple none =
    let parts = sum_by-cons (one tuple) e es in
    let all = sum_by-cons (weight tuple) e es in
    ⊎_elim
    (λ yes. let here : one tuple e ≡ 1 = rw yes refl in absurd (omega arith))
    (λ no.
    let here : one tuple e ≡ 0 = rw no refl in
    let less : weight tuple e ≡ 0 = rw no refl in
    let rest = none-weighs es tuple (omega arith) in
    omega arith)
    (cases_Bool (is_for tuple e))

pub lacks-count : (es : List Entry) (tuple : List Value) → Lacks es tuple → count_of (tuples_of es) tuple ≡ 0
lacks-count es tuple none = count-tuples_of es tuple ∙ none-weighs es tuple (lacks-none es tuple none)

some-number : (es : List Entry) (tuple : List Value) (i : ℕ) (d : Entry) → IsAt es tuple i → 1 ≤ count_by (is_for tuple) es
some-number es tuple i d here =
    let first : one tuple (get_or es i d) ≡ 1 = rw (here.1 d) refl in
    let all = get_or-le-sum_by (one tuple) es i d here.0 in
    omega arith

found-weight : (es : List Entry) (tuple : List Value) (i : ℕ) → IsAt es tuple i → count_by (is_for tuple) es ≤ 1
    → sum_by (weight tuple) es ≡ count_at es i
found-weight [] tuple i here unique = absurd (omega (arith, here.0))
found-weight (e ∷ es) tuple zero here unique =
    let yes : is_for tuple e ≡ true = here.1 e in
    let parts = sum_by-cons (one tuple) e es in
    let all = sum_by-cons (weight tuple) e es in
    let first : one tuple e ≡ 1 = rw yes refl in
    let more : weight tuple e ≡ e.count = rw yes refl in
    let rest = none-weighs es tuple (omega arith) in
    omega arith
found-weight (e ∷ es) tuple (suc i) here unique =
    let within : suc i < length (e ∷ es) = here.0 in
    let later : IsAt es tuple i = (omega arith, here.1) in
    let parts = sum_by-cons (one tuple) e es in
    let all = sum_by-cons (weight tuple) e es in
    let some = some-number es tuple i e later in
    ⊎_elim
    (λ yes. let first : one tuple e ≡ 1 = rw yes refl in absurd (omega arith))
    (λ no.
    let none : one tuple e ≡ 0 = rw no refl in
    let less : weight tuple e ≡ 0 = rw no refl in
    let rest = found-weight es tuple i later (omega arith) in
    omega arith)
    (cases_Bool (is_for tuple e))

pub found-count : (es : List Entry) (tuple : List Value) (i : ℕ) → IsAt es tuple i → IsUnique es
    → count_of (tuples_of es) tuple ≡ count_at es i
found-count es tuple i here unique = count-tuples_of es tuple ∙ found-weight es tuple i here (unique tuple)

-- ---- another count

pub length-with_count : (es : List Entry) (i n : ℕ) → length (with_count es i n) ≡ length es
length-with_count [] i n = refl
length-with_count (e ∷ es) zero n = refl
length-with_count (e ∷ es) (suc i) n = ap suc (length-with_count es i n)

pub tuple-with_count : (es : List Entry) (i n k : ℕ) (d : Entry) → (get_or (with_count es i n) k d).tuple ≡ (get_or es k d).tuple
tuple-with_count [] i n k d = refl
tuple-with_count (e ∷ es) zero n zero d = refl
tuple-with_count (e ∷ es) zero n (suc k) d = refl
tuple-with_count (e ∷ es) (suc i) n zero d = refl
tuple-with_count (e ∷ es) (suc i) n (suc k) d = tuple-with_count es i n k d

pub set-with_count : (es : List Entry) (i n : ℕ) (e : Entry) → i < length es → e ≡ get_or es i e
    → set es i (record { tuple = e.tuple; count = n }) ≡ with_count es i n
set-with_count [] i n e lt at = absurd (omega arith)
set-with_count (f ∷ es) zero n e lt at = ap (λ t. record { tuple = t; count = n } ∷ es) (ap (λ x. x.tuple) at)
set-with_count (f ∷ es) (suc i) n e lt at = ap (λ fs. f ∷ fs) (set-with_count es i n e (omega arith) at)

number-with_count : (es : List Entry) (i n : ℕ) (tuple : List Value) → count_by (is_for tuple) (with_count es i n) ≡ count_by (is_for tuple) es
number-with_count [] i n tuple = refl
number-with_count (e ∷ es) zero n tuple =
    sum_by-cons (one tuple) (record { tuple = e.tuple; count = n }) es ∙ sym (sum_by-cons (one tuple) e es)
number-with_count (e ∷ es) (suc i) n tuple =
    let a = sum_by-cons (one tuple) e (with_count es i n) in
    let b = sum_by-cons (one tuple) e es in
    let c = number-with_count es i n tuple in
    omega arith

pub unique-counted : (es fs : List Entry) (i n : ℕ) → fs ≡ with_count es i n → IsUnique es → IsUnique fs
unique-counted es fs i n is unique tuple =
    let same = ap (count_by (is_for tuple)) is ∙ number-with_count es i n tuple in
    let few = unique tuple in
    omega arith

-- what the tuple of that place is counted, before and after
weight-with_count : (es : List Entry) (i n : ℕ) (d : Entry) (tuple : List Value) → i < length es
    → sum_by (weight tuple) (with_count es i n) + weight tuple (get_or es i d) ≡ sum_by (weight tuple) es + cond (is_for tuple (get_or es i d)) n 0
weight-with_count [] i n d tuple lt = absurd (omega arith)
weight-with_count (e ∷ es) zero n d tuple lt =
    let a = sum_by-cons (weight tuple) (record { tuple = e.tuple; count = n }) es in
    let b = sum_by-cons (weight tuple) e es in
    omega arith
weight-with_count (e ∷ es) (suc i) n d tuple lt =
    let a = sum_by-cons (weight tuple) e (with_count es i n) in
    let b = sum_by-cons (weight tuple) e es in
    let c = weight-with_count es i n d tuple (omega arith) in
    omega arith

same_count : (es : List Entry) (i : ℕ) → with_count es i (count_at es i) ≡ es
same_count [] i = refl
same_count (e ∷ es) zero = refl
same_count (e ∷ es) (suc i) = ap (λ fs. e ∷ fs) (same_count es i)

-- an entry that counts one more has its row once more
counted : (es : List Entry) (row : List Value) (i n : ℕ) → IsAt es row i
    → SameBag (tuples_of (with_count es i (n + 1))) (row ∷ tuples_of (with_count es i n))
counted [] row i n here tuple = absurd (omega (arith, here.0))
counted (d ∷ ds) row i n here tuple =
    let es = d ∷ ds in
    let e = get_or es i d in
    let new = count-tuples_of (with_count es i (n + 1)) tuple in
    let old = count-tuples_of (with_count es i n) tuple in
    let more = count-cons row (tuples_of (with_count es i n)) tuple in
    let up = weight-with_count es i (n + 1) d tuple here.0 in
    let down = weight-with_count es i n d tuple here.0 in
    let is : row ≡ e.tuple = same-equal row e.tuple (here.1 d) in
    let test : same tuple row ≡ is_for tuple e = ap (same tuple) is in
    ⊎_elim
    (λ yes.
    let tested : same tuple row ≡ true = test ∙ yes in
    let one_more : cond {A = ℕ} (same tuple row) 1 0 ≡ 1 = rw tested refl in
    let before : cond {A = ℕ} (is_for tuple e) n 0 ≡ n = rw yes refl in
    let after : cond {A = ℕ} (is_for tuple e) (n + 1) 0 ≡ n + 1 = rw yes refl in
    omega arith)
    (λ no.
    let tested : same tuple row ≡ false = test ∙ no in
    let none_more : cond {A = ℕ} (same tuple row) 1 0 ≡ 0 = rw tested refl in
    let before : cond {A = ℕ} (is_for tuple e) n 0 ≡ 0 = rw no refl in
    let after : cond {A = ℕ} (is_for tuple e) (n + 1) 0 ≡ 0 = rw no refl in
    omega arith)
    (cases_Bool (is_for tuple e))

pub counted_up : (es : List Entry) (row : List Value) (i : ℕ) → IsAt es row i
    → SameBag (tuples_of (with_count es i (count_at es i + 1))) (row ∷ tuples_of es)
counted_up es row i here =
    let n = count_at es i in
    subst (λ fs. SameBag (tuples_of (with_count es i (n + 1))) (row ∷ tuples_of fs)) (same_count es i) (counted es row i n here)

pub counted_down : (es : List Entry) (row : List Value) (i n : ℕ) → IsAt es row i → n + 1 ≡ count_at es i
    → SameBag (tuples_of es) (row ∷ tuples_of (with_count es i n))
counted_down es row i n here is =
    let whole : with_count es i (n + 1) ≡ es = ap (with_count es i) is ∙ same_count es i in
    subst (λ fs. SameBag (tuples_of fs) (row ∷ tuples_of (with_count es i n))) whole (counted es row i n here)

-- ---- a row that wasn't there

pub pushed_once : (es fs : List Entry) (row : List Value) → IsPermutation (es ++ record { tuple = row; count = 1 } ∷ []) fs
    → SameBag (tuples_of fs) (row ∷ tuples_of es)
pushed_once es fs row moved tuple =
    let e : Entry = record { tuple = row; count = 1 } in
    let new = count-tuples_of fs tuple in
    let old = count-tuples_of es tuple in
    let more = count-cons row (tuples_of es) tuple in
    let kept = sum_by-IsPermutation (weight tuple) (es ++ e ∷ []) fs moved in
    let all = sum_by_push (weight tuple) es e in
    omega arith

pub unique-pushed : (es fs : List Entry) (e : Entry) → Lacks es e.tuple → IsUnique es → IsPermutation (es ++ e ∷ []) fs → IsUnique fs
unique-pushed es fs e none unique moved tuple =
    let kept = sum_by-IsPermutation (one tuple) (es ++ e ∷ []) fs moved in
    let all = sum_by_push (one tuple) es e in
    let few = unique tuple in
    ⊎_elim
    (λ yes.
    let is : tuple ≡ e.tuple = same-equal tuple e.tuple yes in
    let before : count_by (is_for tuple) es ≡ 0 = rw is (lacks-none es e.tuple none) in
    let here : one tuple e ≡ 1 = rw yes refl in
    omega arith)
    (λ no. let here : one tuple e ≡ 0 = rw no refl in omega arith)
    (cases_Bool (is_for tuple e))

-- the entries after a push, whether or not it found memory
pub unique-either : {E : Type 0} (r : Result (Unit {0}) E) (es fs : List Entry) (e : Entry) → Lacks es e.tuple → IsUnique es
    → OnOk r (IsPermutation (es ++ e ∷ []) fs) → OnErr r (fs ≡ es) → IsUnique fs
unique-either (Ok u) es fs e none unique moved same = unique-pushed es fs e none unique moved
unique-either (Err x) es fs e none unique moved same = rw same unique
