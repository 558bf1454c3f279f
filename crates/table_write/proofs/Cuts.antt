-- The cut of rows, block by block.
use Rattle.std.proofs.Common.{◌≡◌, ◌⊎◌, inl, inr, ◌≤◌, ◌<◌, ◌-◌, ℕ, zero, suc, List, [], ◌∷◌, ◌++◌, length, take, true, false, IsTrue, All, refl, sym, ap, subst, ◌∙◌, arith, append_assoc, length-append}
use Rattle.std.proofs.lemmas.Bool.{cases_Bool, cases_lt, true≢false}
use Rattle.std.proofs.lemmas.Bool.Decides.{nat_tests}
use Rattle.std.proofs.lemmas.List.{append-nil, take_at, take-append-le}
use Rattle.std.proofs.lemmas.List.Elements.{All-nil, All-cons, All-head, All-tail}
use Rattle.tuple_schema.specs.declared.value.Value.{Value}
use Rattle.table_write.specs.Cut.{is_full, IsBlock, together, but_last, IsCut, last_block, cut_on, cut}

abbrev Row : Type 0
Row = List Value

-- no rows fill no block
none_full : (batch : ℕ) → 1 ≤ batch → is_full batch [] ≡ false
none_full batch some = grind (arith, nat_tests)

-- behind a full block the cut begins anew, and so it does behind the last one
pub cut_behind : (batch : ℕ) (block rows : List Row) → 1 ≤ batch → is_full batch block ≡ true ⊎ (rows ≡ []) → 1 ≤ length block → cut_on batch block rows ≡ block ∷ cut batch rows
unfolding cut cut_on
cut_behind batch [] rows some full has = absurd (omega arith)
cut_behind batch (b ∷ block) [] some full has = refl
cut_behind batch (b ∷ block) (row ∷ rows) some (inl full) has =
    let none = none_full batch some in
    rw (full, none) refl
cut_behind batch (b ∷ block) (row ∷ rows) some (inr none) has = absurd cc

-- a block that isn't full takes the next row
pub cut_more : (batch : ℕ) (block rows : List Row) (row : Row) → is_full batch block ≡ false → cut_on batch block (row ∷ rows) ≡ cut_on batch (block ++ row ∷ []) rows
unfolding cut_on
cut_more batch block rows row not_full = rw not_full refl

pub cut_begins : (batch : ℕ) (rows : List Row) → cut batch rows ≡ cut_on batch [] rows
unfolding cut
cut_begins batch rows = refl

pub cut_nothing : (batch : ℕ) → cut batch [] ≡ []
unfolding cut cut_on
cut_nothing batch = refl

-- no front of these rows but all of them fills a block
abbrev NotBefore : ℕ → List Row → Type 0
NotBefore batch rows = (count : ℕ) → count < length rows → IsTrue (is_full batch (take count rows)) → ⊥

-- the cut begins with a block that isn't full before its last row, and is full then or has all rows
first_is : (batch : ℕ) (front back rest : List Row) → 1 ≤ batch → NotBefore batch (front ++ back) → 1 ≤ length (front ++ back) → is_full batch (front ++ back) ≡ true ⊎ (rest ≡ []) → cut_on batch front (back ++ rest) ≡ (front ++ back) ∷ cut batch rest
first_is batch front [] rest some not_before has full =
    let whole : front ++ [] ≡ front = append-nil front in
    rw whole (cut_behind batch front rest some (rw whole at full) (rw whole at has))
first_is batch front (row ∷ back) rest some not_before has full =
    let at : take (length front) (front ++ row ∷ back) ≡ front = take_at front (row ∷ back) (length front) refl in
    let open_yet : is_full batch front ≡ false =
    elim (cases_Bool (is_full batch front)) [
      | inl is ↦ absurd (not_before (length front) (omega (arith, length-append front (row ∷ back))) (rw at is))
      | inr not ↦ not
    ] in
    let same : (front ++ row ∷ []) ++ back ≡ front ++ row ∷ back = append_assoc front (row ∷ []) back in
    cut_more batch front (back ++ rest) row open_yet
    ∙ first_is batch (front ++ row ∷ []) back rest some (subst (NotBefore batch) (sym same) not_before) (subst (λ (rs : List Row). 1 ≤ length rs) (sym same) has)
    (subst (λ (rs : List Row). is_full batch rs ≡ true ⊎ (rest ≡ [])) (sym same) full)
    ∙ ap (λ (rs : List Row). rs ∷ cut batch rest) same

but_last-more : (block next : List Row) (blocks : List (List Row)) → but_last (block ∷ next ∷ blocks) ≡ block ∷ but_last (next ∷ blocks)
but_last-more block next blocks =
    let less : length (block ∷ next ∷ blocks) - 1 ≡ suc (length (next ∷ blocks) - 1) = omega arith in
    ap (λ (n : ℕ). take n (block ∷ next ∷ blocks)) less

abbrev AllFull : ℕ → List (List Row) → Type 0
AllFull batch blocks = All (λ block. IsTrue (is_full batch block)) blocks

-- the first block of a cut is full, or there is no other
first_full : (batch : ℕ) (block : List Row) (blocks : List (List Row)) → AllFull batch (but_last (block ∷ blocks)) → is_full batch block ≡ true ⊎ (together blocks ≡ [])
first_full batch block [] full = inr refl
first_full batch block (next ∷ blocks) full = inl (All-head (λ b. IsTrue (is_full batch b)) block (but_last (next ∷ blocks)) (subst (AllFull batch) (but_last-more block next blocks) full))

-- and the others are a cut
full_behind : (batch : ℕ) (block : List Row) (blocks : List (List Row)) → AllFull batch (but_last (block ∷ blocks)) → AllFull batch (but_last blocks)
full_behind batch block [] full = All-nil (λ b. IsTrue (is_full batch b))
full_behind batch block (next ∷ blocks) full = All-tail (λ b. IsTrue (is_full batch b)) block (but_last (next ∷ blocks)) (subst (AllFull batch) (but_last-more block next blocks) full)

-- there is one cut at most
pub only_cut : (batch : ℕ) (rows : List Row) (blocks : List (List Row)) → 1 ≤ batch → IsCut batch rows blocks → blocks ≡ cut batch rows
only_cut batch rows [] some is = sym (ap (cut batch) is.whole ∙ cut_nothing batch)
only_cut batch rows (block ∷ blocks) some is =
    let first = All-head (IsBlock batch) block blocks is.each in
    let others : blocks ≡ cut batch (together blocks) =
    only_cut batch (together blocks) blocks some (record { whole = refl; each = All-tail (IsBlock batch) block blocks is.each; full = full_behind batch block blocks is.full }) in
    sym (ap (cut batch) is.whole ∙ cut_begins batch (block ++ together blocks)
    ∙ first_is batch [] block (together blocks) some first.not_before first.some (first_full batch block blocks is.full)
    ∙ ap (λ (bs : List (List Row)). block ∷ bs) (sym others))

-- all blocks but the last are full, where the first one is and all others but the last are
full_all : (batch : ℕ) (block : List Row) (blocks : List (List Row)) → is_full batch block ≡ true → AllFull batch (but_last blocks) → AllFull batch (but_last (block ∷ blocks))
full_all batch block [] full others = All-nil (λ b. IsTrue (is_full batch b))
full_all batch block (next ∷ blocks) full others = subst (AllFull batch) (sym (but_last-more block next blocks)) (All-cons (λ b. IsTrue (is_full batch b)) block (but_last (next ∷ blocks)) full others)

-- a block that isn't full, with one row more, isn't full before that
not_before_more : (batch : ℕ) (block : List Row) (row : Row) → NotBefore batch block → is_full batch block ≡ false → NotBefore batch (block ++ row ∷ [])
not_before_more batch block row not_before not_full count below is =
    elim (cases_lt count (length block)) [
      | inl lt ↦ not_before count lt (subst (λ (rs : List Row). IsTrue (is_full batch rs)) (take-append-le count block (row ∷ []) (omega arith)) is)
      | inr ge ↦
          let at : take count (block ++ row ∷ []) ≡ block = take_at block (row ∷ []) count (omega (arith, length-append block (row ∷ []))) in
          true≢false (sym (rw at at is) ∙ not_full)
    ]

not_before_one : (batch : ℕ) (row : Row) → 1 ≤ batch → NotBefore batch (row ∷ [])
not_before_one batch row some zero below is = true≢false (sym is ∙ none_full batch some)
not_before_one batch row some (suc count) below is = omega arith

pub has_rows : (batch : ℕ) (block : List Row) → 1 ≤ batch → is_full batch block ≡ true → 1 ≤ length block
has_rows batch [] some full = absurd (true≢false (sym full ∙ none_full batch some))
has_rows batch (row ∷ block) some full = omega arith

-- a last block is a cut of its rows
last_is : (batch : ℕ) (block : List Row) → NotBefore batch block → IsCut batch (block ++ []) (last_block block)
last_is batch [] not_before = record { whole = refl; each = All-nil (IsBlock batch); full = All-nil (λ b. IsTrue (is_full batch b)) }
last_is batch (row ∷ block) not_before = record {
  whole = refl;
  each = All-cons (IsBlock batch) (row ∷ block) [] (record { some = omega arith; not_before = not_before }) (All-nil (IsBlock batch));
  full = All-nil (λ b. IsTrue (is_full batch b));
}

-- what is cut is a cut
cut_on_is : (batch : ℕ) (block rows : List Row) → 1 ≤ batch → NotBefore batch block → IsCut batch (block ++ rows) (cut_on batch block rows)
unfolding cut_on
cut_on_is batch block [] some not_before = last_is batch block not_before
cut_on_is batch block (row ∷ rows) some not_before =
    elim (cases_Bool (is_full batch block)) [
      | inl full ↦
          let more = cut_on_is batch (row ∷ []) rows some (not_before_one batch row some) in
          rw full (record {
            whole = ap (λ (rs : List Row). block ++ rs) more.whole;
            each = All-cons (IsBlock batch) block (cut_on batch (row ∷ []) rows) (record { some = has_rows batch block some full; not_before = not_before }) more.each;
            full = full_all batch block (cut_on batch (row ∷ []) rows) full more.full;
          })
      | inr not_full ↦
          rw not_full (subst (λ (rs : List Row). IsCut batch rs (cut_on batch (block ++ row ∷ []) rows)) (append_assoc block (row ∷ []) rows)
          (cut_on_is batch (block ++ row ∷ []) rows some (not_before_more batch block row not_before not_full)))
    ]

pub cut_is : (batch : ℕ) (rows : List Row) → 1 ≤ batch → IsCut batch rows (cut batch rows)
unfolding cut
cut_is batch rows some = cut_on_is batch [] rows some (λ count below is. omega arith)
