-- Fronts of the blocks that are added.
use Rattle.std.proofs.Common.{◌≡◌, ◌+◌, ℕ, List, [], ◌∷◌, ◌++◌, length, take, get_or, map, Bool, IsTrue, All, refl, sym, ap, subst, ◌∙◌, arith, append_assoc, length-append}
use Rattle.std.proofs.lemmas.List.{append-nil, take_at, get_or_at, get_or_past, map-append}
use Rattle.std.proofs.lemmas.List.Concat.{flat_map-append}
use Rattle.std.proofs.lemmas.List.Sums.{sum_by-append}
use Rattle.std.specs.List.{sum_by}
use Rattle.tuple_schema.specs.declared.value.Value.{Value}
use Rattle.tuple_schema.specs.declared.schema.Column.{Column}
use Rattle.row_codec.specs.Rows.{rows_bytes}
use Rattle.row_codec.specs.Decoding.{IsRowOf}
use Rattle.commit_disk.specs.Table.{Stored, Holds, rows_block}
use Rattle.commit_disk.specs.Journal.{JournalState, after}
use Rattle.table_write.specs.Cut.{together}
use Rattle.table_write.specs.Rows.{stored_of}
use Rattle.table_write.specs.Adds.{with_blocks, IsFront, size_of, behind, next_block}

-- a block of rows
abbrev pub Rows : Type 0
Rows = List (List Value)

pub with_none : (olds : List Stored) → with_blocks olds [] ≡ olds
with_none olds = append-nil olds

-- one block more
pub with_more : (olds : List Stored) (taken : List Rows) (rows : Rows) → with_blocks olds (taken ++ rows ∷ []) ≡ with_blocks olds taken ++ stored_of rows ∷ []
with_more olds taken rows =
    ap (λ (bs : List Stored). olds ++ bs) (map-append stored_of taken (rows ∷ [])) ∙ sym (append_assoc olds (map stored_of taken) (stored_of rows ∷ []))

pub together_more : (taken : List Rows) (rows : Rows) → together (taken ++ rows ∷ []) ≡ together taken ++ rows
together_more taken rows = flat_map-append (λ block. block) taken (rows ∷ []) ∙ ap (λ (rs : Rows). together taken ++ rs) (append-nil rows)

size_more : (taken : List Rows) (rows : Rows) → size_of (taken ++ rows ∷ []) ≡ size_of taken + (10 + length (rows_bytes rows))
size_more taken rows =
    let both = sum_by-append (λ block. 10 + length (rows_bytes block)) taken (rows ∷ []) in
    omega (arith, both)

count_more : (taken : List Rows) (rows : Rows) → sum_by length (taken ++ rows ∷ []) ≡ sum_by length taken + length rows
count_more taken rows =
    let both = sum_by-append length taken (rows ∷ []) in
    omega (arith, both)

-- the journal behind no block
pub behind_none : (journal : JournalState) → journal ≡ behind journal []
behind_none journal =
    let same : (n : ℕ) → n ≡ n + 0 = λ n. omega arith in
    (λ i. record journal { gate = same journal.gate i; count = same journal.count i })

-- the journal behind one block more
pub behind_more : (journal now : JournalState) (taken : List Rows) (rows : Rows) → now ≡ behind journal taken → after now (rows_block (stored_of rows)) ≡ behind journal (taken ++ rows ∷ [])
behind_more journal now taken rows is =
    let gate : journal.gate + size_of taken + 10 + length (rows_bytes rows) ≡ journal.gate + size_of (taken ++ rows ∷ []) = omega (arith, size_more taken rows) in
    let count : journal.count + sum_by length taken + length rows ≡ journal.count + sum_by length (taken ++ rows ∷ []) = omega (arith, count_more taken rows) in
    ap (λ (j : JournalState). after j (rows_block (stored_of rows))) is ∙ (λ i. record journal { gate = gate i; count = count i })

-- where the gate is behind so many of the blocks, and which block follows
module _ (gate : ℕ) (blocks taken : List Rows) where
  abbrev Needs : List Rows → Rows → ℕ
  Needs front rows = gate + size_of front + 11 + length (rows_bytes rows)

  pub needed : (rest : List Rows) (rows : Rows) → blocks ≡ taken ++ rows ∷ rest → Needs (take (length taken) blocks) (next_block blocks (length taken)) ≡ Needs taken rows
  needed rest rows split =
      let front : take (length taken) blocks ≡ taken = ap (λ (bs : List Rows). take (length taken) bs) split ∙ take_at taken (rows ∷ rest) (length taken) refl in
      let next : next_block blocks (length taken) ≡ rows = ap (λ (bs : List Rows). get_or bs (length taken) []) split ∙ get_or_at taken rows rest [] (length taken) refl in
      ap (λ (bs : List Rows). Needs bs (next_block blocks (length taken))) front ∙ ap (Needs taken) next

  -- behind all blocks stands the end block, which has no rows
  pub needed_at_end : blocks ≡ taken → Needs (take (length taken) blocks) (next_block blocks (length taken)) ≡ Needs taken []
  needed_at_end all =
      let front : take (length taken) blocks ≡ taken = ap (λ (bs : List Rows). take (length taken) bs) (all ∙ sym (append-nil taken)) ∙ take_at taken [] (length taken) refl in
      let next : next_block blocks (length taken) ≡ [] = get_or_past blocks (length taken) [] (omega (arith, ap length all)) in
      ap (λ (bs : List Rows). Needs bs (next_block blocks (length taken))) front ∙ ap (Needs taken) next

module _ (text : List ℕ) (columns : List Column) (olds : List Stored) (blocks taken rest : List Rows) (split : blocks ≡ taken ++ rest) (of_columns : All (IsRowOf columns) (together taken)) where
  -- a table with the blocks that were taken
  pub front_at : (ended : Bool) (image : List ℕ) → (IsTrue ended → rest ≡ []) → Holds image text (with_blocks olds taken) ended → IsFront text columns olds blocks image
  front_at ended image whole holds =
      let is : taken ≡ take (length taken) blocks = sym (ap (λ (bs : List Rows). take (length taken) bs) split ∙ take_at taken rest (length taken) refl) in
      let long : length blocks ≡ length taken + length rest = ap length split ∙ length-append taken rest in
      record {
        count = length taken;
        ended = ended;
        holds = subst (λ (bs : List Rows). Holds image text (with_blocks olds bs) ended) is holds;
        within = omega (arith, long);
        whole = λ is_ended. omega (arith, long, ap length (whole is_ended));
        of_columns = subst (λ (bs : List Rows). All (IsRowOf columns) (together bs)) is of_columns;
      }
