-- Tables of rows, ended or not: laws which any caller may cite.
use Rattle.std.specs.Prelude.{◌≡◌, ◌⊎◌, ◌+◌, ℕ, List, [], ◌∷◌, ◌++◌, length, map, Bool, true, false}
use Rattle.std.proofs.Common.{◌∙◌, ap, sym, subst, refl, arith, inl, inr, ⊎_elim, drop, length-append}
use Rattle.std.proofs.lemmas.Bool.{true≢false}
use Rattle.std.proofs.lemmas.List.{append-nil, map-append}
use Rattle.outside.specs.Images.{Each}
use Rattle.commit_disk.specs.Table.{Stored, TableBlock, rows_block, end_block, AreInPlace, HoldsBlocks, HoldsBlocksUpTo, HoldsOnce, Holds, HoldsUpTo, table, front, row_blocks, has_end}
use Rattle.commit_disk.specs.Journal.{JournalState, Commits}
use Rattle.commit_disk.specs.Crashes.{LeavesWhole}
use Rattle.commit_disk.specs.Attach.{TellsOf, rows_in}

-- behind blocks with no end any block may stand
pub may_follow : (blocks : List TableBlock) (block : TableBlock) → has_end blocks ≡ false
    → AreInPlace (blocks ++ block ∷ [])
may_follow [] block none [] behind is = sym (ap (λ (l : List TableBlock). drop 1 l) is)
may_follow [] block none (b ∷ before) behind is =
    absurd (omega (arith, ap length is, length-append before (end_block ∷ behind)))
may_follow (rows_block rows ∷ blocks) block none [] behind is = absurd cc
may_follow (rows_block rows ∷ blocks) block none (b ∷ before) behind is =
    may_follow blocks block none before behind (ap (λ (l : List TableBlock). drop 1 l) is)
may_follow (end_block ∷ blocks) block none before behind is = absurd (true≢false none)

-- behind an end block none may stand
pub none_follow : (blocks : List TableBlock) (block : TableBlock) → has_end blocks ≡ true
    → AreInPlace (blocks ++ block ∷ []) → ⊥
none_follow [] block some placed = absurd (true≢false (sym some))
none_follow (rows_block rows ∷ blocks) block some placed =
    none_follow blocks block some
    (λ before behind is. placed (rows_block rows ∷ before) behind (λ i. rows_block rows ∷ is i))
none_follow (end_block ∷ blocks) block some placed =
    absurd (omega (arith, ap length (placed [] (blocks ++ block ∷ []) refl), length-append blocks (block ∷ [])))

-- a table of rows has these rows
pub rows_of_table : (rows : List Stored) (ended : Bool) → row_blocks (table rows ended) ≡ rows
unfolding table
rows_of_table [] true = refl
rows_of_table [] false = refl
rows_of_table (r ∷ rows) ended = ap (λ (l : List Stored). r ∷ l) (rows_of_table rows ended)

-- and an end where it is ended
pub end_of_table : (rows : List Stored) (ended : Bool) → has_end (table rows ended) ≡ ended
unfolding table
end_of_table [] true = refl
end_of_table [] false = refl
end_of_table (r ∷ rows) ended = end_of_table rows ended

-- blocks that are in place are the table of their rows
pub as_table : (blocks : List TableBlock) → AreInPlace blocks → blocks ≡ table (row_blocks blocks) (has_end blocks)
unfolding table
as_table [] placed = refl
as_table (rows_block rows ∷ blocks) placed =
    ap (λ (l : List TableBlock). rows_block rows ∷ l)
    (as_table blocks (λ before behind is. placed (rows_block rows ∷ before) behind (λ i. rows_block rows ∷ is i)))
as_table (end_block ∷ blocks) placed =
    let none : blocks ≡ [] = placed [] blocks refl in
    ap (λ (l : List TableBlock). end_block ∷ l) none
    ∙ ap (λ (l : List TableBlock). table (row_blocks (end_block ∷ l)) true) (sym none)

-- one block of rows more
pub table_more : (olds : List Stored) (rows : Stored)
    → table olds false ++ rows_block rows ∷ [] ≡ table (olds ++ rows ∷ []) false
unfolding table
table_more olds rows =
    ap (λ (l : List TableBlock). l ++ rows_block rows ∷ []) (append-nil (map rows_block olds))
    ∙ sym (map-append rows_block olds (rows ∷ []))
    ∙ sym (append-nil (map rows_block (olds ++ rows ∷ [])))

-- and the end
pub table_ended : (olds : List Stored) → table olds false ++ end_block ∷ [] ≡ table olds true
unfolding table
table_ended olds = ap (λ (l : List TableBlock). l ++ end_block ∷ []) (append-nil (map rows_block olds))

-- any block may stand behind a table that isn't ended
pub follows_table : (olds : List Stored) (block : TableBlock) → AreInPlace (table olds false ++ block ∷ [])
follows_table olds block = may_follow (table olds false) block (end_of_table olds false)

-- what is held is held as a table of rows
pub holds_rows_up_to : (place : ℕ) (image text : List ℕ) (blocks : List TableBlock)
    → HoldsBlocksUpTo place image text blocks
    → HoldsUpTo place image text (row_blocks blocks) (has_end blocks)
holds_rows_up_to place image text blocks held =
    subst (HoldsBlocksUpTo place image text) (as_table blocks held.holds.placed) held

-- of which table of rows a journal tells
pub told_rows : (journal : JournalState) (image text : List ℕ) (told : TellsOf journal image text)
    → HoldsUpTo journal.gate image text (row_blocks told.blocks) journal.ended
told_rows journal image text told =
    subst (λ (b : Bool). HoldsUpTo journal.gate image text (row_blocks told.blocks) b) (sym told.ended)
    (holds_rows_up_to journal.gate image text told.blocks told.holds)

-- the journal of a table of these rows, ended or not
abbrev pub journal_of : List ℕ → List Stored → Bool → JournalState
journal_of text blocks ended = record {
  first = 16 + length text;
  gate = length (front text (table blocks ended));
  count = rows_in blocks;
  ended = ended;
  sound = true;
}

-- tells of it
pub table_tells : (image text : List ℕ) (blocks : List Stored) (ended : Bool) → Holds image text blocks ended
    → TellsOf (journal_of text blocks ended) image text
table_tells image text blocks ended holds = record {
  blocks = table blocks ended;
  holds = record { holds = holds; at = refl };
  first = refl;
  counts = ap rows_in (sym (rows_of_table blocks ended));
  ended = sym (end_of_table blocks ended);
  sound = refl;
}

-- an image holds the rows of one table at most, ended or not
pub holds_rows_once : HoldsOnce
    → (image text other : List ℕ) (blocks others : List Stored) (ended stopped : Bool) → Holds image text blocks ended
    → Holds image other others stopped → (text ≡ other) × (blocks ≡ others) × (ended ≡ stopped)
holds_rows_once once image text other blocks others ended stopped one two =
    let same = once image text other (table blocks ended) (table others stopped) one two in (
      same.0,
      sym (rows_of_table blocks ended) ∙ ap row_blocks same.1 ∙ rows_of_table others stopped,
      sym (end_of_table blocks ended) ∙ ap has_end same.1 ∙ end_of_table others stopped,
    )

-- a block of rows is committed behind a table that isn't ended
pub commits_rows : (gate next : ℕ) (rows : Stored) (old new : List ℕ) → Commits gate next (rows_block rows) old new
    → (text : List ℕ) (olds : List Stored) → HoldsUpTo gate old text olds false
    → HoldsUpTo next new text (olds ++ rows ∷ []) false
commits_rows gate next rows old new commits text olds was =
    subst (HoldsBlocksUpTo next new text) (table_more olds rows)
    (commits text (table olds false) (follows_table olds (rows_block rows)) was)

-- and so is the end
pub commits_end : (gate next : ℕ) (old new : List ℕ) → Commits gate next end_block old new
    → (text : List ℕ) (olds : List Stored) → HoldsUpTo gate old text olds false → HoldsUpTo next new text olds true
commits_end gate next old new commits text olds was =
    subst (HoldsBlocksUpTo next new text) (table_ended olds)
    (commits text (table olds false) (follows_table olds end_block) was)

-- what a crash leaves of a table that isn't ended, while a block of rows is committed
pub leaves_rows : (gate : ℕ) (rows : Stored) (old : List ℕ) (images : List ℕ → Type 0)
    → LeavesWhole gate (rows_block rows) old images
    → (text : List ℕ) (olds : List Stored) → HoldsUpTo gate old text olds false
    → Each images (λ image. Holds image text olds false ⊎ Holds image text (olds ++ rows ∷ []) false)
leaves_rows gate rows old images whole text olds was image left =
    ⊎_elim (λ before. inl before) (λ both. inr (subst (HoldsBlocks image text) (table_more olds rows) both))
    (whole text (table olds false) (follows_table olds (rows_block rows)) was image left)

-- and while the end is
pub leaves_ended : (gate : ℕ) (old : List ℕ) (images : List ℕ → Type 0) → LeavesWhole gate end_block old images
    → (text : List ℕ) (olds : List Stored) → HoldsUpTo gate old text olds false
    → Each images (λ image. Holds image text olds false ⊎ Holds image text olds true)
leaves_ended gate old images whole text olds was image left =
    ⊎_elim (λ before. inl before) (λ both. inr (subst (HoldsBlocks image text) (table_ended olds) both))
    (whole text (table olds false) (follows_table olds end_block) was image left)
