-- What a journal tells of its table, and what its calls do to the image.
use Rattle.std.specs.Prelude.{◌≤◌, ◌<◌, ◌+◌, ◌*◌, ◌^◌, ℕ, List, [], ◌∷◌, ◌++◌, length, Bool, true, false}
use Rattle.commit_disk.specs.Table.{TableBlock, rows_block, end_block, AreInPlace, HoldsBlocksUpTo}

-- the places of the first block's gate and of the first closed gate, how many rows there are,
-- whether the table is ended, and whether all of this is still known
pub record JournalState : Type 0 where
  pub first : ℕ
  pub gate : ℕ
  pub count : ℕ
  pub ended : Bool
  pub sound : Bool

-- the journal of a table of this text that has no rows yet
abbrev pub new_journal : List ℕ → JournalState
new_journal text = record { first = 16 + length text; gate = 16 + length text; count = 0; ended = false; sound = true }

-- the journal after a block that was committed
abbrev pub after : JournalState → TableBlock → JournalState
after old (rows_block rows) = record old { gate = old.gate + 10 + length rows.bytes; count = old.count + rows.count }
after old end_block = record old { gate = old.gate + 10; ended = true }

-- the gates are in order and within the longest file, and so the rows can be counted
pub record IsInOrder (first gate count : ℕ) : Type 0 where
  pub ordered : first ≤ gate
  pub room : gate < 2 ^ 48
  pub counted : count ≤ 4096 * gate

-- whatever the old image holds up to the old gate, behind which this block may stand, the new one holds with the block
-- behind it, up to the next gate
abbrev pub Commits : ℕ → ℕ → TableBlock → List ℕ → List ℕ → Type 0
Commits gate next block old new =
    (text : List ℕ) (blocks : List TableBlock) → AreInPlace (blocks ++ block ∷ [])
    → HoldsBlocksUpTo gate old text blocks → HoldsBlocksUpTo next new text (blocks ++ block ∷ [])
