-- The buffer of a block, which is written as it stands.
use Rattle.std.specs.Prelude.{◌≡◌, ◌≤◌, ◌+◌, ◌-◌, ℕ, List, [], ◌∷◌, ◌++◌, length, take, drop}
use Rattle.commit_disk.specs.Table.{Stored, TableBlock, rows_block, block_bytes}

-- a block with no rows yet
abbrev pub no_rows : Stored
no_rows = record { count = 0; bytes = [] }

-- a block with one row more
abbrev pub with_row : Stored → List ℕ → Stored
with_row block row = record { count = block.count + 1; bytes = block.bytes ++ row }

-- what is written behind a block's gate: the block, and the next gate, closed
abbrev pub behind_gate : TableBlock → List ℕ
behind_gate block = block_bytes block ++ 0 ∷ []

-- what a buffer of so many rows stores: the bytes between the block's numbers and the next gate
abbrev pub stored_in : ℕ → List ℕ → Stored
stored_in count buffer = record { count = count; bytes = take (length buffer - 10) (drop 9 buffer) }

-- the buffer is as it will be written, and has room for any row that may be added
pub record IsBuffer (count : ℕ) (buffer : List ℕ) (capacity : ℕ) : Type 0 where
  pub written : buffer ≡ behind_gate (rows_block (stored_in count buffer))
  pub few : count ≤ 4096
  pub long : 10 ≤ length buffer
  pub short : length buffer ≤ 4456649
  pub room : 4456649 ≤ capacity
