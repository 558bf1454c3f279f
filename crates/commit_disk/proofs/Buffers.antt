-- The buffer of a block, kept as it will be written.
use Rattle.std.proofs.Common.{◌≡◌, ◌≤◌, ◌<◌, ◌+◌, ◌-◌, ℕ, List, [], ◌∷◌, ◌++◌, length, take, drop, ap, sym, ◌∙◌, refl, arith, length-append}
use Rattle.std.specs.Int.{w32, to_be_bytes}
use Rattle.std.proofs.lemmas.List.{take_at}
use Rattle.commit_disk.specs.Table.{Stored, TableBlock, rows_block, content_of, block_bytes}
use Rattle.commit_disk.specs.Buffer.{with_row, behind_gate, stored_in, IsBuffer}

pub length-block_bytes : (block : TableBlock) → length (block_bytes block) ≡ 9 + length (content_of block).bytes
unfolding block_bytes
length-block_bytes block = omega arith

pub length-behind_gate : (block : TableBlock) → length (behind_gate block) ≡ 10 + length (content_of block).bytes
length-behind_gate block = omega (arith, length-block_bytes block, length-append (block_bytes block) (0 ∷ []))

-- the bytes between the block's numbers and the next gate
bytes_in : (block : Stored) → take (length (behind_gate (rows_block block)) - 10) (drop 9 (behind_gate (rows_block block))) ≡ block.bytes
unfolding block_bytes
bytes_in block = take_at block.bytes (0 ∷ []) _ (omega (arith, length-append block.bytes (0 ∷ [])))

-- a buffer that will be written as a block stores the block
pub stored_in-behind_gate : (block : Stored) (buffer : List ℕ) → buffer ≡ behind_gate (rows_block block) → stored_in block.count buffer ≡ block
stored_in-behind_gate block buffer is =
    ap (λ (b : List ℕ). stored_in block.count b) is ∙ ap (λ (bytes : List ℕ). record { count = block.count; bytes = bytes }) (bytes_in block)

pub is_buffer : (block : Stored) (buffer : List ℕ) (capacity : ℕ) → buffer ≡ behind_gate (rows_block block) → block.count ≤ 4096 → length block.bytes < 4456640 → 4456649 ≤ capacity → IsBuffer block.count buffer capacity
is_buffer block buffer capacity is few short room =
    let long : length buffer ≡ 10 + length block.bytes = ap length is ∙ length-behind_gate (rows_block block) in
    record {
      written = is ∙ ap (λ (b : Stored). behind_gate (rows_block b)) (sym (stored_in-behind_gate block buffer is));
      few = few;
      long = omega arith;
      short = omega arith;
      room = room;
    }

-- with a row in the place of the next gate, and the next gate behind it
row_pushed : (block : Stored) (row : List ℕ) (n : ℕ) → n ≡ length (behind_gate (rows_block block)) - 1 → take n (behind_gate (rows_block block)) ++ row ++ 0 ∷ [] ≡ block_bytes (rows_block block) ++ row ++ 0 ∷ []
row_pushed block row n is =
    ap (λ (bytes : List ℕ). bytes ++ row ++ 0 ∷ []) (take_at (block_bytes (rows_block block)) (0 ∷ []) n (omega (arith, length-block_bytes (rows_block block), length-behind_gate (rows_block block))))

-- and with the numbers written anew
numbers_written : (block : Stored) (row : List ℕ) (len : ℕ) → len ≡ length block.bytes + length row
    → take 1 (block_bytes (rows_block block) ++ row ++ 0 ∷ []) ++ to_be_bytes w32 (block.count + 1) ++ to_be_bytes w32 len ++ drop 9 (block_bytes (rows_block block) ++ row ++ 0 ∷ []) ≡ behind_gate (rows_block (with_row block row))
unfolding block_bytes
numbers_written block row len is = rw (is, ← length-append block.bytes row) refl

-- the buffer will be written as the block with one row more
pub row_added : (block : Stored) (row old pushed new : List ℕ) (n len : ℕ) → old ≡ behind_gate (rows_block block) → pushed ≡ take n old ++ row ++ 0 ∷ [] → n ≡ length old - 1 → len ≡ length pushed - 10
    → new ≡ take 1 pushed ++ to_be_bytes w32 (block.count + 1) ++ to_be_bytes w32 len ++ drop 9 pushed → new ≡ behind_gate (rows_block (with_row block row))
row_added block row old pushed new n len was pushes keeps counts writes =
    let is : pushed ≡ block_bytes (rows_block block) ++ row ++ 0 ∷ [] = pushes ∙ ap (λ (l : List ℕ). take n l ++ row ++ 0 ∷ []) was ∙ row_pushed block row n (keeps ∙ ap (λ (l : List ℕ). length l - 1) was) in
    let size : length pushed ≡ 10 + length block.bytes + length row =
    omega (arith, ap length is, length-append (block_bytes (rows_block block) ++ row) (0 ∷ []), length-append (block_bytes (rows_block block)) row, length-block_bytes (rows_block block)) in
    writes ∙ ap (λ (l : List ℕ). take 1 l ++ to_be_bytes w32 (block.count + 1) ++ to_be_bytes w32 len ++ drop 9 l) is ∙ numbers_written block row len (omega arith)
