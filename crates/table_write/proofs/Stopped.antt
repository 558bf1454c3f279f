-- How far images differ where an append stopped.
use Rattle.std.proofs.Common.{◌≡◌, ◌≤◌, ◌⊎◌, inl, inr, ℕ, ◌+◌, List, length, take, map, Bool, false, true, refl, sym, ap, ◌∙◌, length-append, arith}
use Rattle.std.proofs.lemmas.List.{length-take-le, length-map}
use Rattle.tuple_schema.specs.declared.value.Value.{Value}
use Rattle.commit_disk.specs.Table.{Stored, Holds, HoldsOnce}
use Rattle.commit_disk.specs.RowTables.{holds_rows_once}
use Rattle.table_write.specs.Rows.{stored_of}
use Rattle.table_write.specs.Adds.{with_blocks, IsStepOn, StopsBetween}

-- so many blocks stand behind the old ones
count_of : (olds : List Stored) (blocks : List (List (List Value))) → length (with_blocks olds blocks) ≡ length olds + length blocks
count_of olds blocks = length-append olds (map stored_of blocks) ∙ ap (λ (n : ℕ). length olds + n) (rw length-map refl)

-- the same blocks are as many
same_count : (olds : List Stored) (blocks : List (List (List Value))) (some other : ℕ) → some ≤ length blocks → other ≤ length blocks
    → with_blocks olds (take some blocks) ≡ with_blocks olds (take other blocks) → some ≡ other
same_count olds blocks some other some_in other_in same = omega (
  arith,
  ap length same,
  count_of olds (take some blocks),
  count_of olds (take other blocks),
  length-take-le some blocks some_in,
  length-take-le other blocks other_in,
)

module _ (once : HoldsOnce) (text : List ℕ) (olds : List Stored) (blocks : List (List (List Value))) where
  -- an image that is one step on at most holds that many blocks, or one more
  step_count : (count : ℕ) → count ≤ length blocks → (image : List ℕ)
      → Holds image text (with_blocks olds (take count blocks)) false ⊎ IsStepOn text olds blocks count image
      → (holds : ℕ) (ended : Bool) → holds ≤ length blocks → Holds image text (with_blocks olds (take holds blocks)) ended
      → (count ≤ holds) × (holds ≤ count + 1)
  step_count count within image (inl has) holds ended few is =
      let same = same_count olds blocks count holds within few (holds_rows_once once image text text _ _ false ended has is).1 in
      (omega (arith, same), omega (arith, same))
  step_count count within image (inr (inl more)) holds ended few is =
      let same = same_count olds blocks (count + 1) holds (omega (arith, more.0)) few (holds_rows_once once image text text _ _ false ended more.1 is).1 in
      (omega (arith, same), omega (arith, same))
  step_count count within image (inr (inr end)) holds ended few is =
      let all : length olds + length blocks ≡ length olds + length (take holds blocks) =
      sym (count_of olds blocks) ∙ ap length (holds_rows_once once image text text _ _ true ended end.1 is).1 ∙ count_of olds (take holds blocks) in
      let taken = length-take-le holds blocks few in
      (omega (arith, all, taken, end.0), omega (arith, all, taken, end.0))

  -- of two images one is one block ahead at most
  pub one_ahead : (images : List ℕ → Type 0) → StopsBetween text olds blocks images → (some other : List ℕ) → images some → images other
      → (more fewer : ℕ) (ended stopped : Bool) → more ≤ length blocks → fewer ≤ length blocks
      → Holds some text (with_blocks olds (take more blocks)) ended → Holds other text (with_blocks olds (take fewer blocks)) stopped
      → more ≤ fewer + 1
  one_ahead images stops some other left_some left_other more fewer ended stopped more_in fewer_in is_some is_other =
      let high = step_count stops.count stops.within some (stops.each some left_some) more ended more_in is_some in
      let low = step_count stops.count stops.within other (stops.each other left_other) fewer stopped fewer_in is_other in
      omega (arith, high.1, low.0)
