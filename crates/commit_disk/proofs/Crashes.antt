-- What the images that a crash leaves hold.
use Rattle.std.proofs.Common.{◌≡◌, ◌⊎◌, ◌≤◌, ◌<◌, ◌+◌, ◌^◌, inl, inr, ⊎_elim, ℕ, List, [], ◌∷◌, ◌++◌, length, get_or, take, drop, Bool, true, false, ap, sym, subst, ◌∙◌, refl, arith, append_assoc, length-append, take-append-drop}
use Rattle.std.specs.List.{flat_map}
use Rattle.std.proofs.lemmas.Bool.{cases_lt, true≢false}
use Rattle.std.proofs.lemmas.List.{take_at, drop_more, get_or_at, append-nil}
use Rattle.outside.specs.Images.{Torn}
use Rattle.outside.specs.Disk.{DiskState}
use Rattle.outside.specs.Passing.{PassesOver}
use Rattle.outside.specs.Moments.{in_words}
use Rattle.commit_disk.specs.Table.{Stored, TableBlock, rows_block, end_block, IsTableBlock, AreInPlace, HoldsBlocks, HoldsBlocksUpTo, Holds, IsNotMade, front, head, opened, block_bytes, content_of, table, has_end}
use Rattle.commit_disk.specs.Buffer.{behind_gate}
use Rattle.commit_disk.specs.Gate.{HasClosedGate, HasClosedGateAt, KeepsClosed, OpensGate}
use Rattle.commit_disk.specs.Crashes.{IsBeforeOrAfter, HasStill, Grows}
use Rattle.commit_disk.specs.RowTables.{table_more, table_ended, end_of_table, none_follow}
use Rattle.commit_disk.proofs.Tables.{commits, made, length-head}
use Rattle.commit_disk.proofs.Once.{once}

-- a file that isn't made and has no closed gate is short
short_unclosed : (file : List ℕ) → IsNotMade file → (HasClosedGate file → ⊥) → length file < 17
short_unclosed file (inl short) none = short
short_unclosed file (inr shut) none = elim (cases_lt 0 (length file)) [
  | inl some ↦ absurd (none (record { some = some; closed = shut }))
  | inr nothing ↦ omega arith
]

-- and stays short, where a crash tears the write that closes its gate
pub torn_unclosed : (file image : List ℕ) → IsNotMade file → (HasClosedGate file → ⊥) → Torn 0 1 file image → IsNotMade image
torn_unclosed file image not_made none torn = inl (omega (arith, short_unclosed file not_made none, torn.no_longer))

-- behind a closed gate that was kept the image holds what it held, whatever stands behind it
pub holds_kept : (place : ℕ) (old image text : List ℕ) (blocks : List TableBlock) → HoldsBlocksUpTo place old text blocks → KeepsClosed place old image → HoldsBlocks image text blocks
holds_kept place old image text blocks was keeps =
    let begins = front text blocks in
    let before : take place image ≡ begins = keeps.before ∙ ap (λ (l : List ℕ). take place l) was.holds.spelled ∙ take_at begins (was.holds.gate ∷ was.holds.rest) place was.at in
    record {
      gate = get_or image place 0;
      rest = drop (place + 1) image;
      spelled = sym (take-append-drop place image) ∙ ap (λ (l : List ℕ). l ++ drop place image) before ∙ ap (λ (l : List ℕ). begins ++ l) (drop_more image place 0 keeps.gate.some);
      closed = keeps.gate.closed;
      short = was.holds.short;
      stored = was.holds.stored;
      placed = was.holds.placed;
      room = was.holds.room;
    }

-- an image that holds blocks up to a gate has a closed gate there
pub closed_gate : (place : ℕ) (file text : List ℕ) (blocks : List TableBlock) → HoldsBlocksUpTo place file text blocks → HasClosedGateAt place file
closed_gate place file text blocks holds =
    let begins = front text blocks in
    let byte : get_or file place 0 ≡ holds.holds.gate = ap (λ (l : List ℕ). get_or l place 0) holds.holds.spelled ∙ get_or_at begins holds.holds.gate holds.holds.rest 0 place holds.at in
    record {
      some = omega (arith, ap length holds.holds.spelled, length-append begins (holds.holds.gate ∷ holds.holds.rest), holds.at);
      closed = λ is. holds.holds.closed (sym byte ∙ is);
    }

-- a made image is no image that isn't made
pub not_both : (image text : List ℕ) (blocks : List TableBlock) → HoldsBlocks image text blocks → IsNotMade image → ⊥
unfolding head
not_both image text blocks holds (inl short) =
    let body = flat_map (λ block. opened (block_bytes block)) blocks in
    omega (arith, ap length holds.spelled, length-append (front text blocks) (holds.gate ∷ holds.rest), length-append (opened (head text)) body, length-head text)
not_both image text blocks holds (inr shut) = shut (ap (λ (l : List ℕ). get_or l 0 0) holds.spelled)

-- while the gate of a block is opened, over a table whose first closed gate it is
pub block_passes : (place at : ℕ) (old behind : List ℕ) (before now : DiskState) (block : TableBlock) → IsTableBlock block → place ≡ at → behind ≡ behind_gate block
    → at + 11 + length (content_of block).bytes ≤ 2 ^ 48
    → (HasClosedGateAt place old → PassesOver (KeepsClosed place old) (OpensGate place behind old) before now)
    → (text : List ℕ) (blocks : List TableBlock) → AreInPlace (blocks ++ block ∷ []) → HoldsBlocksUpTo at old text blocks
    → PassesOver (λ image. HoldsBlocks image text blocks) (λ image. HoldsBlocks image text (blocks ++ block ∷ [])) before now
block_passes place at old behind before now block good is writes room passes text blocks placed was =
    let here : HoldsBlocksUpTo place old text blocks = subst (λ (p : ℕ). HoldsBlocksUpTo p old text blocks) (sym is) was in
    in_words _ _ _ _ before now (λ image keeps. holds_kept place old image text blocks here keeps)
    (λ image opens. inr (commits place old image (place + 10 + length (content_of block).bytes) block good refl (omega arith)
    (subst (λ (b : List ℕ). OpensGate place b old image) writes opens) text blocks placed here).holds)
    (passes (closed_gate place old text blocks here))

-- an image has still what it has
has_itself : (text image : List ℕ) → HasStill text image image
has_itself text image = record { blocks = λ had it. it; ended = λ had it. it }

-- the blocks of a table that has one block more
longer_table : (blocks : List Stored) (block : TableBlock) → (more : List Stored) × (ended : Bool) × (table blocks false ++ block ∷ [] ≡ table (blocks ++ more) ended)
longer_table blocks (rows_block rows) = (rows ∷ [], false, table_more blocks rows)
longer_table blocks end_block = ([], true, table_ended blocks ∙ ap (λ (bs : List Stored). table bs true) (sym (append-nil blocks)))

-- a table behind which a block may stand isn't ended
not_ended : (blocks : List Stored) (ended : Bool) (block : TableBlock) (all : List TableBlock) → table blocks ended ≡ all → AreInPlace (all ++ block ∷ []) → ended ≡ false
not_ended blocks false block all is placed = refl
not_ended blocks true block all is placed = absurd (none_follow all block (ap has_end (sym is) ∙ end_of_table blocks true) placed)

-- a table with a block more has still what the shorter one has
has_more : (text old image : List ℕ) (blocks : List TableBlock) (block : TableBlock) → AreInPlace (blocks ++ block ∷ []) → HoldsBlocks old text blocks → IsBeforeOrAfter text blocks block image → HasStill text old image
has_more text old image blocks block placed was either = record {
  blocks = λ had has_blocks.
      elim has_blocks [
        | inl has ↦
            let same : table (had ++ has.0) has.1 ≡ blocks = (once old text text (table (had ++ has.0) has.1) blocks has.2 was).1 in
            let open_yet : has.1 ≡ false = not_ended (had ++ has.0) has.1 block blocks same placed in
            let unended : table (had ++ has.0) false ≡ blocks = ap (λ (b : Bool). table (had ++ has.0) b) (sym open_yet) ∙ same in
            let longer = longer_table (had ++ has.0) block in
            inl (⊎_elim
            (λ is_before. (has.0, false, subst (HoldsBlocks image text) (sym unended) is_before))
            (λ is_after. (
              has.0 ++ longer.0,
              longer.1,
              subst (HoldsBlocks image text)
                  (ap (λ (bs : List TableBlock). bs ++ block ∷ []) (sym unended) ∙ longer.2 ∙ ap (λ (bs : List Stored). table bs longer.1) (append_assoc had has.0 longer.0)) is_after,
            ))
            either)
        | inr none ↦ absurd (not_both old text blocks was none.0)
      ];
  ended = λ had has. absurd (true≢false (not_ended had true block blocks (once old text text (table had true) blocks has was).1 placed));
}

-- an empty table, or none, has still what an image that isn't made has
has_none : (text old image : List ℕ) → IsNotMade old → IsNotMade image ⊎ Holds image text [] false → HasStill text old image
has_none text old image was either = record {
  blocks = λ had has_blocks.
      elim has_blocks [
        | inl has ↦ absurd (not_both old text (table (had ++ has.0) has.1) has.2 was)
        | inr none ↦ ⊎_elim
            (λ not_made. inr (not_made, none.1))
            (λ empty. inl ([], false, subst (λ (bs : List Stored). Holds image text bs false) (sym (append-nil had ∙ none.1)) empty))
            either
      ];
  ended = λ had has. absurd (not_both old text (table had true) has was);
}

module _ (text : List ℕ) (before now : DiskState) where
  -- where the images pass over, and keep what the first had, nothing is lost
  grows : (Before After : List ℕ → Type 0) → ((old image : List ℕ) → Before old → Before image ⊎ After image → HasStill text old image) → PassesOver Before After before now → Grows text before now
  grows Before After still passes = record {
    keeps = λ u v from le to image it.
        elim (passes.ordered u v from le to) [
          | inl fewer ↦ (image, fewer image it, has_itself text image)
          | inr some ↦ (some.0, some.1, still some.0 image some.2 (passes.either image (v, omega arith, to, it)))
        ];
  }

  -- where a table passes over to one with a block more
  pub grows_by : (blocks : List TableBlock) (block : TableBlock) → AreInPlace (blocks ++ block ∷ [])
      → PassesOver (λ image. HoldsBlocks image text blocks) (λ image. HoldsBlocks image text (blocks ++ block ∷ [])) before now → Grows text before now
  grows_by blocks block placed = grows _ _ (λ old image. has_more text old image blocks block placed)

  -- and where a table is made
  pub grows_made : PassesOver IsNotMade (λ image. Holds image text [] false) before now → Grows text before now
  grows_made = grows _ _ (has_none text)

-- while the made gate is opened
pub leaves_made : (text old image : List ℕ) → length text ≤ 65536 → HasClosedGate old → OpensGate 0 (head text ++ 0 ∷ []) old image → Holds image text [] false
leaves_made text old image short was opens = (made (16 + length text) old image text short refl was opens).holds
