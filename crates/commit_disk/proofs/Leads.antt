-- How the blocks of a table lead from gate to gate.
use Rattle.std.proofs.Common.{◌≡◌, ◌≢◌, ◌≤◌, ◌<◌, ◌+◌, ◌-◌, ◌^◌, ℕ, List, [], ◌∷◌, ◌++◌, length, get_or, take, drop, true, false, min, ap, sym, subst, ◌∙◌, refl, arith, append_assoc, length-append, length-drop, take-append-drop}
use Rattle.std.specs.List.{flat_map}
use Rattle.std.specs.Int.{w32, to_be_bytes}
use Rattle.std.proofs.Math.Seq.{take-add}
use Rattle.std.proofs.lemmas.List.{drop_at, drop_more, drop-take, take-take, length-take-le, get_or_push, get_or_at, take_at, take-append-le, drop-drop, nil_from_length}
use Rattle.std.proofs.lemmas.List.Sums.{sum_by_push}
use Rattle.std.proofs.lemmas.List.Elements.{All-push, All-get_or}
use Rattle.commit_disk.specs.declared.block_head.BlockHead.{BlockHead}
use Rattle.commit_disk.specs.declared.block_head.BlockHead.TheVariants.{Rows, End}
use Rattle.commit_disk.specs.Table.{Stored, TableBlock, rows_block, end_block, IsTableBlock, HoldsBlocksUpTo, front, opened, block_bytes, kind_of, content_of, row_blocks, has_end}
use Rattle.commit_disk.specs.Journal.{JournalState, after}
use Rattle.commit_disk.specs.RowTables.{may_follow, none_follow}
use Rattle.commit_disk.specs.BlockHeads.{len_in, head_bytes, IsHeadOf, IsBlockAt, IsAllowed, StandsIn, passed}
use Rattle.commit_disk.specs.Attach.{LeadsTo, IsStuck, TellsOf, rows_in}
use Rattle.commit_disk.specs.Frames.{IsOnTheWay}
use Rattle.commit_disk.proofs.Buffers.{length-block_bytes}
use Rattle.commit_disk.proofs.Tables.{front-push, front-part}
use Rattle.commit_disk.proofs.Frames.{heads_same}

-- the front ends at the gate
pub leads_at : (place : ℕ) (image text : List ℕ) (blocks : List TableBlock) → LeadsTo place image text blocks → length (front text blocks) ≡ place
leads_at place image text blocks leads = sym (ap length leads.spelled) ∙ length-take-le place image (omega (arith, leads.gate))

-- and behind it stand the gate and the rest of the image
pub leads_spelled : (place : ℕ) (image text : List ℕ) (blocks : List TableBlock) → LeadsTo place image text blocks → image ≡ front text blocks ++ get_or image place 0 ∷ drop (place + 1) image
leads_spelled place image text blocks leads =
    sym (take-append-drop place image) ∙ ap (λ (l : List ℕ). l ++ drop place image) leads.spelled ∙ ap (λ (l : List ℕ). front text blocks ++ l) (drop_more image place 0 leads.gate)

-- a table that leads to a closed gate is held
pub leads_holds : (place : ℕ) (image text : List ℕ) (blocks : List TableBlock) → LeadsTo place image text blocks → get_or image place 0 ≢ 1 → HoldsBlocksUpTo place image text blocks
leads_holds place image text blocks leads shut =
    let at = leads_at place image text blocks leads in
    record {
      holds = record {
        gate = get_or image place 0;
        rest = drop (place + 1) image;
        spelled = leads_spelled place image text blocks leads;
        closed = shut;
        short = leads.short;
        stored = leads.stored;
        placed = leads.placed;
        room = omega (arith, at, leads.room);
      };
      at = at;
    }

-- the block with this head and these rows
abbrev block_with : BlockHead → List ℕ → TableBlock
block_with (Rows count len) rows = rows_block (record { count = count; bytes = rows })
block_with End rows = end_block

spelled_with : (head : BlockHead) (rows : List ℕ) → length rows ≡ len_in head → block_bytes (block_with head rows) ≡ head_bytes head ++ rows
unfolding block_bytes
spelled_with (Rows count len) rows size = ap (λ (n : ℕ). (0 ∷ to_be_bytes w32 count ++ to_be_bytes w32 n) ++ rows) size
spelled_with End rows size = ap (λ (l : List ℕ). head_bytes End ++ l) (sym (nil_from_length rows size))

is_with : (head : BlockHead) (rows : List ℕ) → length rows ≡ len_in head → IsHeadOf head (block_with head rows)
is_with (Rows count len) rows size = (refl, sym size)
is_with End rows size = tt

good_with : (head : BlockHead) (rows : List ℕ) → length rows ≡ len_in head → IsAllowed head → IsTableBlock (block_with head rows)
good_with (Rows count len) rows size good = record { some = good.0; few = good.1; short = omega (arith, good.2, size) }
good_with End rows size good = tt

-- the head of a block that may stand in a table
abbrev pub head_of : TableBlock → BlockHead
head_of (rows_block rows) = Rows rows.count (length rows.bytes)
head_of end_block = End

head_allowed : (block : TableBlock) → IsTableBlock block → IsAllowed (head_of block)
head_allowed (rows_block rows) good = (good.some, good.few, good.short)
head_allowed end_block good = tt

head_begins : (block : TableBlock) → take 9 (block_bytes block) ≡ head_bytes (head_of block)
unfolding block_bytes
head_begins (rows_block rows) = refl
head_begins end_block = refl

head_len : (block : TableBlock) → len_in (head_of block) ≡ length (content_of block).bytes
head_len (rows_block rows) = refl
head_len end_block = refl

module _ (place room : ℕ) (image text bytes : List ℕ) (blocks : List TableBlock) (leads : LeadsTo place image text blocks) (is_open : get_or image place 0 ≡ 1)
    (read : 10 ≤ room → bytes ≡ take 10 (drop place image)) (ends_at : place + room ≡ min (length image) (2 ^ 48)) where
  at : length (front text blocks) ≡ place
  at = leads_at place image text blocks leads

  from_gate : drop place image ≡ 1 ∷ drop (place + 1) image
  from_gate = drop_more image place 0 leads.gate ∙ ap (λ (b : ℕ). b ∷ drop (place + 1) image) is_open

  behind : 10 ≤ room → take 10 (drop place image) ≡ 1 ∷ drop 1 bytes
  behind long = ap (λ (l : List ℕ). take 10 l) from_gate ∙ ap (λ (l : List ℕ). 1 ∷ l) (sym (ap (λ (l : List ℕ). drop 1 l) (read long ∙ ap (λ (l : List ℕ). take 10 l) from_gate)))

  to_head : 10 ≤ room → take (place + 10) image ≡ front text blocks ++ 1 ∷ drop 1 bytes
  to_head long = take-add place 10 image ∙ ap (λ (l : List ℕ). l ++ take 10 (drop place image)) leads.spelled ∙ ap (λ (l : List ℕ). front text blocks ++ l) (behind long)

  -- where a head stands behind the open gate, its block leads on to the next gate
  pub head_leads : (head : BlockHead) → StandsIn room (drop 1 bytes) head → has_end blocks ≡ false
      → (block : TableBlock) × IsHeadOf head block × LeadsTo (place + 10 + len_in head) image text (blocks ++ block ∷ [])
  head_leads head is unended =
      let len = len_in head in
      let rows = take len (drop (place + 10) image) in
      let size : length rows ≡ len = length-take-le len (drop (place + 10) image) (omega (arith, is.fits, ends_at, length-drop (place + 10) image)) in
      let block = block_with head rows in
      let begins : take (place + 10) image ≡ front text blocks ++ 1 ∷ head_bytes head =
      to_head (omega (arith, is.fits)) ∙ ap (λ (l : List ℕ). front text blocks ++ 1 ∷ l) is.spelled in (
        block,
        is_with head rows size,
        record {
          spelled = take-add (place + 10) len image ∙ ap (λ (l : List ℕ). l ++ rows) begins ∙ append_assoc (front text blocks) (1 ∷ head_bytes head) rows
              ∙ ap (λ (l : List ℕ). front text blocks ++ 1 ∷ l) (sym (spelled_with head rows size)) ∙ sym (front-push text blocks block);
          gate = omega (arith, is.fits, ends_at);
          short = leads.short;
          stored = All-push IsTableBlock blocks block leads.stored (good_with head rows size is.allowed);
          placed = may_follow blocks block unended;
          room = omega (arith, is.fits, ends_at);
        },
      )

  -- what leads on from the gate begins with its head
  leads_on : (next : ℕ) (longer : List ℕ) → take next image ≡ front text blocks ++ opened longer → next < length image → next < 2 ^ 48 → 9 ≤ length longer → (next ≡ place + 1 + length longer) × (1 + length longer < room) × (drop 1 bytes ≡ take 9 longer)
  leads_on next longer spelled within below long =
      let reaches : next ≡ place + 1 + length longer = omega (arith, length-take-le next image (omega arith), ap length spelled, length-append (front text blocks) (opened longer), at) in
      let fits : 1 + length longer < room = omega (arith, ends_at) in
      let whole : take (1 + length longer) (drop place image) ≡ opened longer =
      sym (drop-take place (1 + length longer) image) ∙ ap (λ (n : ℕ). drop place (take n image)) (omega arith) ∙ ap (λ (l : List ℕ). drop place l) spelled ∙ drop_at (front text blocks) (opened longer) place at in
      let head : take 10 (drop place image) ≡ 1 ∷ take 9 longer =
      sym (take-take 10 (1 + length longer) (drop place image) (omega arith)) ∙ ap (λ (l : List ℕ). take 10 l) whole in
      (reaches, fits, ap (λ (l : List ℕ). drop 1 l) (read (omega arith) ∙ head))

  -- where no head of a block stands behind the open gate, the table is stuck
  pub stuck : ((head : BlockHead) → StandsIn room (drop 1 bytes) head → ⊥) → IsStuck place image text blocks
  stuck no_head = record {
    leads = leads;
    open_gate = is_open;
    no_block = λ block next on.
        let long = length-block_bytes block in
        let good : IsTableBlock block = subst IsTableBlock (get_or_push blocks block block (length blocks) refl) (All-get_or IsTableBlock (blocks ++ block ∷ []) (length blocks) block (omega (arith, length-append blocks (block ∷ []))) on.stored) in
        let went = leads_on next (block_bytes block) (on.spelled ∙ front-push text blocks block) on.gate on.room (omega (arith, long)) in
        no_head (head_of block) (record {
          allowed = head_allowed block good;
          fits = omega (arith, went.1, long, head_len block);
          spelled = went.2 ∙ head_begins block;
        });
  }

-- behind an end block no gate is open
pub stuck_behind_end : (place : ℕ) (image text : List ℕ) (blocks : List TableBlock) → LeadsTo place image text blocks → has_end blocks ≡ true → get_or image place 0 ≡ 1 → IsStuck place image text blocks
stuck_behind_end place image text blocks leads ended is_open = record {
  leads = leads;
  open_gate = is_open;
  no_block = λ block next on. none_follow blocks block ended on.placed;
}

row_blocks-rows : (blocks : List TableBlock) (rows : Stored) → row_blocks (blocks ++ rows_block rows ∷ []) ≡ row_blocks blocks ++ rows ∷ []
row_blocks-rows [] rows = refl
row_blocks-rows (rows_block b ∷ blocks) rows = ap (λ (l : List Stored). b ∷ l) (row_blocks-rows blocks rows)
row_blocks-rows (end_block ∷ blocks) rows = row_blocks-rows blocks rows

row_blocks-end : (blocks : List TableBlock) → row_blocks (blocks ++ end_block ∷ []) ≡ row_blocks blocks
row_blocks-end [] = refl
row_blocks-end (rows_block b ∷ blocks) = ap (λ (l : List Stored). b ∷ l) (row_blocks-end blocks)
row_blocks-end (end_block ∷ blocks) = row_blocks-end blocks

has_end-rows : (blocks : List TableBlock) (rows : Stored) → has_end (blocks ++ rows_block rows ∷ []) ≡ has_end blocks
has_end-rows [] rows = refl
has_end-rows (rows_block b ∷ blocks) rows = has_end-rows blocks rows
has_end-rows (end_block ∷ blocks) rows = refl

has_end-end : (blocks : List TableBlock) → has_end (blocks ++ end_block ∷ []) ≡ true
has_end-end [] = refl
has_end-end (rows_block b ∷ blocks) = has_end-end blocks
has_end-end (end_block ∷ blocks) = refl

-- a head tells the length of its block
pub len_of : (head : BlockHead) (block : TableBlock) → IsHeadOf head block → len_in head ≡ length (content_of block).bytes
len_of (Rows count len) (rows_block rows) is = is.1
len_of (Rows count len) end_block is = absurd is
len_of End (rows_block rows) is = absurd is
len_of End end_block is = refl

-- and the journal behind it is the journal behind its block
pub passed_after : (journal : JournalState) (head : BlockHead) (block : TableBlock) → IsHeadOf head block → passed journal head ≡ after journal block
passed_after journal (Rows count len) (rows_block rows) is = λ i. record journal { gate = journal.gate + 10 + is.1 i; count = journal.count + is.0 i }
passed_after journal (Rows count len) end_block is = absurd is
passed_after journal End (rows_block rows) is = absurd is
passed_after journal End end_block is = refl

-- the journal behind a block with this head counts its rows, and is ended by the end
pub passed_on : (journal : JournalState) (head : BlockHead) (block : TableBlock) (blocks : List TableBlock) → IsHeadOf head block → has_end blocks ≡ false
    → journal.count ≡ rows_in (row_blocks blocks) → journal.ended ≡ has_end blocks
    → ((passed journal head).count ≡ rows_in (row_blocks (blocks ++ block ∷ []))) × ((passed journal head).ended ≡ has_end (blocks ++ block ∷ []))
passed_on journal (Rows count len) (rows_block rows) blocks is unended counts ended = (
  ap (λ (n : ℕ). n + count) counts ∙ ap (λ (n : ℕ). rows_in (row_blocks blocks) + n) is.0 ∙ sym (sum_by_push (λ (b : Stored). b.count) (row_blocks blocks) rows)
      ∙ ap rows_in (sym (row_blocks-rows blocks rows)),
  ended ∙ sym (has_end-rows blocks rows),
)
passed_on journal (Rows count len) end_block blocks is unended counts ended = absurd is
passed_on journal End (rows_block rows) blocks is unended counts ended = absurd is
passed_on journal End end_block blocks is unended counts ended = (counts ∙ ap rows_in (sym (row_blocks-end blocks)), sym (has_end-end blocks))

pub passed_frame : (journal : JournalState) (head : BlockHead) → ((passed journal head).gate ≡ journal.gate + 10 + len_in head) × ((passed journal head).first ≡ journal.first) × ((passed journal head).sound ≡ journal.sound)
passed_frame journal (Rows count len) = (refl, refl, refl)
passed_frame journal End = (omega arith, refl, refl)

-- on the way to a closed gate, the journal tells of the table
pub way_tells : (journal : JournalState) (image text : List ℕ) → IsOnTheWay journal image text → get_or image journal.gate 0 ≢ 1 → TellsOf journal image text
way_tells journal image text way shut = record {
  blocks = way.blocks;
  holds = leads_holds journal.gate image text way.blocks way.leads shut;
  first = way.first;
  counts = way.counts;
  ended = way.ended;
  sound = way.sound;
}

-- behind the gate of a block stand the block and the rest of the file
pub record IsThere (gate last : ℕ) (image : List ℕ) (block : TableBlock) : Type 0 where
  pub rest : List ℕ
  pub spelled : drop gate image ≡ opened (block_bytes block) ++ rest
  pub fits : gate + 10 + length (content_of block).bytes ≤ last
  pub within : last < length image
  pub good : IsTableBlock block

pub block_there : (gate last : ℕ) (image : List ℕ) (block : TableBlock) → IsBlockAt gate last image block → IsThere gate last image block
block_there gate last image block at =
    let held = at.holds.holds in
    let begins = front at.text at.before in
    let here = opened (block_bytes block) in
    let behind = flat_map (λ (b : TableBlock). opened (block_bytes b)) at.behind in
    let whole = front-part at.text at.before (block ∷ at.behind) in
    let spelled : image ≡ begins ++ (here ++ (behind ++ held.gate ∷ held.rest)) =
    held.spelled ∙ ap (λ (l : List ℕ). l ++ held.gate ∷ held.rest) whole ∙ append_assoc begins (here ++ behind) (held.gate ∷ held.rest)
    ∙ ap (λ (l : List ℕ). begins ++ l) (append_assoc here behind (held.gate ∷ held.rest)) in
    record {
      rest = behind ++ held.gate ∷ held.rest;
      spelled = ap (λ (l : List ℕ). drop gate l) spelled ∙ drop_at begins (here ++ (behind ++ held.gate ∷ held.rest)) gate at.at;
      fits = omega (arith, at.at, at.holds.at, ap length whole, length-append begins (here ++ behind), length-append here behind, length-block_bytes block);
      within = omega (arith, ap length held.spelled, length-append (front at.text (at.before ++ block ∷ at.behind)) (held.gate ∷ held.rest), at.holds.at);
      good = subst IsTableBlock (get_or_at at.before block at.behind block (length at.before) refl)
          (All-get_or IsTableBlock (at.before ++ block ∷ at.behind) (length at.before) block (omega (arith, length-append at.before (block ∷ at.behind))) held.stored);
    }

-- its rows stand behind its head
pub rows_there : (gate last : ℕ) (image : List ℕ) (block : TableBlock) → IsBlockAt gate last image block → take (length (content_of block).bytes) (drop (gate + 10) image) ≡ (content_of block).bytes
unfolding block_bytes
rows_there gate last image block at =
    let there = block_there gate last image block at in
    let rows = (content_of block).bytes in
    let numbers = 1 ∷ kind_of block ∷ to_be_bytes w32 (content_of block).count ++ to_be_bytes w32 (length rows) in
    let spelled : drop gate image ≡ numbers ++ (rows ++ there.rest) = there.spelled ∙ simp append_assoc in
    ap (λ (l : List ℕ). take (length rows) l)
    (sym (drop-drop 10 gate image) ∙ ap (λ (l : List ℕ). drop 10 l) spelled ∙ drop_at numbers (rows ++ there.rest) 10 refl)
    ∙ take_at rows there.rest (length rows) refl

pub is_head_of : (block : TableBlock) → IsHeadOf (head_of block) block
is_head_of (rows_block rows) = (refl, refl)
is_head_of end_block = tt

module _ (gate last : ℕ) (image bytes : List ℕ) (block : TableBlock) (at : IsBlockAt gate last image block) (long : length bytes ≡ 10) (read : bytes ≡ take 10 (drop gate image)) where
  read_block : bytes ≡ 1 ∷ head_bytes (head_of block)
  read_block =
      let there = block_there gate last image block at in
      read ∙ ap (λ (l : List ℕ). take 10 l) there.spelled ∙ take-append-le 10 (opened (block_bytes block)) there.rest (omega (arith, length-block_bytes block))
      ∙ ap (λ (l : List ℕ). 1 ∷ l) (head_begins block)

  -- the gate of a block of the table is open
  pub gate_there : get_or bytes 0 0 ≡ 1
  gate_there = ap (λ (l : List ℕ). get_or l 0 0) read_block

  pub stands_there : StandsIn (last + 1 - gate) (drop 1 bytes) (head_of block)
  stands_there =
      let there = block_there gate last image block at in
      record {
        allowed = head_allowed block there.good;
        fits = omega (arith, there.fits, head_len block);
        spelled = ap (λ (l : List ℕ). drop 1 l) read_block;
      }

  -- and the head that stands there is the block's
  pub head_there : (head : BlockHead) → StandsIn (last + 1 - gate) (drop 1 bytes) head → IsHeadOf head block
  head_there head stands =
      subst (λ (h : BlockHead). IsHeadOf h block) (sym (heads_same bytes long (last + 1 - gate) head (head_of block) stands stands_there)) (is_head_of block)
