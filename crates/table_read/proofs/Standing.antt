-- The blocks of a table, from a gate on.
use Rattle.std.proofs.Common.{Result, Err, ◌≡◌, ◌≤◌, ◌<◌, ◌+◌, ℕ, List, [], ◌∷◌, ◌++◌, length, map, Bool, true, false, Option, None, ap, sym, subst, ◌∙◌, refl, arith, append_assoc, length-append}
use Rattle.std.specs.List.{flat_map}
use Rattle.std.proofs.lemmas.List.{append-nil}
use Rattle.std.proofs.lemmas.List.Concat.{flat_map-append}
use Rattle.tuple_schema.specs.declared.value.Value.{Value}
use Rattle.tuple_schema.specs.declared.schema.Column.{Column}
use Rattle.tuple_schema.specs.declared.memory.Stop.{Stop}
use Rattle.tuple_schema.specs.declared.memory.Stop.TheVariants as stop
use Rattle.commit_disk.specs.declared.attaching.TableFault.{TableFault}
use Rattle.commit_disk.specs.declared.attaching.TableFault.TheVariants as fault
use Rattle.commit_disk.specs.declared.block_head.BlockHead.{BlockHead}
use Rattle.commit_disk.specs.declared.block_head.BlockHead.TheVariants.{Rows, End}
use Rattle.commit_disk.specs.Table.{Stored, TableBlock, rows_block, end_block, HoldsBlocksUpTo, front, opened, head, block_bytes, content_of, table, row_blocks, has_end}
use Rattle.commit_disk.specs.Attach.{TellsOf}
use Rattle.commit_disk.specs.Journal.{JournalState}
use Rattle.commit_disk.specs.BlockHeads.{count_in, len_in, IsHeadOf, IsBlockAt, BlockHeadTells, IsHeadFault}
use Rattle.commit_disk.specs.RowTables.{as_table}
use Rattle.table_read.specs.Rows.{rows_at, block_rows, next_gate, table_rows}
use Rattle.table_read.specs.Places.{wrong_place, Verifies, IsCaused, StopsOutside}
use Rattle.table_read.specs.Calls.{IsRead}
use Rattle.table_read.specs.Blocks.{TakesRows}
use Rattle.table_read.proofs.Readings.{with_empty, table_goes_on, table_stops, no_blocks}

-- a front in two parts
front-part : (text : List ℕ) (blocks more : List TableBlock) → front text (blocks ++ more) ≡ front text blocks ++ flat_map (λ block. opened (block_bytes block)) more
front-part text blocks more =
    let spell = λ (block : TableBlock). opened (block_bytes block) in
    ap (λ (l : List ℕ). opened (head text) ++ l) (flat_map-append spell blocks more) ∙ sym (append_assoc (opened (head text)) (flat_map spell blocks) (flat_map spell more))

-- from this gate on stand the last of these blocks, with the wrong place of all
pub record StandFrom (columns : List Column) (text : List ℕ) (blocks : List TableBlock) (first gate : ℕ) : Type 0 where
  pub before : List TableBlock
  pub rest : List TableBlock
  pub split : blocks ≡ before ++ rest
  pub at : length (front text before) ≡ gate
  pub same : wrong_place (table_rows columns gate (map content_of rest)) ≡ wrong_place (table_rows columns first (row_blocks blocks))

-- the end block as a block of no rows
abbrev ends : Bool → List Stored
ends true = record { count = 0; bytes = [] } ∷ []
ends false = []

contents_of_table : (rows : List Stored) (ended : Bool) → map content_of (table rows ended) ≡ rows ++ ends ended
unfolding table
contents_of_table [] true = refl
contents_of_table [] false = refl
contents_of_table (r ∷ rows) ended = ap (λ (l : List Stored). r ∷ l) (contents_of_table rows ended)

ends_same : (columns : List Column) (gate : ℕ) (blocks : List Stored) (ended : Bool) → wrong_place (table_rows columns gate (blocks ++ ends ended)) ≡ wrong_place (table_rows columns gate blocks)
ends_same columns gate blocks true = with_empty columns gate blocks
ends_same columns gate blocks false = ap (λ (bs : List Stored). wrong_place (table_rows columns gate bs)) (append-nil blocks)

length-head : (text : List ℕ) → length (front text []) ≡ 16 + length text
unfolding head
length-head text = omega (arith, length-append (opened (head text)) [])

length-block : (block : TableBlock) → length (opened (block_bytes block)) ≡ 10 + length (content_of block).bytes
unfolding block_bytes
length-block block = omega arith

-- the blocks that a journal tells of stand from the first gate on
pub tells_stand : (columns : List Column) (journal : JournalState) (file text : List ℕ) (table : TellsOf journal file text) → StandFrom columns text table.blocks journal.first journal.first
tells_stand columns journal file text told =
    let rows = row_blocks told.blocks in
    let ended = has_end told.blocks in
    record {
      before = [];
      rest = told.blocks;
      split = refl;
      at = length-head text ∙ sym told.first;
      same = ap (λ (bs : List TableBlock). wrong_place (table_rows columns journal.first (map content_of bs))) (as_table told.blocks told.holds.holds.placed)
          ∙ ap (λ (bs : List Stored). wrong_place (table_rows columns journal.first bs)) (contents_of_table rows ended)
          ∙ ends_same columns journal.first rows ended;
    }

-- a head counts the rows of its block, and their bytes
pub count_of : (head : BlockHead) (block : TableBlock) → IsHeadOf head block → count_in head ≡ (content_of block).count
count_of (Rows count len) (rows_block rows) is = is.0
count_of (Rows count len) end_block is = absurd is
count_of End (rows_block rows) is = absurd is
count_of End end_block is = refl

pub len_of : (head : BlockHead) (block : TableBlock) → IsHeadOf head block → len_in head ≡ length (content_of block).bytes
len_of (Rows count len) (rows_block rows) is = is.1
len_of (Rows count len) end_block is = absurd is
len_of End (rows_block rows) is = absurd is
len_of End end_block is = refl

-- the reading of what was read is that of the block
pub reading_same : (columns : List Column) (count gate : ℕ) (bytes : List ℕ) (head : BlockHead) (read : List ℕ) (block : TableBlock) → count ≡ count_in head → bytes ≡ read → IsRead head read (content_of block)
    → rows_at columns count (gate + 10) bytes ≡ block_rows columns gate (content_of block)
reading_same columns count gate bytes head read block counts is of_block =
    (λ i. rows_at columns ((counts ∙ of_block.counts) i) (gate + 10) ((is ∙ of_block.same) i))

pub rows_same : (columns : List Column) (count gate : ℕ) (bytes : List ℕ) (head : BlockHead) (read : List ℕ) (block : TableBlock) → count ≡ count_in head → bytes ≡ read → IsRead head read (content_of block)
    → wrong_place (rows_at columns count (gate + 10) bytes) ≡ wrong_place (block_rows columns gate (content_of block))
rows_same columns count gate bytes head read block counts is of_block = ap wrong_place (reading_same columns count gate bytes head read block counts is of_block)

-- of the head of a block that is there, only the disk fails
pub head_stops : (f : TableFault) (block : TableBlock) → BlockHeadTells (Err f) block → StopsOutside (stop.Fault f)
head_stops fault.Disk block tells = tt
head_stops (fault.NotATable at) block tells = absurd tells
head_stops fault.WorkflowDiffers block tells = absurd tells

pub outside_stops : (e : Stop TableFault) (wrong : Option ℕ) → StopsOutside e → Verifies {X = ℕ} (Err e) wrong
outside_stops stop.Memory wrong stops = tt
outside_stops (stop.Fault fault.Disk) wrong stops = tt
outside_stops (stop.Fault (fault.NotATable at)) wrong stops = absurd stops
outside_stops (stop.Fault fault.WorkflowDiffers) wrong stops = absurd stops

pub outside_takes : (e : Stop TableFault) (taken : List (List Value)) (reading : Result (List (List Value)) ℕ) → StopsOutside e → TakesRows {X = ℕ} (Err e) taken reading
outside_takes stop.Memory taken reading stops = tt
outside_takes (stop.Fault fault.Disk) taken reading stops = tt
outside_takes (stop.Fault (fault.NotATable at)) taken reading stops = absurd stops
outside_takes (stop.Fault fault.WorkflowDiffers) taken reading stops = absurd stops

pub head_caused : (gate before now : ℕ) (f : TableFault) → IsHeadFault gate before now f → IsCaused before now f
head_caused gate before now fault.Disk is = is
head_caused gate before now (fault.NotATable place) is = tt
head_caused gate before now fault.WorkflowDiffers is = absurd is

-- ---- from gate to gate

module _ (columns : List Column) (file text : List ℕ) (blocks : List TableBlock) (first gate last : ℕ) (holds : HoldsBlocksUpTo last file text blocks) where
  abbrev Rest : List TableBlock → List TableBlock → Type 0
  Rest before rest = (blocks ≡ before ++ rest) × (length (front text before) ≡ gate)

  -- where none are left, the gate is the last one
  none_left : (before : List TableBlock) → Rest before [] → gate ≡ last
  none_left before (split, at) = sym at ∙ ap (λ (bs : List TableBlock). length (front text bs)) (sym (append-nil before) ∙ sym split) ∙ holds.at

  -- and else it stands before the last one
  some_left : (before : List TableBlock) (block : TableBlock) (more : List TableBlock) → Rest before (block ∷ more) → gate < last
  some_left before block more (split, at) =
      let spell = λ (b : TableBlock). opened (block_bytes b) in
      let whole : length (front text (before ++ block ∷ more)) ≡ last = ap (λ (bs : List TableBlock). length (front text bs)) (sym split) ∙ holds.at in
      omega (arith, whole, at, ap length (front-part text before (block ∷ more)), length-append (front text before) (spell block ++ flat_map spell more), length-append (spell block) (flat_map spell more), length-block block)

  block_here : (before : List TableBlock) (block : TableBlock) (more : List TableBlock) → Rest before (block ∷ more) → IsBlockAt gate last file block
  block_here before block more (split, at) = record { text = text; before = before; behind = more; holds = subst (HoldsBlocksUpTo last file text) split holds; at = at }

  -- at the last gate nothing is wrong
  pub at_end : last ≤ gate → StandFrom columns text blocks first gate → wrong_place (table_rows columns first (row_blocks blocks)) ≡ None
  at_end le stand = ended stand.before stand.rest (stand.split, stand.at) stand.same
    where
      ended : (before rest : List TableBlock) → Rest before rest → wrong_place (table_rows columns gate (map content_of rest)) ≡ wrong_place (table_rows columns first (row_blocks blocks))
          → wrong_place (table_rows columns first (row_blocks blocks)) ≡ None
      ended before [] here same = sym same ∙ no_blocks columns gate
      ended before (b ∷ rest) here same = absurd (omega (arith, some_left before b rest here))

  -- before it there is a block, and what stops in it stops the whole
  pub stops_here : (e : Stop TableFault) → gate < last → StandFrom columns text blocks first gate
      → ((block : TableBlock) → IsBlockAt gate last file block → Verifies {X = ℕ} (Err e) (wrong_place (block_rows columns gate (content_of block))))
      → Verifies {X = Unit {0}} (Err e) (wrong_place (table_rows columns first (row_blocks blocks)))
  stops_here e lt stand tells = stopped stand.before stand.rest (stand.split, stand.at) stand.same
    where
      stopped : (before rest : List TableBlock) → Rest before rest → wrong_place (table_rows columns gate (map content_of rest)) ≡ wrong_place (table_rows columns first (row_blocks blocks))
          → Verifies {X = Unit {0}} (Err e) (wrong_place (table_rows columns first (row_blocks blocks)))
      stopped before [] here same = absurd (omega (arith, none_left before here))
      stopped before (b ∷ rest) here same = table_stops e columns gate (content_of b) (map content_of rest) _ (tells b (block_here before b rest here)) same

  -- and behind a block whose rows decode the others stand
  pub on_from_here : (next : ℕ) → gate < last → StandFrom columns text blocks first gate
      → ((block : TableBlock) → IsBlockAt gate last file block → (wrong_place (block_rows columns gate (content_of block)) ≡ None) × (next ≡ next_gate gate (content_of block)))
      → StandFrom columns text blocks first next
  on_from_here next lt stand tells = onward stand.before stand.rest (stand.split, stand.at) stand.same
    where
      onward : (before rest : List TableBlock) → Rest before rest → wrong_place (table_rows columns gate (map content_of rest)) ≡ wrong_place (table_rows columns first (row_blocks blocks))
          → StandFrom columns text blocks first next
      onward before [] here same = absurd (omega (arith, none_left before here))
      onward before (b ∷ rest) here same =
          let told = tells b (block_here before b rest here) in
          record {
            before = before ++ b ∷ [];
            rest = rest;
            split = here.0 ∙ sym (append_assoc before (b ∷ []) rest);
            at = omega (arith, here.1, told.1, ap length (front-part text before (b ∷ [])), length-append (front text before) (opened (block_bytes b) ++ []), length-append (opened (block_bytes b)) [], length-block b);
            same = ap (λ (n : ℕ). wrong_place (table_rows columns n (map content_of rest))) told.1 ∙ table_goes_on columns gate (content_of b) (map content_of rest) _ told.0 same;
          }
