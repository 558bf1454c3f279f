-- The blocks of a table, from a gate on, and their rows.
use Rattle.std.proofs.Common.{◌≡◌, ◌<◌, ◌+◌, ℕ, List, [], ◌∷◌, ◌++◌, length, map, Bool, true, false, Result, Ok, Err, Option, Some, refl, sym, ap, subst, ◌∙◌, arith, append_assoc, append-nil, length-append}
use Rattle.std.specs.List.{flat_map}
use Rattle.std.proofs.lemmas.List.Concat.{flat_map-append}
use Rattle.tuple_schema.specs.declared.value.Value.{Value}
use Rattle.tuple_schema.specs.declared.schema.Column.{Column}
use Rattle.tuple_schema.specs.declared.memory.Stop.{Stop}
use Rattle.tuple_schema.specs.declared.memory.Stop.TheVariants as stop
use Rattle.tuple_schema.specs.Stops.{◌>>=◌}
use Rattle.commit_disk.specs.declared.attaching.TableFault.{TableFault}
use Rattle.commit_disk.specs.declared.attaching.TableFault.TheVariants as table_fault
use Rattle.commit_disk.specs.Table.{Stored, TableBlock, HoldsBlocksUpTo, front, opened, head, block_bytes, content_of, table, row_blocks, has_end}
use Rattle.commit_disk.specs.Attach.{TellsOf}
use Rattle.commit_disk.specs.Journal.{JournalState}
use Rattle.commit_disk.specs.BlockHeads.{IsBlockAt}
use Rattle.commit_disk.specs.RowTables.{as_table}
use Rattle.table_dump.specs.declared.fault.DumpFault.{DumpFault}
use Rattle.table_dump.specs.Stops.{IsStopOf, Judges}
use Rattle.table_read.specs.Rows.{rows_at, block_rows, next_gate, table_rows}
use Rattle.table_read.specs.Places.{wrong_place}
use Rattle.table_read.specs.Blocks.{TakesRows, ReadsBlock}

abbrev Rows : Type 0
Rows = List (List Value)

abbrev done_with : Rows → Result Rows ℕ
done_with rows = Ok rows

rows_is : (xs ys : Rows) → done_with xs ≡ done_with ys → xs ≡ ys
rows_is xs ys e = cc

-- the rows of a reading behind these
abbrev pub behind : Rows → Result Rows ℕ → Result Rows ℕ
behind done (Ok more) = Ok (done ++ more)
behind done (Err place) = Err place

behind_none : (reading : Result Rows ℕ) → reading ≡ behind [] reading
behind_none (Ok more) = refl
behind_none (Err place) = refl

behind_both : (done own : Rows) (reading : Result Rows ℕ) → behind done (reading >>= λ others. Ok (own ++ others)) ≡ behind (done ++ own) reading
behind_both done own (Ok more) = ap done_with (sym (append_assoc done own more))
behind_both done own (Err place) = refl

behind_ok : (done rows : Rows) (reading : Result Rows ℕ) → behind done reading ≡ Ok rows → (left : Rows) × (rows ≡ done ++ left)
behind_ok done rows (Ok more) e = (more, sym (rows_is (done ++ more) rows e))
behind_ok done rows (Err place) e = absurd cc

-- a stop of reading judges as its own reading does
judges_so : (theirs : Stop TableFault) (ours : Stop DumpFault) (own whole : Result Rows ℕ) (taken : Rows) → TakesRows {X = ℕ} (Err theirs) taken own → ((place : ℕ) → own ≡ Err place → whole ≡ Err place)
    → IsStopOf theirs ours → Judges {T = Unit {0}} (Err ours) (wrong_place whole)
judges_so stop.Memory ours own whole taken tells wrong is = subst (λ (s : Stop DumpFault). Judges {T = Unit {0}} (Err s) (wrong_place whole)) (sym is) tt
judges_so (stop.Fault table_fault.Disk) ours own whole taken tells wrong is = subst (λ (s : Stop DumpFault). Judges {T = Unit {0}} (Err s) (wrong_place whole)) (sym is) tt
judges_so (stop.Fault (table_fault.NotATable place)) ours own whole taken tells wrong is =
    subst (λ (s : Stop DumpFault). Judges {T = Unit {0}} (Err s) (wrong_place whole)) (sym is) (ap wrong_place (wrong place tells))
judges_so (stop.Fault table_fault.WorkflowDiffers) ours own whole taken tells wrong is = absurd tells

-- ---- the rows of blocks

no_rows : (columns : List Column) (gate : ℕ) → table_rows columns gate [] ≡ Ok []
unfolding table_rows
no_rows columns gate = refl

-- the rows of a block of this reading, and of those behind it
abbrev rows_from : List Column → ℕ → List Stored → Result Rows ℕ → Result Rows ℕ
rows_from columns next blocks reading = reading >>= λ own. table_rows columns next blocks >>= λ others. Ok (own ++ others)

first_off : (columns : List Column) (gate : ℕ) (block : Stored) (blocks : List Stored) → table_rows columns gate (block ∷ blocks) ≡ rows_from columns (next_gate gate block) blocks (block_rows columns gate block)
unfolding table_rows
first_off columns gate block blocks = refl

-- the end block as a block of no rows
abbrev ends : Bool → List Stored
ends true = record { count = 0; bytes = [] } ∷ []
ends false = []

end_reads : (columns : List Column) (gate : ℕ) (ended : Bool) → table_rows columns gate (ends ended) ≡ Ok []
unfolding table_rows rows_at
end_reads columns gate true = refl
end_reads columns gate false = refl

with_end : (columns : List Column) (gate : ℕ) (blocks : List Stored) (ended : Bool) → table_rows columns gate (blocks ++ ends ended) ≡ table_rows columns gate blocks
with_end columns gate [] ended = end_reads columns gate ended ∙ sym (no_rows columns gate)
with_end columns gate (block ∷ blocks) ended =
    first_off columns gate block (blocks ++ ends ended)
    ∙ ap (λ (r : Result Rows ℕ). block_rows columns gate block >>= λ own. r >>= λ others. Ok (own ++ others)) (with_end columns (next_gate gate block) blocks ended)
    ∙ sym (first_off columns gate block blocks)

contents_of_table : (rows : List Stored) (ended : Bool) → map content_of (table rows ended) ≡ rows ++ ends ended
unfolding table
contents_of_table [] true = refl
contents_of_table [] false = refl
contents_of_table (r ∷ rows) ended = ap (λ (l : List Stored). r ∷ l) (contents_of_table rows ended)

-- ---- the places of blocks

front-part : (text : List ℕ) (blocks more : List TableBlock) → front text (blocks ++ more) ≡ front text blocks ++ flat_map (λ block. opened (block_bytes block)) more
front-part text blocks more =
    let spell = λ (block : TableBlock). opened (block_bytes block) in
    ap (λ (l : List ℕ). opened (head text) ++ l) (flat_map-append spell blocks more) ∙ sym (append_assoc (opened (head text)) (flat_map spell blocks) (flat_map spell more))

length-head : (text : List ℕ) → length (front text []) ≡ 16 + length text
unfolding head
length-head text = omega (arith, length-append (opened (head text)) [])

length-block : (block : TableBlock) → length (opened (block_bytes block)) ≡ 10 + length (content_of block).bytes
unfolding block_bytes
length-block block = omega arith

-- ---- from gate to gate

-- from this gate on stand the last of the blocks, and the whole reading is theirs behind the rows that are done
pub record StandsAt (columns : List Column) (text : List ℕ) (blocks : List TableBlock) (gate : ℕ) (reading : Result Rows ℕ) (done : Rows) : Type 0 where
  pub before : List TableBlock
  pub rest : List TableBlock
  pub split : blocks ≡ before ++ rest
  pub at : length (front text before) ≡ gate
  pub whole : reading ≡ behind done (table_rows columns gate (map content_of rest))

-- all of them stand from the first gate on
pub stands_at_first : (columns : List Column) (journal : JournalState) (file text : List ℕ) (told : TellsOf journal file text)
    → StandsAt columns text told.blocks journal.first (table_rows columns (16 + length text) (row_blocks told.blocks)) []
stands_at_first columns journal file text told =
    let first = journal.first in
    let rows = row_blocks told.blocks in
    let ended = has_end told.blocks in
    let same : map content_of told.blocks ≡ rows ++ ends ended =
    ap (map content_of) (as_table told.blocks told.holds.holds.placed) ∙ contents_of_table rows ended in
    let all : table_rows columns first (map content_of told.blocks) ≡ table_rows columns first rows =
    ap (table_rows columns first) same ∙ with_end columns first rows ended in
    record {
      before = [];
      rest = told.blocks;
      split = refl;
      at = length-head text ∙ sym told.first;
      whole = ap (λ (n : ℕ). table_rows columns n rows) (sym told.first) ∙ sym all ∙ behind_none (table_rows columns first (map content_of told.blocks));
    }

-- where the rows decode, those that are done are the first of them
pub first_of : (columns : List Column) (text : List ℕ) (blocks : List TableBlock) (gate : ℕ) (reading : Result Rows ℕ) (done rows : Rows) → StandsAt columns text blocks gate reading done → reading ≡ Ok rows
    → (left : Rows) × (rows ≡ done ++ left)
first_of columns text blocks gate reading done rows stand e = behind_ok done rows (table_rows columns gate (map content_of stand.rest)) (sym stand.whole ∙ e)

module _ (columns : List Column) (file text : List ℕ) (blocks : List TableBlock) (gate last : ℕ) (reading : Result Rows ℕ) (done : Rows) (holds : HoldsBlocksUpTo last file text blocks) where
  abbrev Rest : List TableBlock → List TableBlock → Type 0
  Rest before rest = (blocks ≡ before ++ rest) × (length (front text before) ≡ gate)

  none_left : (before : List TableBlock) → Rest before [] → gate ≡ last
  none_left before (split, at) = sym at ∙ ap (λ (bs : List TableBlock). length (front text bs)) (sym (append-nil before) ∙ sym split) ∙ holds.at

  some_left : (before : List TableBlock) (block : TableBlock) (more : List TableBlock) → Rest before (block ∷ more) → gate < last
  some_left before block more (split, at) =
      let spell = λ (b : TableBlock). opened (block_bytes b) in
      let whole : length (front text (before ++ block ∷ more)) ≡ last = ap (λ (bs : List TableBlock). length (front text bs)) (sym split) ∙ holds.at in
      omega (arith, whole, at, ap length (front-part text before (block ∷ more)), length-append (front text before) (spell block ++ flat_map spell more), length-append (spell block) (flat_map spell more), length-block block)

  -- at the last gate all rows are done
  pub all_done : gate ≡ last → StandsAt columns text blocks gate reading done → reading ≡ Ok done
  all_done last_one stand = ended stand.before stand.rest (stand.split, stand.at) stand.whole
    where
      ended : (before rest : List TableBlock) → Rest before rest → reading ≡ behind done (table_rows columns gate (map content_of rest)) → reading ≡ Ok done
      ended before [] here whole = whole ∙ ap (behind done) (no_rows columns gate) ∙ ap done_with (append-nil done)
      ended before (b ∷ rest) here whole = absurd (omega (arith, some_left before b rest here, last_one))

  -- the block at this gate: behind its rows the others stand, and a wrong place of it is that of the whole
  pub record HasNext : Type 0 where
    pub block : TableBlock
    pub here : IsBlockAt gate last file block
    pub onward : (own : Rows) → block_rows columns gate (content_of block) ≡ Ok own → StandsAt columns text blocks (next_gate gate (content_of block)) reading (done ++ own)
    pub wrong : (place : ℕ) → block_rows columns gate (content_of block) ≡ Err place → reading ≡ Err place

  -- before the last gate there is a block
  pub has_next : gate < last → StandsAt columns text blocks gate reading done → HasNext
  has_next lt stand = found stand.before stand.rest (stand.split, stand.at) stand.whole
    where
      found : (before rest : List TableBlock) → Rest before rest → reading ≡ behind done (table_rows columns gate (map content_of rest)) → HasNext
      found before [] here whole = absurd (omega (arith, none_left before here, lt))
      found before (b ∷ rest) here whole =
          let next = next_gate gate (content_of b) in
          let others = map content_of rest in
          let parts : reading ≡ behind done (rows_from columns next others (block_rows columns gate (content_of b))) =
          whole ∙ ap (behind done) (first_off columns gate (content_of b) others) in
          record {
            block = b;
            here = record { text = text; before = before; behind = rest; holds = subst (HoldsBlocksUpTo last file text) here.0 holds; at = here.1 };
            onward = λ own reads. record {
              before = before ++ b ∷ [];
              rest = rest;
              split = here.0 ∙ sym (append_assoc before (b ∷ []) rest);
              at = omega (arith, here.1, ap length (front-part text before (b ∷ [])), length-append (front text before) (opened (block_bytes b) ++ []), length-append (opened (block_bytes b)) [], length-block b);
              whole = parts ∙ ap (λ (r : Result Rows ℕ). behind done (rows_from columns next others r)) reads ∙ behind_both done own (table_rows columns next others);
            };
            wrong = λ place reads. parts ∙ ap (λ (r : Result Rows ℕ). behind done (rows_from columns next others r)) reads;
          }

  -- what is told of the block at this gate
  abbrev pub Tells : Result (Option ℕ) (Stop TableFault) → Rows → Type 0
  Tells answer taken = (block : TableBlock) → IsBlockAt gate last file block → ReadsBlock answer taken (next_gate gate (content_of block)) (block_rows columns gate (content_of block))

  -- behind a block that was read the others stand
  pub stands_on : (next : ℕ) (taken : Rows) → gate < last → StandsAt columns text blocks gate reading done → Tells (Ok (Some next)) taken → StandsAt columns text blocks next reading (done ++ taken)
  stands_on next taken lt stand tells =
      let has = has_next lt stand in
      let told = tells has.block has.here in
      subst (λ (n : ℕ). StandsAt columns text blocks n reading (done ++ taken)) (sym told.0) (has.onward taken told.1)

  -- what stops in it stops the whole
  pub judges_here : (theirs : Stop TableFault) (ours : Stop DumpFault) (taken : Rows) → gate < last → StandsAt columns text blocks gate reading done → Tells (Err theirs) taken
      → IsStopOf theirs ours → Judges {T = Unit {0}} (Err ours) (wrong_place reading)
  judges_here theirs ours taken lt stand tells is =
      let has = has_next lt stand in
      judges_so theirs ours (block_rows columns gate (content_of has.block)) reading taken (tells has.block has.here) has.wrong is
