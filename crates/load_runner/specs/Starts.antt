-- From what a load goes on.
use Rattle.std.specs.Prelude.{◌≡◌, ◌+◌, ℕ, List, [], length, Bool, false, Ok}
use Rattle.tuple_schema.specs.declared.value.Value.{Value}
use Rattle.tuple_schema.specs.declared.schema.Column.{Column}
use Rattle.commit_disk.specs.declared.attaching.Attached.{Attached}
use Rattle.commit_disk.specs.declared.attaching.Attached.TheVariants.{NotMade, Made}
use Rattle.commit_disk.specs.Table.{Stored, HoldsUpTo, IsNotMade, row_blocks}
use Rattle.commit_disk.specs.Attach.{TellsOf}
use Rattle.table_read.specs.Rows.{table_rows}

-- what was found of the image tells its rows: none where it isn't made, and else those of the blocks that the journal
-- tells of
abbrev pub Starts : Attached → List ℕ → List ℕ → List Column → Type 0
Starts NotMade image text columns = IsNotMade image
Starts (Made journal) image text columns =
    (told : TellsOf journal image text) × ((rows : List (List Value))
    × (table_rows columns (16 + length text) (row_blocks told.blocks) ≡ Ok rows))

-- the image has these blocks, behind which more may be added
abbrev pub IsAt : Attached → List ℕ → List ℕ → List Stored → Type 0
IsAt NotMade image text olds = IsNotMade image × (olds ≡ [])
IsAt (Made journal) image text olds = HoldsUpTo journal.gate image text olds false

-- how many rows were found
abbrev pub count_of : Attached → ℕ
count_of NotMade = 0
count_of (Made journal) = journal.count

-- whether the table was ended
abbrev pub is_ended : Attached → Bool
is_ended NotMade = false
is_ended (Made journal) = journal.ended

-- where the gate of the next block is, or will be once the table is made
abbrev pub gate_of : Attached → List ℕ → ℕ
gate_of NotMade text = 16 + length text
gate_of (Made journal) text = journal.gate
