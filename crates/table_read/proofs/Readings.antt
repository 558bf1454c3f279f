-- Reading rows one after the other, as the loops do.
use Rattle.std.proofs.Common.{◌≡◌, ℕ, zero, suc, ◌+◌, ◌<◌, List, [], ◌∷◌, ◌++◌, length, drop, Result, Ok, Err, Option, Some, None, refl, sym, ap, ◌∙◌, add-one, arith}
use Rattle.tuple_schema.specs.declared.memory.Stop.{Stop}
use Rattle.tuple_schema.specs.declared.memory.Stop.TheVariants as stop
use Rattle.tuple_schema.specs.declared.value.Value.{Value}
use Rattle.tuple_schema.specs.declared.schema.Column.{Column}
use Rattle.tuple_schema.specs.Stops.{◌>>=◌}
use Rattle.row_codec.specs.declared.decode.RowFault.{RowFault}
use Rattle.row_codec.specs.Rows.{row_bytes}
use Rattle.row_codec.specs.Decoding.{row_at}
use Rattle.commit_disk.specs.declared.attaching.TableFault.{TableFault}
use Rattle.commit_disk.specs.declared.attaching.TableFault.TheVariants as fault
use Rattle.commit_disk.specs.Table.{Stored}
use Rattle.table_read.specs.Rows.{or_place, no_rows_at, rows_at, block_rows, next_gate, table_rows}
use Rattle.table_read.specs.Places.{wrong_place, Verifies}
use Rattle.table_read.specs.Calls.{RowTells}

-- what is made of the rows changes no place
wrong_same : {X Y : Type 0} (reading : Result X ℕ) (f : X → Y) → wrong_place (reading >>= λ x. Ok (f x)) ≡ wrong_place reading
wrong_same (Ok x) f = refl
wrong_same (Err place) f = refl

-- the rows from this row on
abbrev rows_from : List Column → ℕ → ℕ → Result (List Value × List ℕ) RowFault → Result (List (List Value)) ℕ
rows_from columns count place reading = or_place place reading >>= λ first. rows_at columns count (place + length (row_bytes first.0)) first.1 >>= λ others. Ok (first.0 ∷ others)

first_off : (columns : List Column) (count place : ℕ) (bytes : List ℕ) → rows_at columns (suc count) place bytes ≡ rows_from columns count place (row_at columns bytes)
unfolding rows_at
first_off columns count place bytes = refl

pub row_off : (columns : List Column) (count place len : ℕ) (bytes : List ℕ) (row : List Value) → row_at columns bytes ≡ Ok (row, drop len bytes) → length (row_bytes row) ≡ len
    → wrong_place (rows_at columns (suc count) place bytes) ≡ wrong_place (rows_at columns count (place + len) (drop len bytes))
row_off columns count place len bytes row reads long =
    ap wrong_place (first_off columns count place bytes ∙ ap (rows_from columns count place) reads)
    ∙ wrong_same (rows_at columns count (place + length (row_bytes row)) (drop len bytes)) (λ others. row ∷ others)
    ∙ ap (λ (n : ℕ). wrong_place (rows_at columns count (place + n) (drop len bytes))) long

or_err : {X : Type 0} (place at : ℕ) (reading : Result X RowFault) → or_place place reading ≡ Err at → at ≡ place
or_err place at (Ok x) is = absurd cc
or_err place at (Err f) is = cc

no_row : (columns : List Column) (count place : ℕ) (reading : Result (List Value × List ℕ) RowFault) → or_place place reading ≡ Err place → wrong_place (rows_from columns count place reading) ≡ Some place
no_row columns count place (Ok found) is = absurd cc
no_row columns count place (Err f) is = refl

-- a row that is there leaves the wrong place as it is
pub goes_on : (columns : List Column) (left more place len : ℕ) (bytes : List ℕ) (wrong : Option ℕ) → left ≡ more + 1 → RowTells columns place bytes (Ok len)
    → wrong_place (rows_at columns left place bytes) ≡ wrong → wrong_place (rows_at columns more (place + len) (drop len bytes)) ≡ wrong
goes_on columns left more place len bytes wrong is tells so_far =
    sym (row_off columns more place len bytes tells.0 tells.1 tells.2)
    ∙ ap (λ (n : ℕ). wrong_place (rows_at columns n place bytes)) (sym (add-one more) ∙ sym is)
    ∙ so_far

-- and one that isn't is the wrong place
pub stops : (e : Stop TableFault) (columns : List Column) (left more place : ℕ) (bytes : List ℕ) (wrong : Option ℕ) → left ≡ more + 1 → RowTells columns place bytes (Err e)
    → wrong_place (rows_at columns left place bytes) ≡ wrong → Verifies {X = Unit {0}} (Err e) wrong
stops stop.Memory columns left more place bytes wrong is tells so_far = tt
stops (stop.Fault fault.Disk) columns left more place bytes wrong is tells so_far = absurd tells
stops (stop.Fault fault.WorkflowDiffers) columns left more place bytes wrong is tells so_far = absurd tells
stops (stop.Fault (fault.NotATable at)) columns left more place bytes wrong is tells so_far =
    sym so_far
    ∙ ap (λ (n : ℕ). wrong_place (rows_at columns n place bytes)) (is ∙ add-one more)
    ∙ ap wrong_place (first_off columns more place bytes)
    ∙ no_row columns more place (row_at columns bytes) tells.1
    ∙ ap (λ (n : ℕ). Some n) (sym tells.0)

no_rows_left : (columns : List Column) (place : ℕ) (bytes : List ℕ) → rows_at columns zero place bytes ≡ no_rows_at place bytes
unfolding rows_at
no_rows_left columns place bytes = refl

pub nothing_left : (columns : List Column) (left place : ℕ) (bytes : List ℕ) (wrong : Option ℕ) → left ≡ 0 → length bytes ≡ 0 → wrong_place (rows_at columns left place bytes) ≡ wrong → wrong ≡ None
nothing_left columns left place [] wrong none empty so_far =
    sym so_far ∙ ap (λ (n : ℕ). wrong_place (rows_at columns n place [])) none ∙ ap wrong_place (no_rows_left columns place [])
nothing_left columns left place (b ∷ bytes) wrong none empty so_far = absurd (omega (arith, empty))

pub some_left : (columns : List Column) (left place : ℕ) (bytes : List ℕ) (wrong : Option ℕ) → left ≡ 0 → 0 < length bytes → wrong_place (rows_at columns left place bytes) ≡ wrong → wrong ≡ Some place
some_left columns left place [] wrong none some so_far = absurd (omega (arith, some))
some_left columns left place (b ∷ bytes) wrong none some so_far =
    sym so_far ∙ ap (λ (n : ℕ). wrong_place (rows_at columns n place (b ∷ bytes))) none ∙ ap wrong_place (no_rows_left columns place (b ∷ bytes))

-- ---- blocks

abbrev table_from : List Column → ℕ → List Stored → Result (List (List Value)) ℕ → Result (List (List Value)) ℕ
table_from columns next blocks reading = reading >>= λ rows. table_rows columns next blocks >>= λ others. Ok (rows ++ others)

block_off : (columns : List Column) (gate : ℕ) (block : Stored) (blocks : List Stored) → table_rows columns gate (block ∷ blocks) ≡ table_from columns (next_gate gate block) blocks (block_rows columns gate block)
unfolding table_rows
block_off columns gate block blocks = refl

from_ok : (columns : List Column) (next : ℕ) (blocks : List Stored) (reading : Result (List (List Value)) ℕ) → wrong_place reading ≡ None → wrong_place (table_from columns next blocks reading) ≡ wrong_place (table_rows columns next blocks)
from_ok columns next blocks (Ok rows) is = wrong_same (table_rows columns next blocks) (λ others. rows ++ others)
from_ok columns next blocks (Err place) is = absurd cc

from_err : (columns : List Column) (next at : ℕ) (blocks : List Stored) (reading : Result (List (List Value)) ℕ) → wrong_place reading ≡ Some at → wrong_place (table_from columns next blocks reading) ≡ Some at
from_err columns next at blocks (Ok rows) is = absurd cc
from_err columns next at blocks (Err place) is = is

-- a block whose rows decode leaves the wrong place as it is
pub table_goes_on : (columns : List Column) (gate : ℕ) (block : Stored) (blocks : List Stored) (wrong : Option ℕ) → wrong_place (block_rows columns gate block) ≡ None
    → wrong_place (table_rows columns gate (block ∷ blocks)) ≡ wrong → wrong_place (table_rows columns (next_gate gate block) blocks) ≡ wrong
table_goes_on columns gate block blocks wrong is so_far =
    sym (ap wrong_place (block_off columns gate block blocks) ∙ from_ok columns (next_gate gate block) blocks (block_rows columns gate block) is) ∙ so_far

-- and else the wrong place is in it
pub table_stops : (e : Stop TableFault) (columns : List Column) (gate : ℕ) (block : Stored) (blocks : List Stored) (wrong : Option ℕ) → Verifies {X = ℕ} (Err e) (wrong_place (block_rows columns gate block))
    → wrong_place (table_rows columns gate (block ∷ blocks)) ≡ wrong → Verifies {X = Unit {0}} (Err e) wrong
table_stops stop.Memory columns gate block blocks wrong tells so_far = tt
table_stops (stop.Fault fault.Disk) columns gate block blocks wrong tells so_far = tt
table_stops (stop.Fault fault.WorkflowDiffers) columns gate block blocks wrong tells so_far = absurd tells
table_stops (stop.Fault (fault.NotATable at)) columns gate block blocks wrong tells so_far =
    sym so_far ∙ ap wrong_place (block_off columns gate block blocks) ∙ from_err columns (next_gate gate block) at blocks (block_rows columns gate block) tells

pub no_blocks : (columns : List Column) (gate : ℕ) → wrong_place (table_rows columns gate []) ≡ None
unfolding table_rows
no_blocks columns gate = refl

-- a block of no rows in no bytes adds none
pub empty_block : (columns : List Column) (gate : ℕ) → wrong_place (table_rows columns gate (record { count = 0; bytes = [] } ∷ [])) ≡ None
unfolding table_rows rows_at
empty_block columns gate = refl

-- nor behind other blocks
pub with_empty : (columns : List Column) (gate : ℕ) (blocks : List Stored) → wrong_place (table_rows columns gate (blocks ++ record { count = 0; bytes = [] } ∷ [])) ≡ wrong_place (table_rows columns gate blocks)
with_empty columns gate [] = empty_block columns gate ∙ sym (no_blocks columns gate)
with_empty columns gate (b ∷ blocks) =
    ap wrong_place (block_off columns gate b (blocks ++ record { count = 0; bytes = [] } ∷ []))
    ∙ longer columns (next_gate gate b) (blocks ++ record { count = 0; bytes = [] } ∷ []) blocks (block_rows columns gate b) (with_empty columns (next_gate gate b) blocks)
    ∙ ap wrong_place (sym (block_off columns gate b blocks))
  where
    longer : (columns : List Column) (next : ℕ) (blocks others : List Stored) (reading : Result (List (List Value)) ℕ) → wrong_place (table_rows columns next blocks) ≡ wrong_place (table_rows columns next others)
        → wrong_place (table_from columns next blocks reading) ≡ wrong_place (table_from columns next others reading)
    longer columns next blocks others (Ok rows) same =
        wrong_same (table_rows columns next blocks) (λ more. rows ++ more) ∙ same ∙ sym (wrong_same (table_rows columns next others) (λ more. rows ++ more))
    longer columns next blocks others (Err place) same = refl
