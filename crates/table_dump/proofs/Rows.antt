-- Rows that are put, block by block.
use Rattle.std.proofs.Common.{◌≡◌, ◌≤◌, ◌+◌, ℕ, List, [], ◌∷◌, ◌++◌, take, All, OnOk, Some, Result, Ok, Err, sym, ap, subst, ◌∙◌, add-one, append-nil, arith}
use Rattle.std.specs.Prelude.{slice_get}
use Rattle.std.proofs.Math.Seq.{take-suc}
use Rattle.std.proofs.lemmas.Option.{slice_get_within, get_or_from_slice_get}
use Rattle.std.proofs.lemmas.List.Concat.{flat_map-append}
use Rattle.std.proofs.lemmas.List.Elements.{All-nil, All-append, All-push}
use Rattle.outside.specs.Counts.{Rose}
use Rattle.outside.specs.Disk.{DiskState}
use Rattle.outside.specs.Sink.{SinkState, Gains}
use Rattle.tuple_schema.specs.declared.value.Value.{Value}
use Rattle.tuple_schema.specs.declared.schema.Column.{Column}
use Rattle.tuple_schema.specs.Schemas.{Fits}
use Rattle.table_dump.specs.declared.fault.DumpFault.{DumpFault}
use Rattle.table_dump.specs.declared.fault.DumpFault.TheVariants as fault
use Rattle.table_dump.specs.Stops.{IsCaused, IsOutputFault}
use Rattle.table_dump.specs.Texts.{record_text, printed, rows_text, Leaves}
use Rattle.table_dump.proofs.Puts.{puts_none, puts_front, leaves_both}

abbrev Rows : Type 0
Rows = List (List Value)

-- some rows of the columns were put, or a front of their text
abbrev pub AnyRows : {T E : Type 0} → List Column → SinkState → SinkState → Result T E → Type 0
AnyRows columns old new result = (rows : Rows) × All (Fits columns) rows × Leaves (rows_text columns rows) old new result

-- some rows of the columns were put
abbrev pub SomeRows : List Column → SinkState → SinkState → Type 0
SomeRows columns old new = (rows : Rows) × All (Fits columns) rows × Gains (rows_text columns rows) old new

pub rows_text_both : (columns : List Column) (one two : Rows) → rows_text columns (one ++ two) ≡ rows_text columns one ++ rows_text columns two
rows_text_both columns one two = flat_map-append (λ row. record_text (printed columns row)) one two

-- no rows
pub any_none : {T E : Type 0} (columns : List Column) (old : SinkState) (result : Result T E) → AnyRows columns old old result
any_none columns old (Ok done) = ([], All-nil (Fits columns), puts_none old)
any_none columns old (Err stop) = ([], All-nil (Fits columns), puts_front [] old)

pub some_none : (columns : List Column) (old : SinkState) → SomeRows columns old old
some_none columns old = ([], All-nil (Fits columns), puts_none old)

-- rows behind the rows that were put
pub rows_on : {T E : Type 0} (columns : List Column) (old mid new : SinkState) (one two : Rows) (result : Result T E) → Gains (rows_text columns one) old mid
    → Leaves (rows_text columns two) mid new result → Leaves (rows_text columns (one ++ two)) old new result
rows_on columns old mid new one two result first second =
    subst (λ (text : List ℕ). Leaves text old new result) (sym (rows_text_both columns one two)) (leaves_both old mid new (rows_text columns one) (rows_text columns two) result first second)

-- some rows, and then some more
pub any_on : {T E : Type 0} (columns others : List Column) (old mid new : SinkState) (result : Result T E) → SomeRows columns old mid → others ≡ columns
    → AnyRows others mid new result → AnyRows columns old new result
any_on columns others old mid new result (one, fit, first) same more =
    let (two, fit_two, second) = subst (λ (cs : List Column). AnyRows cs mid new result) same more in
    (one ++ two, All-append (Fits columns) one two fit fit_two, rows_on columns old mid new one two result first second)

-- a count that rose later rose
pub rose_later : (before mid now : ℕ) → before ≤ mid → Rose mid now → Rose before now
rose_later before mid now le rose = omega (arith, le, rose)

-- a fault of the output, later
pub output_caused : (disk disk_now : DiskState) (old mid new : SinkState) (f : DumpFault) → old.faults ≤ mid.faults → IsOutputFault mid new f → IsCaused disk disk_now old new f
output_caused disk disk_now old mid new fault.Disk le is = absurd is
output_caused disk disk_now old mid new fault.Sink le is = rose_later old.faults mid.faults new.faults le is
output_caused disk disk_now old mid new (fault.NotATable place) le is = tt

-- ---- row by row

take_more : (rows : Rows) (i : ℕ) (row : List Value) → slice_get rows i ≡ Some row → take (i + 1) rows ≡ take i rows ++ row ∷ []
take_more rows i row at =
    ap (λ (n : ℕ). take n rows) (add-one i) ∙ take-suc rows i row (slice_get_within rows i row at)
    ∙ ap (λ (r : List Value). take i rows ++ r ∷ []) (get_or_from_slice_get rows i row row at)

-- one row more
pub rows_more : (columns : List Column) (rows : Rows) (i : ℕ) (row : List Value) → slice_get rows i ≡ Some row
    → rows_text columns (take (i + 1) rows) ≡ rows_text columns (take i rows) ++ record_text (printed columns row)
rows_more columns rows i row at =
    ap (rows_text columns) (take_more rows i row at) ∙ rows_text_both columns (take i rows) (row ∷ [])
    ∙ ap (λ (text : List ℕ). rows_text columns (take i rows) ++ text) (append-nil (record_text (printed columns row)))

-- which fits
pub fits_more : (columns : List Column) (rows : Rows) (i : ℕ) (row : List Value) → slice_get rows i ≡ Some row → All (Fits columns) (take i rows) → Fits columns row
    → All (Fits columns) (take (i + 1) rows)
fits_more columns rows i row at fit row_fits =
    subst (All (Fits columns)) (sym (take_more rows i row at)) (All-push (Fits columns) (take i rows) row fit row_fits)

pub on_ok : {T E : Type 0} (result : Result T E) (P : Type 0) → P → OnOk result P
on_ok (Ok done) P p = p
on_ok (Err stop) P p = tt
