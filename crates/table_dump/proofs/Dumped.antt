-- What stands in the output of a table's rows.
use Rattle.std.proofs.Common.{◌≡◌, ◌<◌, ◌≤◌, arith, ℕ, List, ◌++◌, Option, Result, Ok, Err, sym, subst, ap, ◌∙◌}
use Rattle.outside.specs.Sink.{SinkState, Gains, GainsFront}
use Rattle.tuple_schema.specs.declared.memory.Stop.{Stop}
use Rattle.tuple_schema.specs.declared.memory.Stop.TheVariants as stop
use Rattle.tuple_schema.specs.Stops.{IfFault}
use Rattle.tuple_schema.specs.declared.value.Value.{Value}
use Rattle.tuple_schema.specs.declared.schema.Column.{Column}
use Rattle.commit_disk.specs.Table.{TableBlock}
use Rattle.table_dump.specs.declared.fault.DumpFault.{DumpFault}
use Rattle.table_dump.specs.declared.fault.DumpFault.TheVariants as fault
use Rattle.table_dump.specs.Stops.{IsOutputFault, Judges}
use Rattle.table_dump.specs.Texts.{rows_text}
use Rattle.table_dump.proofs.Puts.{puts_front, fronts_first}
use Rattle.table_dump.proofs.Rows.{rows_on, rows_text_both}
use Rattle.table_dump.proofs.Walks.{StandsAt, first_of}

abbrev Rows : Type 0
Rows = List (List Value)

-- the rows before this gate were put
pub record HasPut (columns : List Column) (text : List ℕ) (blocks : List TableBlock) (gate : ℕ) (reading : Result Rows ℕ) (old new : SinkState) : Type 0 where
  pub done : Rows
  pub stands : StandsAt columns text blocks gate reading done
  pub gains : Gains (rows_text columns done) old new

-- a front of the first rows is one of all
pub front_of_all : (columns : List Column) (one two rows : Rows) (old new : SinkState) → rows ≡ one ++ two → GainsFront (rows_text columns one) old new → GainsFront (rows_text columns rows) old new
front_of_all columns one two rows old new is front =
    subst (λ (l : List ℕ). GainsFront l old new) (sym (rows_text_both columns one two) ∙ sym (ap (rows_text columns) is))
    (fronts_first old new (rows_text columns one) (rows_text columns two) front)

-- where the call stops, a front of all stands there
pub stops_with : (columns : List Column) (text : List ℕ) (blocks : List TableBlock) (gate : ℕ) (reading : Result Rows ℕ) (rows : Rows) (old new : SinkState)
    → HasPut columns text blocks gate reading old new → reading ≡ Ok rows → GainsFront (rows_text columns rows) old new
stops_with columns text blocks gate reading rows old new has e =
    let first = first_of columns text blocks gate reading has.done rows has.stands e in
    subst (λ (rs : Rows). GainsFront (rows_text columns rs) old new) (sym first.1)
    (rows_on {T = Unit {0}} columns old new new has.done first.0 (Err (tt {0})) has.gains (puts_front (rows_text columns first.0) new))

-- and so where a batch is put in part
pub fails_with : (columns : List Column) (text : List ℕ) (blocks : List TableBlock) (gate next : ℕ) (reading : Result Rows ℕ) (rows taken : Rows) (old mid new : SinkState)
    → (has : HasPut columns text blocks gate reading old mid) → StandsAt columns text blocks next reading (has.done ++ taken) → reading ≡ Ok rows → GainsFront (rows_text columns taken) mid new
    → GainsFront (rows_text columns rows) old new
fails_with columns text blocks gate next reading rows taken old mid new has stands e front =
    let both = has.done ++ taken in
    let first = first_of columns text blocks next reading both rows stands e in
    front_of_all columns both first.0 rows old new first.1 (rows_on {T = Unit {0}} columns old mid new has.done taken (Err (tt {0})) has.gains front)

-- where the output failed, the table isn't judged
pub judges_nothing : (old new : SinkState) (s : Stop DumpFault) (wrong : Option ℕ) → IfFault {T = Unit {0}} (Err s) (IsOutputFault old new) → Judges {T = Unit {0}} (Err s) wrong
judges_nothing old new stop.Memory wrong is = tt
judges_nothing old new (stop.Fault fault.Disk) wrong is = absurd is
judges_nothing old new (stop.Fault fault.Sink) wrong is = tt
judges_nothing old new (stop.Fault (fault.NotATable place)) wrong is = absurd is

abbrev all_of : Rows → Result Rows ℕ
all_of rows = Ok rows

pub same_rows : (xs ys : Rows) → all_of xs ≡ all_of ys → xs ≡ ys
same_rows xs ys e = cc

pub below : (a b : ℕ) → a ≤ b → (a ≡ b → ⊥) → a < b
below a b le ne = omega (arith, le, ne)
