-- The text of a dump.
use Rattle.std.specs.Prelude.{ℕ, List, [], ◌∷◌, ◌++◌, map, Result, Ok, Err}
use Rattle.std.specs.List.{flat_map}
use Rattle.csv.specs.Writing.{row_text, default_writer}
use Rattle.outside.specs.Sink.{SinkState, Gains, GainsFront}
use Rattle.tuple_schema.specs.declared.value.Value.{Value}
use Rattle.tuple_schema.specs.declared.schema.Column.{Column}
use Rattle.row_codec.specs.Printing.{field_text}

-- the printed fields of a row: for each column the text of its value
unfoldable pub printed : List Column → List Value → List (List ℕ)
printed [] row = []
printed (column ∷ columns) [] = []
printed (column ∷ columns) (value ∷ row) = field_text column.kind value ∷ printed columns row

-- a record of these fields, as the default writer of `csv` writes it
abbrev pub record_text : List (List ℕ) → List ℕ
record_text fields = row_text default_writer fields

-- the rows, a record of printed fields each
abbrev pub rows_text : List Column → List (List Value) → List ℕ
rows_text columns rows = flat_map (λ row. record_text (printed columns row)) rows

-- the record of the columns' names
abbrev pub names_text : List Column → List ℕ
names_text columns = record_text (map (λ column. column.name) columns)

-- a dump: the record of the columns' names, and then the rows
abbrev pub dump_text : List Column → List (List Value) → List ℕ
dump_text columns rows = names_text columns ++ rows_text columns rows

-- what is left of this text in the output: all of it where the call is done, and a front of it where it stopped
abbrev pub Leaves : {T E : Type 0} → List ℕ → SinkState → SinkState → Result T E → Type 0
Leaves text old new (Ok done) = Gains text old new
Leaves text old new (Err stop) = GainsFront text old new
