-- What a CSV file holds under a schema, or the first place at which it is wrong.
use Rattle.std.specs.Prelude.{ℕ, ◌+◌, List, [], ◌∷◌, length, drop, Bool, ◌&&◌, ◌||◌, ◌==◌, Result, Ok, Err, nat_eq, bytes_eq, if◌then◌else◌}
use Rattle.std.specs.List.{common_prefix_len, starts_with}
use Rattle.csv.specs.Reading.{records, default_config, strip_bom}
use Rattle.tuple_schema.specs.declared.value.Value.{Value}
use Rattle.tuple_schema.specs.declared.schema.Column.{Column}
use Rattle.tuple_schema.specs.Stops.{◌>>=◌}
use Rattle.row_codec.specs.declared.fields.FieldFault.{FieldFault}
use Rattle.row_codec.specs.Fields.{field_value}
use Rattle.extractors.specs.declared.fault.CsvFault.{CsvFault}
use Rattle.extractors.specs.declared.fault.CsvFault.TheVariants as fault
use Rattle.extractors.specs.declared.fault.RecordFault.{RecordFault}
use Rattle.extractors.specs.declared.fault.RecordFault.TheVariants as record_fault

-- the byte order mark, in UTF-8
abbrev pub mark : List ℕ
mark = 0xEF ∷ 0xBB ∷ 0xBF ∷ []

-- the text without the one mark that may stand before it
abbrev pub without_mark : List ℕ → List ℕ
without_mark text = if starts_with nat_eq text mark then drop 3 text else text

-- the records that `csv` defines for a text, by default and with no header handling; it takes off a mark of its own
abbrev pub csv_records : List ℕ → List (List (List ℕ))
csv_records text = records default_config (strip_bom text)

-- how many columns at the front a header names; with any header every name will do
abbrev pub named_columns : Bool → List Column → List (List ℕ) → ℕ
named_columns any columns names = common_prefix_len (λ c name. any || bytes_eq c.name name) columns names

-- a header names all columns and nothing else, or differs first behind those that it names; columns count from 1
abbrev pub header_of : Bool → List Column → List (List ℕ) → Result (Unit {0}) CsvFault
header_of any columns names = let named = named_columns any columns names in
    if (named == length columns) && (named == length names) then Ok tt else Err (fault.BadHeader (named + 1))

-- the value of a field of the column at this place
abbrev pub in_column : ℕ → Result Value FieldFault → Result Value RecordFault
in_column at (Ok v) = Ok v
in_column at (Err cause) = Err (record_fault.Field at cause)

-- the values of the fields, where the first column has this place, or the first field that has none
unfoldable pub values_from : ℕ → List Column → List (List ℕ) → Result (List Value) RecordFault
values_from at [] [] = Ok []
values_from at (c ∷ cs) (f ∷ fs) = do
  first ← in_column at (field_value c f)
  others ← values_from (at + 1) cs fs
  Ok (first ∷ others)
values_from at [] (f ∷ fs) = Err record_fault.Count
values_from at (c ∷ cs) [] = Err record_fault.Count

-- the tuple of a record: as many fields as columns, whatever they hold, and then a value in each
unfoldable pub tuple_of : List Column → List (List ℕ) → Result (List Value) RecordFault
tuple_of columns fields =
    if length fields == length columns then values_from 1 columns fields else Err record_fault.Count

-- the fault of the record of this row
abbrev pub row_fault : ℕ → RecordFault → CsvFault
row_fault row record_fault.Count = fault.BadCsv row
row_fault row (record_fault.Field column cause) = fault.BadRow row column cause

-- the tuple of the record of this row
abbrev pub in_row : ℕ → Result (List Value) RecordFault → Result (List Value) CsvFault
in_row row (Ok tuple) = Ok tuple
in_row row (Err wrong) = Err (row_fault row wrong)

-- the tuples of the records, where the first one is this row, or the first row that is wrong
unfoldable pub tuples_from : ℕ → List Column → List (List (List ℕ)) → Result (List (List Value)) CsvFault
tuples_from row columns [] = Ok []
tuples_from row columns (r ∷ rs) = do
  first ← in_row row (tuple_of columns r)
  others ← tuples_from (row + 1) columns rs
  Ok (first ∷ others)

-- the first record is the header, behind which rows count from 1; a file of no records has a header of no names
unfoldable pub under_header : Bool → List Column → List (List (List ℕ)) → Result (List (List Value)) CsvFault
under_header any columns [] = Err (fault.BadHeader 1)
under_header any columns (header ∷ body) = do
  _ ← header_of any columns header
  tuples_from 1 columns body

-- the content of a file, or its first fault
unfoldable pub csv_content : Bool → List Column → List ℕ → Result (List (List Value)) CsvFault
csv_content any columns file = under_header any columns (csv_records (without_mark file))
