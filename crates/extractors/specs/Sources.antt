-- A checked file, and the rows that are read again from it.
use Rattle.std.specs.Prelude.{◌≡◌, ◌≤◌, ℕ, List, [], length, drop, Bool, true, false, All, Result, Ok, Err, IsOk, ⊤}
use Rattle.std.specs.Result.{result_ok}
use Rattle.std.specs.List.{filter_map}
use Rattle.std.specs.Borrow.{Bor}
use Rattle.csv.specs.declared.reader.Reader.{Reader}
use Rattle.tuple_schema.specs.declared.value.Value.{Value}
use Rattle.tuple_schema.specs.declared.schema.Column.{Column}
use Rattle.tuple_schema.specs.Schemas.{IsSchema}
use Rattle.extractors.specs.declared.fault.RecordFault.{RecordFault}
use Rattle.extractors.specs.declared.rows.Progress.{Progress}
use Rattle.extractors.specs.declared.rows.Progress.TheVariants as progress
use Rattle.extractors.specs.CsvContent.{csv_records, without_mark, tuple_of}
use Rattle.extractors.specs.Readers.{IsOpen, to_come}

-- what a source is seen as
pub record SourceOf : Type 0 where
  pub columns : List Column
  pub rows : List (List Value)

-- what rows that are read again are seen as
pub record RowsOf : Type 0 where
  pub columns : List Column
  pub to_come : List (List Value)
  pub sound : Bool

-- the tuples of the records that have one
unfoldable pub good_rows : List Column → List (List (List ℕ)) → List (List Value)
good_rows columns records = filter_map (λ fields. result_ok (tuple_of columns fields)) records

-- the records under the header
abbrev pub body_records : List ℕ → List (List (List ℕ))
body_records file = drop 1 (csv_records (without_mark file))

-- the rows of a file that was checked
unfoldable pub file_rows : List Column → List ℕ → List (List Value)
file_rows columns file = good_rows columns (body_records file)

-- each record has a tuple
pub record AreGood (columns : List Column) (records : List (List (List ℕ))) : Type 0 where
  pub each : All (λ fields. IsOk (tuple_of columns fields)) records

-- there is a header, and each record under it has a tuple
pub record IsChecked (columns : List Column) (file : List ℕ) : Type 0 where
  pub headed : 1 ≤ length (csv_records (without_mark file))
  pub good : AreGood columns (body_records file)

-- the tuple of a record
abbrev pub tuple_or_none : Result (List Value) RecordFault → List Value
tuple_or_none (Ok tuple) = tuple
tuple_or_none (Err fault) = []

unfoldable pub good_tuple : List Column → List (List ℕ) → List Value
good_tuple columns fields = tuple_or_none (tuple_of columns fields)

-- the record has a tuple
pub record IsGoodRecord (columns : List Column) (fields : List (List ℕ)) : Type 0 where
  pub schema : IsSchema columns
  pub good : IsOk (tuple_of columns fields)

-- rows that can be read on: the reader hasn't failed, and each record to come has a tuple
pub record CanGoOn (columns : List Column) (reader : Reader (Bor (List ℕ))) : Type 0 where
  pub running : IsOpen reader
  pub good : AreGood columns (to_come reader)

-- the rows that are left, by how far the reading has come
abbrev pub rows_left : Progress → List Column → Reader (Bor (List ℕ)) → List (List Value)
rows_left progress.Reading columns reader = good_rows columns (to_come reader)
rows_left progress.Ended columns reader = []
rows_left progress.Failed columns reader = []

abbrev pub is_sound : Progress → Bool
is_sound progress.Reading = true
is_sound progress.Ended = true
is_sound progress.Failed = false

-- a reading that goes on can be gone on with
abbrev pub GoesOn : Progress → List Column → Reader (Bor (List ℕ)) → Type 0
GoesOn progress.Reading columns reader = CanGoOn columns reader
GoesOn progress.Ended columns reader = ⊤
GoesOn progress.Failed columns reader = ⊤

pub record AreRows (columns : List Column) (reader : Reader (Bor (List ℕ))) (at : Progress) : Type 0 where
  pub schema : IsSchema columns
  pub goes : GoesOn at columns reader

-- where the reading goes on, the batch is full
abbrev pub IsFullUnlessEnded : Progress → ℕ → ℕ → Type 0
IsFullUnlessEnded progress.Reading len want = len ≡ want
IsFullUnlessEnded progress.Ended len want = ⊤
IsFullUnlessEnded progress.Failed len want = ⊥
