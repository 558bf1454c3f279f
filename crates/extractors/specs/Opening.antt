-- What is found of a source's file.
use Rattle.std.specs.Prelude.{ℕ, List, Bool, Result, Ok, Err}
use Rattle.tuple_schema.specs.declared.value.Value.{Value}
use Rattle.tuple_schema.specs.declared.schema.Column.{Column}
use Rattle.tuple_schema.specs.Stops.{◌>>=◌}
use Rattle.outside.specs.Whole.{Found, missing, too_large, bytes}
use Rattle.extractors.specs.declared.fault.CsvFault.{CsvFault}
use Rattle.extractors.specs.declared.fault.CsvFault.TheVariants as fault
use Rattle.extractors.specs.CsvContent.{csv_content}

-- the bytes of a source's file that was found, or why there are none
abbrev pub bytes_of : Found → Result (List ℕ) CsvFault
bytes_of missing = Err fault.Missing
bytes_of (too_large size) = Err (fault.TooLarge size)
bytes_of (bytes file) = Ok file

-- what is found of a source's file: its content, or its first fault
abbrev pub source_content : Bool → List Column → Found → Result (List (List Value)) CsvFault
source_content any columns found = do
  file ← bytes_of found
  csv_content any columns file
