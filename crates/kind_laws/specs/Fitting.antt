-- Tuples of one list of columns that fit another one.
use Rattle.std.specs.Prelude.{List, All}
use Rattle.tuple_schema.specs.declared.schema.Column.{Column}
use Rattle.tuple_schema.specs.Schemas.{Fits}
use Rattle.list_algebra.specs.Bags.{Tuple}

-- every tuple that fits the input's columns fits these
abbrev pub FitInto : List Column → List Column → Type 0
FitInto input columns = (t : Tuple) → Fits input t → Fits columns t

-- each of these inputs' columns does so
abbrev pub AllFitInto : List (List Column) → List Column → Type 0
AllFitInto inputs columns = All (λ input. FitInto input columns) inputs
