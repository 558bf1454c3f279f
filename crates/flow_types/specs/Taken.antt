-- Columns that are taken of the input.
use Rattle.std.specs.Prelude.{◌≡◌, ◌<◌, ℕ, List, length, slice_get, All, Some}
use Rattle.std.specs.List.{AllZip}
use Rattle.tuple_schema.specs.declared.schema.Column.{Column}

-- the column holds what the input's column at the place holds; the names may differ
pub record IsTaken (input : List Column) (place : ℕ) (column : Column) : Type 0 where
  pub of : Column
  pub at : slice_get input place ≡ Some of
  pub kind : column.kind ≡ of.kind
  pub nullable : column.nullable ≡ of.nullable

-- these places of the input are taken, each as the column beside it
pub record Takes (input : List Column) (from : List ℕ) (columns : List Column) : Type 0 where
  pub within : All (λ place. place < length input) from
  pub each : AllZip (IsTaken input) from columns
