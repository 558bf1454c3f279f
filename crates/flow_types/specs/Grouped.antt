-- The columns of an aggregate: those by which rows are grouped, and behind them those that are made of each group.
use Rattle.std.specs.Prelude.{ℕ, ◌≡◌, List, ◌++◌, filter_map, slice_get, IsTrue, Some, Result, Ok}
use Rattle.std.specs.List.{AllZip}
use Rattle.tuple_schema.specs.Stops.{◌>>=◌}
use Rattle.tuple_schema.specs.declared.schema.Column.{Column}
use Rattle.flow_types.specs.declared.fault.SchemaCause.{SchemaCause}
use Rattle.flow_types.specs.declared.node.Make.{Make}
use Rattle.flow_types.specs.Names.{names_in}
use Rattle.flow_types.specs.Each.{each_made}
use Rattle.flow_types.specs.Paired.{known_place}
use Rattle.flow_types.specs.Taken.{Takes}
use Rattle.flow_types.specs.Makes.{makes_of, only_summable, may_be_of, made_kind, made_nullable, made_columns}
use Rattle.flow_types.specs.Mapped.{only_schema}

-- the places of the columns by which rows are grouped, or the first name that isn't there
abbrev pub group_places : List Column → List (List ℕ) → Result (List ℕ) SchemaCause
group_places columns by = each_made (known_place (names_in columns)) by

-- the columns at these places, as they are, and behind them those that the texts make
abbrev pub group_output : List Column → List ℕ → List (List ℕ) → List Make → List Column
group_output columns places texts makes = filter_map (slice_get columns) places ++ made_columns columns texts makes

-- what groups these columns by these names and makes what the texts say: the places, what is made, and the output
abbrev pub grouped : List (List ℕ) → List (List ℕ) → List Column → Result ((List ℕ × List Make) × List Column) SchemaCause
grouped by texts columns = do
  places ← group_places columns by
  makes ← makes_of columns texts
  _ ← only_summable columns makes
  output ← only_schema (group_output columns places texts makes)
  Ok ((places, makes), output)

-- the column holds what is made of the input's column at the place, of which it may be made
pub record IsMadeOf (input : List Column) (make : Make) (column : Column) : Type 0 where
  pub of : Column
  pub at : slice_get input make.column ≡ Some of
  pub may : IsTrue (may_be_of make.what of.kind)
  pub kind : column.kind ≡ made_kind make.what of.kind
  pub nullable : column.nullable ≡ made_nullable make.what of.nullable

-- in front the columns by which the input is grouped, and behind them a column for each make
pub record IsGrouped (input : List Column) (by : List ℕ) (makes : List Make) (columns : List Column) : Type 0 where
  pub front : List Column
  pub behind : List Column
  pub all : columns ≡ front ++ behind
  pub taken : Takes input by front
  pub made : AllZip (IsMadeOf input) makes behind
