-- What the texts of a map set, and the columns that come of it.
use Rattle.std.specs.Prelude.{ℕ, List, [], ◌++◌, length, map, find, bytes_eq, nat_le, if◌then◌else◌, not, unwrap_or, Option, Some, None, option_map, option_and_then, Bool, Result, Ok, Err}
use Rattle.std.specs.List.{filter}
use Rattle.tuple_schema.specs.Stops.{◌>>=◌}
use Rattle.tuple_schema.specs.Texts.{head_of, rest_of, is_among}
use Rattle.tuple_schema.specs.declared.schema.Column.{Column}
use Rattle.expr_lang.specs.declared.kind.ExprKind.{ExprKind}
use Rattle.expr_lang.specs.declared.kind.ExprKind.TheVariants as sort
use Rattle.flow_types.specs.declared.fault.SchemaCause.{SchemaCause}
use Rattle.flow_types.specs.declared.fault.SchemaCause.TheVariants as cause
use Rattle.flow_types.specs.declared.node.Assign.{Assign}
use Rattle.flow_types.specs.declared.mapped.Setting.{Setting}
use Rattle.flow_types.specs.Names.{place_of, names_in, no_double}
use Rattle.flow_types.specs.Expressions.{expression_of, kind_over}

-- the expression in `NAME = EXPRESSION`: what stands behind the second space
abbrev pub value_text : List ℕ → List ℕ
value_text text = unwrap_or (option_and_then rest_of (rest_of text)) []

-- a value, and no truth, in a column of this name
abbrev pub only_value : List ℕ → ExprKind → Result Column SchemaCause
only_value name (sort.Value kind nullable) = Ok (record { name = name; kind = kind; nullable = nullable })
only_value name sort.Truth = Err cause.BadType

-- what a text sets: a column, and its value over these columns
abbrev pub setting_of : List Column → List ℕ → Result Setting SchemaCause
setting_of columns text = do
  x ← expression_of (value_text text)
  sort ← kind_over columns x
  column ← only_value (head_of text) sort
  Ok (record { column = column; value = x })

-- the columns that are set
abbrev pub columns_set : List Setting → List Column
columns_set settings = map (λ s. s.column) settings

-- what is set under this name, if something is
abbrev pub set_named : List ℕ → List Setting → Option Setting
set_named name settings = find (λ s. bytes_eq s.column.name name) settings

-- a column as it is set, or as it is where it isn't
abbrev pub column_or : Column → Option Setting → Column
column_or c None = c
column_or c (Some s) = s.column

abbrev pub replaced : List Setting → Column → Column
replaced settings c = column_or c (set_named c.name settings)

-- none of these names is set
abbrev pub is_new : List (List ℕ) → Setting → Bool
is_new names s = not (is_among names s.column.name)

-- the columns of the output: those of the input, each as it is set where it is, and behind them the new ones
abbrev pub set_columns : List Column → List Setting → List Column
set_columns input settings = map (replaced settings) input ++ columns_set (filter (is_new (names_in input)) settings)

-- what is set, at the place of its column's name among these
abbrev pub assign_in : List (List ℕ) → Setting → Option Assign
assign_in names s = option_map (λ place. record { place = place; value = s.value }) (place_of names s.column.name)

-- at most 64 columns
abbrev pub only_few : List Column → Result (List Column) SchemaCause
only_few columns = if nat_le (length columns) 64 then Ok columns else Err cause.TooManyColumns

-- those of an output with these columns: no name comes twice, and they are few
abbrev pub only_schema : List Column → Result (List Column) SchemaCause
only_schema columns = do
  _ ← no_double (names_in columns)
  only_few columns
