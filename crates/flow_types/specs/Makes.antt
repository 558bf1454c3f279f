-- What the texts of an aggregate make of the rows of a group, and the columns that come of it.
use Rattle.std.specs.Prelude.{ℕ, List, zip, filter_map, slice_get, codes, bytes_eq, Bool, true, false, if◌then◌else◌, is_some, Option, Some, None, option_map, Result, Ok, Err}
use Rattle.std.specs.List.{list_all}
use Rattle.tuple_schema.specs.Stops.{◌>>=◌}
use Rattle.tuple_schema.specs.Texts.{head_of, rest_of}
use Rattle.tuple_schema.specs.declared.schema.Column.{Column}
use Rattle.tuple_schema.specs.declared.schema.ColumnKind.{ColumnKind}
use Rattle.tuple_schema.specs.declared.schema.ColumnKind.TheVariants as kind
use Rattle.flow_types.specs.declared.fault.SchemaCause.{SchemaCause}
use Rattle.flow_types.specs.declared.fault.SchemaCause.TheVariants as cause
use Rattle.flow_types.specs.declared.node.Agg.{Agg}
use Rattle.flow_types.specs.declared.node.Agg.TheVariants as agg
use Rattle.flow_types.specs.declared.node.Make.{Make}
use Rattle.flow_types.specs.Names.{names_in}
use Rattle.flow_types.specs.Each.{each_made}
use Rattle.flow_types.specs.Paired.{known_place}
use Rattle.flow_types.specs.Mapped.{value_text}

-- what a word makes, with a column behind it or without: `count` alone counts the rows
abbrev pub agg_of : List ℕ → Bool → Agg
agg_of word false = agg.Count
agg_of word true =
    if bytes_eq word (codes "count") then agg.CountOf
    else if bytes_eq word (codes "sum") then agg.Sum
    else if bytes_eq word (codes "min") then agg.Min
    else agg.Max

-- the place of the column behind the word, which has to be there; where no column is named, 0
abbrev pub place_if : List (List ℕ) → Option (List ℕ) → Result ℕ SchemaCause
place_if names None = Ok 0
place_if names (Some name) = known_place names name

-- what `WORD` or `WORD NAME` makes of columns of these names
abbrev pub make_in : List (List ℕ) → List ℕ → Result Make SchemaCause
make_in names value = do
  place ← place_if names (rest_of value)
  Ok (record { what = agg_of (head_of value) (is_some (rest_of value)); column = place })

-- what a text makes of these columns
abbrev pub make_of : List Column → List ℕ → Result Make SchemaCause
make_of columns text = make_in (names_in columns) (value_text text)

-- what the texts make, or the first column that isn't there
abbrev pub makes_of : List Column → List (List ℕ) → Result (List Make) SchemaCause
makes_of columns texts = each_made (make_of columns) texts

-- a number, and no text
abbrev pub is_number : ColumnKind → Bool
is_number kind.Int = true
is_number (kind.Dec scale) = true
is_number kind.Text = false

-- only numbers have a sum; all else may be made of any column
abbrev pub may_be_of : Agg → ColumnKind → Bool
may_be_of agg.Count k = true
may_be_of agg.CountOf k = true
may_be_of agg.Sum k = is_number k
may_be_of agg.Min k = true
may_be_of agg.Max k = true

-- the column is there, and may be made so
abbrev pub may_of : Agg → Option Column → Bool
may_of what None = false
may_of what (Some c) = may_be_of what c.kind

abbrev pub may_be_made : List Column → Make → Bool
may_be_made columns make = may_of make.what (slice_get columns make.column)

-- no text is summed
abbrev pub only_summable : List Column → List Make → Result Unit SchemaCause
only_summable columns makes = if list_all (may_be_made columns) makes then Ok tt else Err cause.KindDiffers

-- the kind of what is made of a column: a count is an Int, and all else is of the column's kind
abbrev pub made_kind : Agg → ColumnKind → ColumnKind
made_kind agg.Count k = kind.Int
made_kind agg.CountOf k = kind.Int
made_kind agg.Sum k = k
made_kind agg.Min k = k
made_kind agg.Max k = k

-- what is made may be Null: never a count, always a sum, and the least or the greatest where the column may be
abbrev pub made_nullable : Agg → Bool → Bool
made_nullable agg.Count nullable = false
made_nullable agg.CountOf nullable = false
made_nullable agg.Sum nullable = true
made_nullable agg.Min nullable = nullable
made_nullable agg.Max nullable = nullable

-- the column that is made of another, under a name
abbrev pub made_from : List ℕ → Agg → Column → Column
made_from name what c = record {
  name = name;
  kind = made_kind what c.kind;
  nullable = made_nullable what c.nullable;
}

-- the column that is made of one of these
abbrev pub made_column : List Column → List ℕ → Make → Option Column
made_column columns name make = option_map (made_from name make.what) (slice_get columns make.column)

-- the columns that are made, each under the name in its text
abbrev pub made_columns : List Column → List (List ℕ) → List Make → List Column
made_columns columns texts makes = filter_map (λ p. made_column columns (head_of p.0) p.1) (zip texts makes)
