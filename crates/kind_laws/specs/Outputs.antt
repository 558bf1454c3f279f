-- What a kind makes of the whole lists of its inputs.
use Rattle.std.specs.Prelude.{ℕ, List, [], length, get_or}
use Rattle.tuple_schema.specs.declared.schema.Column.{Column}
use Rattle.list_algebra.specs.Bags.{Tuple}
use Rattle.list_algebra.specs.Outputs.{project}
use Rattle.list_algebra.specs.Joins.{others, join, lookup}
use Rattle.list_algebra.specs.Sorting.{sort}
use Rattle.list_algebra.specs.Groups.{distinct}
use Rattle.list_algebra.specs.Unions.{appended}
use Rattle.kind_laws.specs.Expressions.{selected, mapped}
use Rattle.kind_laws.specs.Makes.{aggregated}
use Rattle.flow_types.specs.declared.node.Kind.{Kind}
use Rattle.flow_types.specs.declared.node.Kind.TheVariants as kind
use Rattle.flow_types.specs.Flows.{columns_in}

-- of each row the part at these places
abbrev pub projected : List ℕ → List Tuple → List Tuple
projected from rows = project from rows

-- the list of an input
abbrev pub list_in : List (List Tuple) → ℕ → List Tuple
list_in lists input = get_or lists input []

-- what a kind makes of the lists of its inputs, which have these columns; the one list of a source is that of its file
abbrev pub output_of : Kind → List (List Column) → List (List Tuple) → List Tuple
output_of (kind.Source file) columns lists = list_in lists 0
output_of (kind.Select test) columns lists = selected test (columns_in columns 0) (list_in lists 0)
output_of (kind.Project from) columns lists = projected from (list_in lists 0)
output_of (kind.Map sets) columns lists = mapped sets (columns_in columns 0) (list_in lists 0)
output_of (kind.Join left right) columns lists =
    join left right (others (length (columns_in columns 1)) right) (list_in lists 1) (list_in lists 0)
output_of (kind.Lookup left right) columns lists =
    lookup left right (others (length (columns_in columns 1)) right) (list_in lists 1) (list_in lists 0)
output_of (kind.Aggregate by makes order) columns lists = aggregated by makes order (list_in lists 0)
output_of (kind.Sort by) columns lists = sort (length (columns_in columns 0)) by (list_in lists 0)
output_of kind.Distinct columns lists = distinct (list_in lists 0)
output_of (kind.Union any) columns lists = appended lists
