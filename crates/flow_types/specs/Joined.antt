-- The columns of a join and of a lookup.
use Rattle.std.specs.Prelude.{ℕ, ◌≡◌, List, ◌++◌, length, map, filter_map, slice_get, true, Some}
use Rattle.std.specs.List.{AllZip}
use Rattle.tuple_schema.specs.declared.schema.Column.{Column}
use Rattle.list_algebra.specs.Joins.{others}

-- a column of the left input and one of the right hold values of one kind
pub record IsPair (left right : List Column) (at_left at_right : ℕ) : Type 0 where
  pub one : Column
  pub other : Column
  pub one_at : slice_get left at_left ≡ Some one
  pub other_at : slice_get right at_right ≡ Some other
  pub kinds : one.kind ≡ other.kind

-- the join columns of both inputs, pair by pair
abbrev pub ArePairs : List Column → List Column → List ℕ → List ℕ → Type 0
ArePairs left right cols_left cols_right = AllZip (IsPair left right) cols_left cols_right

-- the columns of the right input that are no join columns
abbrev pub other_columns : List Column → List ℕ → List Column
other_columns right cols = filter_map (slice_get right) (others (length right) cols)

-- a column that may be Null
abbrev pub as_nullable : Column → Column
as_nullable c = record { name = c.name; kind = c.kind; nullable = true }

-- those of a join: the left ones, then the right ones without the join columns
abbrev pub join_columns : List Column → List Column → List ℕ → List Column
join_columns left right cols = left ++ other_columns right cols

-- those of a lookup: the same, and the right ones may be Null
abbrev pub lookup_columns : List Column → List Column → List ℕ → List Column
lookup_columns left right cols = left ++ map as_nullable (other_columns right cols)
