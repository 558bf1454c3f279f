-- The columns of a union.
use Rattle.std.specs.Prelude.{ℕ, suc, ◌≡◌, List, [], ◌∷◌, map, slice_get, Bool, true, false, ◌&&◌, if◌then◌else◌, Option, Some, None, All, IsTrue, Result, Ok, Err}
use Rattle.std.specs.List.{list_all, list_any}
use Rattle.tuple_schema.specs.declared.schema.Column.{Column}
use Rattle.expr_lang.specs.Kinds.{is_same_kind}
use Rattle.flow_types.specs.declared.fault.SchemaCause.{SchemaCause}
use Rattle.flow_types.specs.declared.fault.SchemaCause.TheVariants as cause
use Rattle.flow_types.specs.Flows.{columns_in}

-- two lists of columns hold the same kinds, place by place
abbrev pub are_alike : List Column → List Column → Bool
are_alike [] [] = true
are_alike (c ∷ cs) (d ∷ ds) = is_same_kind c.kind d.kind && are_alike cs ds
are_alike _ _ = false

-- each of these lists is like the first one
abbrev pub only_alike : List Column → List (List Column) → Result Unit SchemaCause
only_alike first inputs = if list_all (are_alike first) inputs then Ok tt else Err cause.KindDiffers

-- the column is there, and may be Null
abbrev pub is_nullable : Option Column → Bool
is_nullable None = false
is_nullable (Some c) = c.nullable

-- the column at the place may be Null
abbrev pub may_be_null : ℕ → List Column → Bool
may_be_null place columns = is_nullable (slice_get columns place)

-- that of any input may be
abbrev pub any_nullable : List (List Column) → ℕ → Bool
any_nullable inputs place = list_any (may_be_null place) inputs

-- a column at a place of the union: nullable where that of any input is
abbrev pub united_column : List (List Column) → ℕ → Column → Column
united_column inputs place c = record { name = c.name; kind = c.kind; nullable = any_nullable inputs place }

-- the columns from a place on, each so
abbrev pub united_from : List (List Column) → ℕ → List Column → List Column
united_from inputs place [] = []
united_from inputs place (c ∷ cs) = united_column inputs place c ∷ united_from inputs (suc place) cs

-- the columns of a union: those of the first input, by name and kind
abbrev pub united_columns : List (List Column) → List Column
united_columns inputs = united_from inputs 0 (columns_in inputs 0)

-- rows of the input are rows of these columns: the kinds are the same, and what may be Null in the input may be here
pub record GoesInto (input columns : List Column) : Type 0 where
  pub kinds : map (λ c. c.kind) input ≡ map (λ c. c.kind) columns
  pub nulls : (place : ℕ) → IsTrue (may_be_null place input) → IsTrue (may_be_null place columns)

-- those of each input are
abbrev pub AllGoInto : List (List Column) → List Column → Type 0
AllGoInto inputs columns = All (λ input. GoesInto input columns) inputs
