-- What a map sets, and the columns that come of it.
use Rattle.std.specs.Prelude.{ℕ, ◌≡◌, ◌+◌, ◌==◌, nat_le, List, length, find, slice_get, Option, Some, None, option_map, Ok}
use Rattle.std.specs.List.{filter}
use Rattle.tuple_schema.specs.declared.schema.Column.{Column}
use Rattle.expr_grammar.specs.declared.expr.Expr.{Expr}
use Rattle.expr_lang.specs.Trees.{tree_of}
use Rattle.expr_lang.specs.Kinds.{typing}
use Rattle.expr_lang.specs.Fits.{LeavesFit}
use Rattle.expr_lang.specs.declared.kind.ExprKind.TheVariants as sort
use Rattle.flow_types.specs.declared.node.Assign.{Assign}
use Rattle.flow_types.specs.Taken.{IsTaken}

-- the value that is set at a place of the output
abbrev pub set_at : List Assign → ℕ → Option Expr
set_at sets place = option_map (λ a. a.value) (find (λ a. a.place == place) sets)

-- how many columns come of so many: these, and those that are set behind them
abbrev pub width_of : ℕ → List Assign → ℕ
width_of count sets = count + length (filter (λ a. nat_le count a.place) sets)

-- the column holds what the expression gives over the input's columns
abbrev pub HoldsValue : List Column → Expr → Column → Type 0
HoldsValue input x column =
    LeavesFit (tree_of x) × (typing input (tree_of x) ≡ Ok (sort.Value column.kind column.nullable))

-- what a column of the output holds: the value that is set there, or what the input's column there holds
abbrev pub HoldsCell : List Column → Option Expr → ℕ → Column → Type 0
HoldsCell input (Some x) place column = HoldsValue input x column
HoldsCell input None place column = IsTaken input place column

-- the columns that come of the input's, where these are set
pub record IsAssigned (input : List Column) (sets : List Assign) (columns : List Column) : Type 0 where
  pub wide : length columns ≡ width_of (length input) sets
  pub each : (place : ℕ) (column : Column) → slice_get columns place ≡ Some column
      → HoldsCell input (set_at sets place) place column
