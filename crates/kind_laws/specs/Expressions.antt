-- What selecting and mapping by expressions make of a list of tuples.
use Rattle.std.specs.Prelude.{ℕ, List, length, map, get_or, Bool, true, false, Option, Some, None}
use Rattle.tuple_schema.specs.declared.value.Value.{Value}
use Rattle.tuple_schema.specs.declared.value.Value.TheVariants as value
use Rattle.tuple_schema.specs.declared.schema.Column.{Column}
use Rattle.list_algebra.specs.Bags.{Tuple}
use Rattle.list_algebra.specs.Outputs.{select}
use Rattle.list_algebra.specs.Joins.{below}
use Rattle.expr_grammar.specs.declared.expr.Expr.{Expr}
use Rattle.expr_lang.specs.Trees.{tree_of}
use Rattle.expr_lang.specs.Values.{value_of, truth_of}
use Rattle.expr_lang.specs.declared.logic.Truth.{Truth}
use Rattle.expr_lang.specs.declared.logic.Truth.TheVariants as truth
use Rattle.flow_types.specs.declared.node.Assign.{Assign}
use Rattle.flow_types.specs.Assigned.{set_at, width_of}

-- only what is true is kept, and not what is unknown
abbrev pub is_true : Truth → Bool
is_true truth.True = true
is_true truth.False = false
is_true truth.Unknown = false

-- the rows of these columns of which the test is true, in their order
abbrev pub selected : Expr → List Column → List Tuple → List Tuple
selected test columns rows = select (λ row. is_true (truth_of columns row (tree_of test))) rows

-- what stands at a place of the new tuple: the value that is set there, of the old tuple, or the old tuple's own
abbrev pub cell : List Column → Tuple → Option Expr → ℕ → Value
cell columns row (Some x) place = value_of columns row (tree_of x)
cell columns row None place = get_or row place value.Null

-- what stands at each place, where these are the values that are set
abbrev pub cells : List Column → Tuple → List (Option Expr) → Tuple
cells columns row values = map (λ place. cell columns row (get_or values place None) place) (below (length values))

-- the new tuple: all expressions are taken of the old one at once
abbrev pub assigned : List Assign → List Column → Tuple → Tuple
assigned sets columns row =
    map (λ place. cell columns row (set_at sets place) place) (below (width_of (length columns) sets))

-- of each row the new tuple, in their order
abbrev pub mapped : List Assign → List Column → List Tuple → List Tuple
mapped sets columns rows = map (assigned sets columns) rows
