-- Values that may stand in a column of the kind that was found.
use Rattle.std.specs.Prelude.{◌≡◌, ◌≤◌, List, length, All, Bool, IsTrue, Ok, FitsSigned, ⊤}
use Rattle.std.specs.Int.{w64}
use Rattle.tuple_schema.specs.declared.value.Value.{Value}
use Rattle.tuple_schema.specs.declared.value.Value.TheVariants as value
use Rattle.tuple_schema.specs.declared.schema.Column.{Column}
use Rattle.tuple_schema.specs.declared.schema.ColumnKind.{ColumnKind}
use Rattle.tuple_schema.specs.Schemas.{HasScale, Fits, is_of}
use Rattle.expr_lang.specs.Trees.{Tree, number, text, column, joined, denied, negated, is_null, is_not_null, absolute, length_of, rescaled, coalesced, chosen}
use Rattle.expr_lang.specs.Kinds.{typing}
use Rattle.expr_lang.specs.declared.kind.ExprKind.{ExprKind}

-- a value within the limits: a number of 64 bits, or a text of at most 4,096 bytes
abbrev pub IsWithin : Value → Type 0
IsWithin value.Null = ⊤
IsWithin (value.Int n) = FitsSigned w64 n
IsWithin (value.Dec n) = FitsSigned w64 n
IsWithin (value.Text t) = length t ≤ 4096

-- what is written in the expression is within the limits
abbrev pub LeavesFit : Tree → Type 0
LeavesFit (number z places) = FitsSigned w64 z
LeavesFit (text t) = length t ≤ 4096
LeavesFit (column name) = ⊤
LeavesFit (joined o a b) = LeavesFit a × LeavesFit b
LeavesFit (denied a) = LeavesFit a
LeavesFit (negated a) = LeavesFit a
LeavesFit (is_null a) = LeavesFit a
LeavesFit (is_not_null a) = LeavesFit a
LeavesFit (absolute a) = LeavesFit a
LeavesFit (length_of a) = LeavesFit a
LeavesFit (rescaled a k) = LeavesFit a
LeavesFit (coalesced a b) = LeavesFit a × LeavesFit b
LeavesFit (chosen c a b) = LeavesFit c × LeavesFit a × LeavesFit b

-- an expression that has this kind over the columns of a schema, and a row that fits them, all within the limits
pub record IsTyped (columns : List Column) (row : List Value) (x : Tree) (kind : ExprKind) : Type 0 where
  pub scaled : All (λ c. HasScale c.kind) columns
  pub fits : Fits columns row
  pub within : All IsWithin row
  pub leaves : LeavesFit x
  pub typed : typing columns x ≡ Ok kind

-- the value may stand in a column of this kind: it is of the kind, or a Null that may be, and within the limits
pub record ValueFits (kind : ColumnKind) (nullable : Bool) (v : Value) : Type 0 where
  pub fits : IsTrue (is_of kind nullable v)
  pub within : IsWithin v
