-- Expressions in the texts of nodes: each is read, and typed over the columns of the node's input.
use Rattle.std.specs.Prelude.{ℕ, List, Result, Ok, Err}
use Rattle.tuple_schema.specs.Stops.{◌>>=◌}
use Rattle.tuple_schema.specs.declared.schema.Column.{Column}
use Rattle.expr_grammar.specs.declared.expr.Expr.{Expr}
use Rattle.expr_grammar.specs.declared.fault.ExprFault.{ExprFault}
use Rattle.expr_grammar.specs.Machine.{reading}
use Rattle.expr_lang.specs.declared.kind.ExprKind.{ExprKind}
use Rattle.expr_lang.specs.declared.kind.ExprKind.TheVariants as sort
use Rattle.expr_lang.specs.declared.kind.TypeFault.{TypeFault}
use Rattle.expr_lang.specs.declared.kind.TypeFault.TheVariants as fault
use Rattle.expr_lang.specs.Trees.{tree_of}
use Rattle.expr_lang.specs.Kinds.{typing}
use Rattle.flow_types.specs.declared.fault.SchemaCause.{SchemaCause}
use Rattle.flow_types.specs.declared.fault.SchemaCause.TheVariants as cause

-- a fault of the text is a bad expression, wrong there
abbrev pub unless_bad : Result Expr ExprFault → Result Expr SchemaCause
unless_bad (Ok x) = Ok x
unless_bad (Err f) = Err (cause.BadExpr f.at f.what)

-- the expression of a text
abbrev pub expression_of : List ℕ → Result Expr SchemaCause
expression_of text = unless_bad (reading text)

-- the cause that a fault of kinds is
abbrev pub cause_of : TypeFault → SchemaCause
cause_of (fault.UnknownColumn name) = cause.UnknownColumn name
cause_of fault.WrongKinds = cause.BadType

abbrev pub unless_wrong : Result ExprKind TypeFault → Result ExprKind SchemaCause
unless_wrong (Ok sort) = Ok sort
unless_wrong (Err f) = Err (cause_of f)

-- what an expression gives over these columns
abbrev pub kind_over : List Column → Expr → Result ExprKind SchemaCause
kind_over columns x = unless_wrong (typing columns (tree_of x))

-- a truth, and no value
abbrev pub only_truth : ExprKind → Result Unit SchemaCause
only_truth sort.Truth = Ok tt
only_truth (sort.Value kind nullable) = Err cause.BadType

-- the test that a text says of rows with these columns
abbrev pub test_of : List Column → List ℕ → Result Expr SchemaCause
test_of columns text = do
  x ← expression_of text
  sort ← kind_over columns x
  _ ← only_truth sort
  Ok x
