-- Expressions as trees, which the definitions of kinds and meanings go down.
use Rattle.std.specs.Prelude.{ℕ, ℤ, List}
use Rattle.expr_grammar.specs.declared.expr.Operator.{Operator}
use Rattle.expr_grammar.specs.declared.expr.Operator.TheVariants as op
use Rattle.expr_grammar.specs.declared.expr.Expr.{Expr, fold-Expr}
use Rattle.expr_grammar.specs.declared.expr.Expr.TheOpen.{Expr-F}

-- an expression by its parts
pub data Tree : Type 0 where
  number : ℤ → ℕ → Tree
  text : List ℕ → Tree
  column : List ℕ → Tree
  joined : Operator → Tree → Tree → Tree
  denied : Tree → Tree
  negated : Tree → Tree
  is_null : Tree → Tree
  is_not_null : Tree → Tree
  absolute : Tree → Tree
  length_of : Tree → Tree
  rescaled : Tree → ℕ → Tree
  coalesced : Tree → Tree → Tree
  chosen : Tree → Tree → Tree → Tree

-- one expression, whose parts are trees
abbrev pub tree_step : Expr-F Tree → Tree
tree_step (Expr-F.Number units places) = number units places
tree_step (Expr-F.Text t) = text t
tree_step (Expr-F.Column name) = column name
tree_step (Expr-F.Infix o a b) = joined o a b
tree_step (Expr-F.Not a) = denied a
tree_step (Expr-F.Negated a) = negated a
tree_step (Expr-F.IsNull a) = is_null a
tree_step (Expr-F.IsNotNull a) = is_not_null a
tree_step (Expr-F.Abs a) = absolute a
tree_step (Expr-F.Length a) = length_of a
tree_step (Expr-F.Scale a k) = rescaled a k
tree_step (Expr-F.Coalesce a b) = coalesced a b
tree_step (Expr-F.If c a b) = chosen c a b

-- the tree of an expression
abbrev pub tree_of : Expr → Tree
tree_of = fold-Expr Tree tree_step

-- no texts are joined
abbrev pub IsPlain : Tree → Type 0
IsPlain (joined op.Join a b) = ⊥
IsPlain (joined o a b) = IsPlain a × IsPlain b
IsPlain (denied a) = IsPlain a
IsPlain (negated a) = IsPlain a
IsPlain (is_null a) = IsPlain a
IsPlain (is_not_null a) = IsPlain a
IsPlain (absolute a) = IsPlain a
IsPlain (length_of a) = IsPlain a
IsPlain (rescaled a k) = IsPlain a
IsPlain (coalesced a b) = IsPlain a × IsPlain b
IsPlain (chosen c a b) = IsPlain c × IsPlain a × IsPlain b
IsPlain _ = Unit {0}
