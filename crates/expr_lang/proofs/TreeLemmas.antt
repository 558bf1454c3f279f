-- The trees of expressions by their parts.
use Rattle.std.proofs.Common.{◌≡◌, ℕ, ℤ, List, ap, sym, ◌∙◌}
use Rattle.expr_grammar.specs.declared.expr.Expr.{Expr, fold-roll-Expr}
use Rattle.expr_grammar.specs.declared.expr.Expr.TheOpen.{Expr-F}
use Rattle.expr_grammar.specs.declared.expr.Expr.TheVariants as e
use Rattle.expr_grammar.specs.declared.expr.Operator.{Operator}
use Rattle.expr_lang.specs.Trees.{Tree, number, text, column, joined, denied, negated, is_null, is_not_null, absolute, length_of, rescaled, coalesced, chosen, tree_step, tree_of}

pub number_tree : (z : ℤ) (places : ℕ) → tree_of (e.Number z places) ≡ number z places
number_tree z places = ap tree_of (sym (e.rolls-Number z places)) ∙ fold-roll-Expr Tree tree_step (Expr-F.Number z places)

pub text_tree : (t : List ℕ) → tree_of (e.Text t) ≡ text t
text_tree t = ap tree_of (sym (e.rolls-Text t)) ∙ fold-roll-Expr Tree tree_step (Expr-F.Text t)

pub column_tree : (name : List ℕ) → tree_of (e.Column name) ≡ column name
column_tree name = ap tree_of (sym (e.rolls-Column name)) ∙ fold-roll-Expr Tree tree_step (Expr-F.Column name)

pub joined_tree : (o : Operator) (a b : Expr) → tree_of (e.Infix o a b) ≡ joined o (tree_of a) (tree_of b)
joined_tree o a b = ap tree_of (sym (e.rolls-Infix o a b)) ∙ fold-roll-Expr Tree tree_step (Expr-F.Infix o a b)

pub denied_tree : (a : Expr) → tree_of (e.Not a) ≡ denied (tree_of a)
denied_tree a = ap tree_of (sym (e.rolls-Not a)) ∙ fold-roll-Expr Tree tree_step (Expr-F.Not a)

pub negated_tree : (a : Expr) → tree_of (e.Negated a) ≡ negated (tree_of a)
negated_tree a = ap tree_of (sym (e.rolls-Negated a)) ∙ fold-roll-Expr Tree tree_step (Expr-F.Negated a)

pub null_tree : (a : Expr) → tree_of (e.IsNull a) ≡ is_null (tree_of a)
null_tree a = ap tree_of (sym (e.rolls-IsNull a)) ∙ fold-roll-Expr Tree tree_step (Expr-F.IsNull a)

pub not_null_tree : (a : Expr) → tree_of (e.IsNotNull a) ≡ is_not_null (tree_of a)
not_null_tree a = ap tree_of (sym (e.rolls-IsNotNull a)) ∙ fold-roll-Expr Tree tree_step (Expr-F.IsNotNull a)

pub absolute_tree : (a : Expr) → tree_of (e.Abs a) ≡ absolute (tree_of a)
absolute_tree a = ap tree_of (sym (e.rolls-Abs a)) ∙ fold-roll-Expr Tree tree_step (Expr-F.Abs a)

pub length_tree : (a : Expr) → tree_of (e.Length a) ≡ length_of (tree_of a)
length_tree a = ap tree_of (sym (e.rolls-Length a)) ∙ fold-roll-Expr Tree tree_step (Expr-F.Length a)

pub rescaled_tree : (a : Expr) (k : ℕ) → tree_of (e.Scale a k) ≡ rescaled (tree_of a) k
rescaled_tree a k = ap tree_of (sym (e.rolls-Scale a k)) ∙ fold-roll-Expr Tree tree_step (Expr-F.Scale a k)

pub coalesced_tree : (a b : Expr) → tree_of (e.Coalesce a b) ≡ coalesced (tree_of a) (tree_of b)
coalesced_tree a b = ap tree_of (sym (e.rolls-Coalesce a b)) ∙ fold-roll-Expr Tree tree_step (Expr-F.Coalesce a b)

pub chosen_tree : (c a b : Expr) → tree_of (e.If c a b) ≡ chosen (tree_of c) (tree_of a) (tree_of b)
chosen_tree c a b = ap tree_of (sym (e.rolls-If c a b)) ∙ fold-roll-Expr Tree tree_step (Expr-F.If c a b)
