-- What is written in an expression's text is within the limits.
use Rattle.std.proofs.Common.{ℕ, pos, List, slice_index, ◌-◌, subst, sym}
use Rattle.expr_grammar.specs.declared.expr.Expr.{Expr}
use Rattle.expr_grammar.specs.Tokens.{units, places, said}
use Rattle.expr_grammar.specs.Phrases.{Phrase, number, text, name, parens, abs, len, scale, coalesce, choice, joined, denied, negated, is_null, is_not_null, tree}
use Rattle.expr_grammar.specs.Phrases as phrases
use Rattle.expr_grammar.specs.Texts.{IsText}
use Rattle.expr_lang.specs.Trees.{tree_of}
use Rattle.expr_lang.specs.Fits.{LeavesFit}
use Rattle.expr_lang.proofs.TreeLemmas.{number_tree, text_tree, column_tree, joined_tree, denied_tree, negated_tree, null_tree, not_null_tree, absolute_tree, length_tree, rescaled_tree, coalesced_tree, chosen_tree}

phrase_leaves : (p : Phrase) → phrases.LeavesFit p → LeavesFit (tree_of (tree p))
phrase_leaves (number w) h = subst LeavesFit (sym (number_tree (pos (units w)) (places w))) (record { sfits = h })
phrase_leaves (text w) h = subst LeavesFit (sym (text_tree (said w))) h
phrase_leaves (name w) h = subst LeavesFit (sym (column_tree w)) tt
phrase_leaves (parens p) h = phrase_leaves p h
phrase_leaves (abs p) h = subst LeavesFit (sym (absolute_tree (tree p))) (phrase_leaves p h)
phrase_leaves (len p) h = subst LeavesFit (sym (length_tree (tree p))) (phrase_leaves p h)
phrase_leaves (scale p w) h = subst LeavesFit (sym (rescaled_tree (tree p) (slice_index w 0 - 48))) (phrase_leaves p h)
phrase_leaves (coalesce p q) h =
    subst LeavesFit (sym (coalesced_tree (tree p) (tree q))) (phrase_leaves p h.0, phrase_leaves q h.1)
phrase_leaves (choice p q r) h =
    subst LeavesFit (sym (chosen_tree (tree p) (tree q) (tree r)))
    (phrase_leaves p h.0, phrase_leaves q h.1, phrase_leaves r h.2)
phrase_leaves (joined o p q) h =
    subst LeavesFit (sym (joined_tree o (tree p) (tree q))) (phrase_leaves p h.0, phrase_leaves q h.1)
phrase_leaves (denied p) h = subst LeavesFit (sym (denied_tree (tree p))) (phrase_leaves p h)
phrase_leaves (negated p) h = subst LeavesFit (sym (negated_tree (tree p))) (phrase_leaves p h)
phrase_leaves (is_null p) h = subst LeavesFit (sym (null_tree (tree p))) (phrase_leaves p h)
phrase_leaves (is_not_null p) h = subst LeavesFit (sym (not_null_tree (tree p))) (phrase_leaves p h)

pub leaves : (source : List ℕ) (x : Expr) → IsText source x → LeavesFit (tree_of x)
leaves source x is = subst (λ y. LeavesFit (tree_of y)) is.4 (phrase_leaves is.1 is.2.1)
