use Rattle.std.proofs.Common.{◌++◌}
use Rattle.expr_lang.specs.Trees.{tree_of}
use Rattle.expr_lang.specs.Kinds.{is_unknown, columns_in}
use Rattle.expr_lang.proofs.TreeLemmas.{joined_tree, coalesced_tree, chosen_tree}
use Rattle.expr_lang.proofs.Unknown.{found_in}
use Rattle.expr_lang.proofs.kind.+first_unknown.Goals as goal

pub returns-in-Infix : goal.returns-in-Infix
returns-in-Infix t c =
    rw (c.in-Infix.is, joined_tree c.in-Infix.field-0 c.in-Infix.a c.in-Infix.b)
    (found_in (is_unknown c.args.columns.now) (columns_in (tree_of c.in-Infix.a)) (columns_in (tree_of c.in-Infix.b)) _ _ _
    (rw c.get.ensures at c.first_unknown.ensures) (rw c.get-in-Infix.ensures at c.first_unknown-in-Infix.ensures) c.first_of.ensures)

pub returns-in-Coalesce : goal.returns-in-Coalesce
returns-in-Coalesce t c =
    rw (c.in-Coalesce.is, coalesced_tree c.in-Coalesce.a c.in-Coalesce.b)
    (found_in (is_unknown c.args.columns.now) (columns_in (tree_of c.in-Coalesce.a)) (columns_in (tree_of c.in-Coalesce.b)) _ _ _
    (rw c.get-in-Coalesce.ensures at c.first_unknown-in-Coalesce.ensures) (rw c.get-in-Coalesce-2.ensures at c.first_unknown-in-Coalesce-2.ensures) c.first_of-in-Coalesce.ensures)

pub returns-in-If : goal.returns-in-If
returns-in-If t c =
    let unknown = is_unknown c.args.columns.now in
    let test = columns_in (tree_of c.in-If.c) in
    let first = columns_in (tree_of c.in-If.a) in
    rw (c.in-If.is, chosen_tree c.in-If.c c.in-If.a c.in-If.b)
    (found_in unknown (test ++ first) (columns_in (tree_of c.in-If.b)) _ _ _
    (found_in unknown test first _ _ _ (rw c.get-in-If.ensures at c.first_unknown-in-If.ensures) (rw c.get-in-If-2.ensures at c.first_unknown-in-If-2.ensures) c.first_of-first.ensures)
    (rw c.get-in-If-3.ensures at c.first_unknown-in-If-3.ensures) c.first_of-in-If.ensures)
