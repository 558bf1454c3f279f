-- Runs of a flow over lists of its sources, in which something may be left out on the edges.
-- An edge is named by the node below it.
use Rattle.std.specs.Prelude.{◌≡◌, List, map}
use Rattle.tuple_schema.specs.declared.schema.Column.{Column}
use Rattle.list_algebra.specs.Bags.{Tuple}
use Rattle.list_algebra.specs.Trees.{Tree, Trees, EachNode, root_of, roots_of, seen_tree}
use Rattle.flow_types.specs.declared.node.Node.{Node}
use Rattle.flow_types.specs.Flows.{columns_of}
use Rattle.kind_laws.specs.Outputs.{output_of}
use Rattle.kind_laws.specs.Wholes.{Lists, taken}

-- what a node yields in a run: the list that it gives, and what is left of it on the edge above
pub record Yield : Type 0 where
  pub node : Node
  pub given : List Tuple
  pub left : List Tuple

-- what the edges above these nodes bring
abbrev pub brought : Trees Yield → List (List Tuple)
brought below = map (λ s. s.left) (roots_of below)

-- the columns of what they bring
abbrev pub columns_below : Trees Yield → List (List Column)
columns_below below = columns_of (map (λ s. s.node) (roots_of below))

-- the node gives what its kind makes of what is brought to it, a source of its own list; and so much may be left of it
pub record Yields (MayLeave : Node → List Tuple → List Tuple → Type 0) (listing : Lists) (yield : Yield)
    (below : Trees Yield) : Type 0 where
  pub gives : yield.given ≡ output_of yield.node.kind (columns_below below) (taken (listing yield.node) (brought below))
  pub leaves : MayLeave yield.node yield.given yield.left

-- a run: the tree of the flow, with what each node gives and what is left of it
pub record IsRun (MayLeave : Node → List Tuple → List Tuple → Type 0) (listing : Lists) (t : Tree Node)
    (run : Tree Yield) : Type 0 where
  pub of_tree : seen_tree (λ s. s.node) run ≡ t
  pub each : EachNode (Yields MayLeave listing) run

-- what the run brings to the table: what is left of the root's list
abbrev pub at_root : Tree Yield → List Tuple
at_root run = (root_of run).left
