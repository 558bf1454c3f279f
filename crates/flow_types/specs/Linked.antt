-- What holds of the nodes of a typed flow: each is over its inputs, whose columns it takes.
use Rattle.std.specs.Prelude.{◌≡◌, ◌<◌, ◌≤◌, ◌==◌, ℕ, List, [], ◌∷◌, length, map, count_by, All, IsTrue, Some, Ok, true, false, ⊤}
use Rattle.tuple_schema.specs.declared.schema.Column.{Column}
use Rattle.tuple_schema.specs.Schemas.{IsSchema, are_distinct}
use Rattle.list_algebra.specs.Trees.{Tree, Trees, EachNode, roots_of, in_order}
use Rattle.workflow_file.specs.Kept.{KeepsSource, AllKeep}
use Rattle.workflow_file.specs.Texts.{make_lack}
use Rattle.expr_lang.specs.Trees.{tree_of as expression_tree}
use Rattle.expr_lang.specs.Kinds.{typing}
use Rattle.expr_lang.specs.declared.kind.ExprKind.TheVariants as sort
use Rattle.flow_types.specs.Built.{is_built_source}
use Rattle.flow_types.specs.Taken.{Takes}
use Rattle.flow_types.specs.Assigned.{IsAssigned}
use Rattle.flow_types.specs.Joined.{ArePairs, join_columns, lookup_columns}
use Rattle.flow_types.specs.United.{AllGoInto}
use Rattle.flow_types.specs.Grouped.{IsGrouped}
use Rattle.flow_types.specs.declared.node.Source.{Source}
use Rattle.flow_types.specs.declared.node.Kind.{Kind}
use Rattle.flow_types.specs.declared.node.Kind.TheVariants as kind
use Rattle.flow_types.specs.declared.node.Node.{Node}
use Rattle.flow_types.specs.NodeTexts.{NodeText, source, select, project, mapped, joined, looked_up, aggregated, sorted, distinct, united}
use Rattle.flow_types.specs.Flows.{TypedFlow, number_of, tree_of, columns_in, columns_of, ids_of}

-- a source that is built at this stage: a CSV file, its rows in the truth's order
pub record IsBuiltSource (s : Source) : Type 0 where
  pub csv : s.packed ≡ false
  pub seq : s.seq ≡ true

-- what a node says keeps the rules, and is built
abbrev pub KeepsText : NodeText → Type 0
KeepsText (source s) = KeepsSource s × IsTrue (is_built_source s)
KeepsText (select text) = ⊤
KeepsText (project texts) = (1 ≤ length texts) × (length texts ≤ 64)
KeepsText (mapped texts) = ⊤
KeepsText (joined texts) = ⊤
KeepsText (looked_up texts) = ⊤
KeepsText (aggregated by makes order) = AllKeep 1 64 make_lack makes
KeepsText (sorted names) = ⊤
KeepsText distinct = ⊤
KeepsText (united names) = 2 ≤ length names

-- a kind over inputs with these columns gives these columns
abbrev pub IsOver : Kind → List (List Column) → List Column → Type 0
IsOver (kind.Source s) inputs columns = (inputs ≡ []) × IsBuiltSource s
IsOver (kind.Select test) inputs columns =
    (inputs ≡ columns ∷ []) × (typing columns (expression_tree test) ≡ Ok sort.Truth)
IsOver (kind.Project from) inputs columns = (length inputs ≡ 1) × Takes (columns_in inputs 0) from columns
IsOver (kind.Map sets) inputs columns = (length inputs ≡ 1) × IsAssigned (columns_in inputs 0) sets columns
IsOver (kind.Join left right) inputs columns =
    (length inputs ≡ 2) × ArePairs (columns_in inputs 0) (columns_in inputs 1) left right
    × (columns ≡ join_columns (columns_in inputs 0) (columns_in inputs 1) right)
IsOver (kind.Lookup left right) inputs columns =
    (length inputs ≡ 2) × ArePairs (columns_in inputs 0) (columns_in inputs 1) left right
    × (columns ≡ lookup_columns (columns_in inputs 0) (columns_in inputs 1) right)
IsOver (kind.Aggregate by makes order) inputs columns =
    (length inputs ≡ 1) × IsGrouped (columns_in inputs 0) by makes columns
IsOver (kind.Sort by) inputs columns = (inputs ≡ columns ∷ []) × All (λ place. place < length columns) by
IsOver kind.Distinct inputs columns = inputs ≡ columns ∷ []
IsOver (kind.Union any) inputs columns = (any ≡ false) × (1 ≤ length inputs) × AllGoInto inputs columns

-- a node over these inputs, whose columns are a schema
pub record IsLinked (n : Node) (below : List Node) : Type 0 where
  pub inputs : n.inputs ≡ ids_of below
  pub over : IsOver n.kind (columns_of below) n.schema
  pub schema : IsSchema n.schema

-- a node over the trees of its inputs
abbrev pub IsLinkedOver : Node → Trees Node → Type 0
IsLinkedOver n trees = IsLinked n (roots_of trees)

-- no two of these nodes have one number
abbrev pub AreApart : List Node → Type 0
AreApart nodes = (number : ℕ) → count_by (λ n. number_of n == number) nodes ≤ 1

-- no two of these nodes have one name
abbrev pub HaveOwnNames : List Node → Type 0
HaveOwnNames nodes = IsTrue (are_distinct (map (λ n. n.name) nodes))

-- the nodes of a flow: those of one tree, inputs first, no two of one number or one name, each over its inputs
pub record IsFlow (flow : TypedFlow) : Type 0 where
  pub tree : Tree Node
  pub all : in_order tree ≡ flow.nodes
  pub made : tree_of flow.nodes ≡ Some tree
  pub linked : EachNode IsLinkedOver tree
  pub apart : AreApart flow.nodes
  pub named : HaveOwnNames flow.nodes
  pub few : length flow.nodes ≤ 80
