-- Runs in which the edges leave out what the committed rows make needless.
use Rattle.std.specs.Prelude.{◌≡◌, ℕ, ◌==◌, List, length, drop, Bool, false, Option, Some, None, Ok, if◌then◌else◌}
use Rattle.list_algebra.specs.Bags.{Tuple}
use Rattle.list_algebra.specs.Trees.{Tree}
use Rattle.outside.specs.Depot.{Files}
use Rattle.flow_types.specs.declared.node.Node.{Node}
use Rattle.flow_types.specs.Flows.{TypedFlow, number_of, root_in, tree_of}
use Rattle.kind_laws.specs.Wholes.{Lists, by_number}
use Rattle.kind_laws.specs.Promises.{IsListing}
use Rattle.kind_laws.specs.Runs.{Yield, IsRun, at_root}
use Rattle.load_runner.specs.Sources.{contents_in}

-- what is left of a list whose first rows are committed, as many as these
abbrev pub kept_by_skip : ℕ → List Tuple → List Tuple
kept_by_skip count rows = drop count rows

-- the node is this one, if there is one
abbrev pub is_node : Option Node → Node → Bool
is_node None n = false
is_node (Some root) n = number_of n == number_of root

-- the node is the root
abbrev pub is_root : List Node → Node → Bool
is_root nodes n = is_node (root_in nodes) n

-- what the edge above a node keeps of its list, where these rows are committed: the root's edge skips as many, and
-- any other edge keeps all
abbrev pub kept_on : TypedFlow → List Tuple → Node → List Tuple → Option (List Tuple)
kept_on flow committed n rows =
    if is_root flow.nodes n then Some (kept_by_skip (length committed) rows) else Some rows

-- a run in which each edge leaves just what it keeps
abbrev pub IsTrimmedRun : TypedFlow → List Tuple → Lists → Tree Node → Tree Yield → Type 0
IsTrimmedRun flow committed listing t run = IsRun (λ n given left. kept_on flow committed n given ≡ Some left) listing t
    run

-- the rest is what such a run brings over some listing of the truth
pub record IsRest (flow : TypedFlow) (truth : Lists) (committed rest : List Tuple) : Type 0 where
  pub tree : Tree Node
  pub made : tree_of flow.nodes ≡ Some tree
  pub listing : Lists
  pub listed : IsListing flow.nodes truth listing
  pub run : Tree Yield
  pub trimmed : IsTrimmedRun flow committed listing tree run
  pub brings : rest ≡ at_root run

-- a trimmed run of the flow over the contents of the files, where these are told
pub record Resumes (flow : TypedFlow) (told : Option Files) (committed : List Tuple) (run : Tree Yield) : Type 0 where
  pub contents : List (List Tuple)
  pub are : (files : Files) → told ≡ Some files → contents_in flow.nodes files ≡ Ok contents
  pub tree : Tree Node
  pub made : tree_of flow.nodes ≡ Some tree
  pub trimmed : IsTrimmedRun flow committed (by_number contents) tree run
