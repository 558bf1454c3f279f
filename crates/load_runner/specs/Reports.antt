-- What a load reports.
use Rattle.std.specs.Prelude.{ℕ, ◌-◌, min, ◌==◌, List, [], ◌∷◌, length, map, if◌then◌else◌}
use Rattle.std.specs.List.{filter}
use Rattle.list_algebra.specs.Bags.{Tuple}
use Rattle.list_algebra.specs.Trees.{Tree, in_order}
use Rattle.flow_types.specs.declared.fault.NodeId.{NodeId}
use Rattle.flow_types.specs.Flows.{TypedFlow}
use Rattle.kind_laws.specs.Runs.{Yield, at_root}
use Rattle.load_runner.specs.declared.report.EdgeCount.{EdgeCount}
use Rattle.load_runner.specs.declared.report.Report.{Report}
use Rattle.load_runner.specs.Trimmed.{is_root}

-- how many tuples were left on the edge above a node, and how many were left out
abbrev pub count_on : Yield → EdgeCount
count_on yield = record {
  edge = yield.node.id;
  passed = length yield.left;
  dropped = length yield.given - length yield.left;
}

-- the same of each edge at which rows are left out, which is the root's, where some were committed
abbrev pub counts_of : TypedFlow → List Tuple → Tree Yield → List EdgeCount
counts_of flow [] run = []
counts_of flow (first ∷ others) run = map count_on (filter (λ s. is_root flow.nodes s.node) (in_order run))

-- how many rows stood before, how many the run brought, and what its edges left out
abbrev pub report_of : TypedFlow → List Tuple → Tree Yield → Report
report_of flow committed run = record {
  committed_before = length committed;
  added = length (at_root run);
  edges = counts_of flow committed run;
}

-- an ended table has all its rows
abbrev pub ended_report : ℕ → Report
ended_report before = record { committed_before = before; added = 0; edges = [] }

-- the report by numbers alone: the root's, how many rows stood, and how many the meaning has

abbrev pub skip_counts : NodeId → ℕ → ℕ → List EdgeCount
skip_counts root before whole = if before == 0 then [] else record {
  edge = root;
  passed = whole - before;
  dropped = min before whole;
} ∷ []

abbrev pub skip_report : NodeId → ℕ → ℕ → Report
skip_report root before whole = record {
  committed_before = before;
  added = whole - before;
  edges = skip_counts root before whole;
}
