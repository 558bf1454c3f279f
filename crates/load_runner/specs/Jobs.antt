-- What is to be loaded, and what a load answers.
use Rattle.std.specs.Prelude.{◌≡◌, ℕ, List, drop, Some, Option, Result, Ok}
use Rattle.outside.specs.Words.{Files}
use Rattle.tuple_schema.specs.declared.schema.Column.{Column}
use Rattle.tuple_schema.specs.declared.memory.Stop.{Stop}
use Rattle.list_algebra.specs.Bags.{Tuple}
use Rattle.list_algebra.specs.Trees.{Tree}
use Rattle.flow_types.specs.Flows.{TypedFlow}
use Rattle.kind_laws.specs.Wholes.{by_number, whole_of}
use Rattle.kind_laws.specs.Runs.{Yield, at_root}
use Rattle.table_write.specs.Cut.{cut}
use Rattle.load_runner.specs.declared.fault.LoadFault.{LoadFault}
use Rattle.load_runner.specs.declared.report.Report.{Report}
use Rattle.load_runner.specs.Sources.{contents_in, root_columns}

-- the flow, its text, and how many rows a block may have
pub record Job : Type 0 where
  pub flow : TypedFlow
  pub text : List ℕ
  pub batch : ℕ

-- a report, or why the load stopped
abbrev pub Answer : Type 0
Answer = Result Report (Stop LoadFault)

-- the columns of the rows that the table takes
abbrev pub columns_of : Job → List Column
columns_of job = root_columns job.flow.nodes

-- the blocks in which a run is added to the table
abbrev pub run_blocks : Job → Tree Yield → List (List Tuple)
run_blocks job run = cut job.batch (at_root run)

-- The same by the whole list of the root.

-- where the files are told, the flow makes these rows of their contents
pub record IsMade (flow : TypedFlow) (told : Option Files) (whole : List Tuple) : Type 0 where
  pub contents : List (List Tuple)
  pub are : (files : Files) → told ≡ Some files → contents_in flow.nodes files ≡ Ok contents
  pub makes : whole_of flow.nodes (by_number contents) ≡ Some whole

-- the blocks of the rows behind as many as are committed
abbrev pub missing_blocks : ℕ → ℕ → List Tuple → List (List Tuple)
missing_blocks batch committed whole = cut batch (drop committed whole)
