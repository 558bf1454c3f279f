-- The commands, as the words name them, and what each has to do.
use Rattle.std.specs.Prelude.{ℕ, ◌≤◌, List, if◌then◌else◌, Option, Some, None, ⊤}
use Rattle.flow_types.specs.Flows.{TypedFlow}
use Rattle.load_runner.specs.Jobs as jobs
use Rattle.commands.specs.Arguments.{batch_in, is_dump}

-- a command: a load, in blocks of so many rows, or a dump
pub data Asked : Type 0 where
  load : ℕ → Asked
  dump : Asked

-- its numbers are within their bounds
abbrev pub IsWithin : Asked → Type 0
IsWithin (load batch) = (1 ≤ batch) × (batch ≤ 4096)
IsWithin dump = ⊤

-- the flow of a folder: its text, and the typed flow that it declares
pub record FlowText : Type 0 where
  pub text : List ℕ
  pub flow : TypedFlow

-- what there is to be done: the load of a job, or the dump of a flow's table
pub data Job : Type 0 where
  loads : jobs.Job → Job
  dumps : FlowText → Job

abbrev pub load_of : Option ℕ → Option Asked
load_of None = None
load_of (Some batch) = Some (load batch)

-- the command that the words are, if they are one
abbrev pub asked_in : List (List ℕ) → Option Asked
asked_in words = if is_dump words then Some dump else load_of (batch_in words)

-- what the command has to do with this flow
abbrev pub job_for : Asked → FlowText → Job
job_for (load batch) found = loads (record { flow = found.flow; text = found.text; batch = batch })
job_for dump found = dumps found
