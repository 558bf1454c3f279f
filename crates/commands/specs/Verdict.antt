-- What a command has to do over the files of a folder, or why its flow is refused.
use Rattle.std.specs.Prelude.{◌≡◌, ℕ, List, [], Some, Result, Ok, Err, if◌then◌else◌, codes}
use Rattle.outside.specs.Depot.{Files, file_at}
use Rattle.outside.specs.Whole.{Found, missing, too_large, bytes, found_in}
use Rattle.tuple_schema.specs.Stops.{◌>>=◌}
use Rattle.workflow_file.specs.declared.raw.RawFlow.{RawFlow}
use Rattle.workflow_file.specs.declared.fault.FlowFault.{FlowFault}
use Rattle.workflow_file.specs.Flows as flows
use Rattle.flow_types.specs.declared.fault.SchemaFault.{SchemaFault}
use Rattle.flow_types.specs.Flows.{TypedFlow}
use Rattle.flow_types.specs.Graph.{names_of}
use Rattle.flow_types.specs.Built.{is_built}
use Rattle.flow_types.specs.Typed.{typed}
use Rattle.commands.specs.Commands.{Asked, FlowText, Job, asked_in, job_for}
use Rattle.commands.specs.declared.reason.Reason.{Reason}
use Rattle.commands.specs.declared.reason.Reason.TheVariants as why

-- the flow's text, of what is found of `flow.toml`
abbrev pub text_in : Found → Result (List ℕ) Reason
text_in missing = Err why.FlowMissing
text_in (too_large size) = Err (why.FlowTooLong size)
text_in (bytes text) = Ok text

-- the raw flow, or its first fault
abbrev pub parsed_in : Result RawFlow FlowFault → Result RawFlow Reason
parsed_in (Ok raw) = Ok raw
parsed_in (Err fault) = Err (why.Flow fault)

-- the flow is one that is built
abbrev pub built_in : RawFlow → Result (Unit {0}) Reason
built_in raw = if is_built raw then Ok tt else Err why.NotBuilt

-- the typed flow, or the first fault of the raw one
abbrev pub typed_in : Result TypedFlow SchemaFault → Result TypedFlow Reason
typed_in (Ok flow) = Ok flow
typed_in (Err fault) = Err (why.Schema fault)

-- the raw flow that the text is, or its first fault
abbrev pub raw_in : List ℕ → Result RawFlow Reason
raw_in text = parsed_in (flows.flow text)

-- the typed flow that a raw one is
abbrev pub typed_of : RawFlow → Result TypedFlow Reason
typed_of raw = do
  built ← built_in raw
  typed_in (typed raw)

-- the typed flow that the text is
abbrev pub flow_in : List ℕ → Result TypedFlow Reason
flow_in text = do
  raw ← raw_in text
  typed_of raw

-- the flow that the text is, or its first fault
unfoldable pub flow_of_text : List ℕ → Result FlowText Reason
flow_of_text text = do
  flow ← flow_in text
  Ok (record { text = text; flow = flow })

-- the flow of these files, or why there is none
unfoldable pub flow_of_files : Files → Result FlowText Reason
flow_of_files files = do
  text ← text_in (found_in 65536 (file_at files (codes "flow.toml")))
  flow_of_text text

-- the raw flow of these files, or why there is none
unfoldable pub raw_of_files : Files → Result RawFlow Reason
raw_of_files files = do
  text ← text_in (found_in 65536 (file_at files (codes "flow.toml")))
  raw_in text

-- the names of the nodes of a raw flow, and none where there is no raw flow
abbrev pub declared_names : Result RawFlow Reason → List (List ℕ)
declared_names (Ok raw) = names_of raw
declared_names (Err reason) = []

-- the names that are known over these files: those of the nodes of the flow that `flow.toml` declares
abbrev pub known_names : Files → List (List ℕ)
known_names files = declared_names (raw_of_files files)

-- what a command has to do over these files, or why the flow is refused
unfoldable pub asked_over : Asked → Files → Result Job Reason
asked_over command files = do
  found ← flow_of_files files
  Ok (job_for command found)

-- the words ask for this over these files
pub record AsksFor (words : List (List ℕ)) (files : Files) (job : Job) : Type 0 where
  pub command : Asked
  pub is : asked_in words ≡ Some command
  pub asks : asked_over command files ≡ Ok job
