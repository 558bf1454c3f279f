-- What a run of the program promises.
use Rattle.std.specs.Prelude.{◌≡◌, ◌⊎◌, ◌≤◌, ◌+◌, ℕ, List, Option, Some, None, Result, Ok, Err, codes, ⊤}
use Rattle.outside.specs.Words.{Rose, Elapses, Files, file_at, DepotState, Consults, SinkState, Gains, GainsFront}
use Rattle.outside.specs.Whole.{size_of}
use Rattle.flow_types.specs.declared.node.Node.{Node}
use Rattle.load_runner.specs.Jobs as jobs
use Rattle.load_runner.specs.Loads.{Loads}
use Rattle.commands.specs.declared.reason.Reason.{Reason}
use Rattle.commands.specs.declared.reason.Reason.TheVariants as why
use Rattle.commands.specs.Reasons.{RefusesFlow}
use Rattle.commands.specs.Stops.{reason_of_stop}
use Rattle.commands.specs.Texts.{report_text, IsMade}
use Rattle.commands.specs.Commands.{Asked, load, dump, Job, loads, dumps, asked_in}
use Rattle.commands.specs.Devices.{Devices, Untouched}
use Rattle.commands.specs.Dumps.{Dumps}
use Rattle.commands.specs.Verdict.{asked_over}

-- How each command is done.

-- how a load that answered so is told: its report stands in the output, unless that failed or its text found no memory
abbrev pub Tells : List Node → jobs.Answer → SinkState → SinkState → Option Reason → Type 0
Tells nodes (Ok report) out now answer =
    ((answer ≡ None) × Gains (report_text nodes report) out now)
    ⊎ ((answer ≡ Some why.Sink) × GainsFront (report_text nodes report) out now × Rose out.faults now.faults)
    ⊎ ((answer ≡ Some why.Memory) × (now ≡ out))
Tells nodes (Err stop) out now answer = (answer ≡ Some (reason_of_stop stop)) × (now ≡ out)

-- a load was made, and what it answered is told
pub record LoadsAndTells (job : jobs.Job) (old new : Devices) (answer : Option Reason) : Type 0 where
  pub ended : jobs.Answer
  pub loads : Loads job old.depot new.depot old.disk new.disk ended
  pub tells : Tells job.flow.nodes ended old.out new.out answer
  pub output : old.out.faults ≤ new.out.faults

-- what the program does of a job: a line for each command
abbrev pub Does : Job → Devices → Devices → Option Reason → Type 0
Does (loads job) old new answer = LoadsAndTells job old new answer
Does (dumps job) old new answer = Dumps job old new answer

-- What comes before.

-- what there is to be done is what the command asks for over the files, or else the flow is refused
abbrev pub Fits : Asked → Result Job Reason → Type 0
Fits (load batch) (Ok (loads job)) = job.batch ≡ batch
Fits (load batch) (Ok (dumps job)) = ⊥
Fits dump (Ok (loads job)) = ⊥
Fits dump (Ok (dumps job)) = ⊤
Fits command (Err reason) = RefusesFlow reason

pub record IsAsked (command : Asked) (depot : DepotState) (asked : Result Job Reason) : Type 0 where
  pub is : (files : Files) → depot.files ≡ Some files → asked ≡ asked_over command files
  pub fits : Fits command asked

-- what is done where there is this to be done: the job, or nothing, where the flow is refused
abbrev pub Answers : Result Job Reason → Devices → Devices → Option Reason → Type 0
Answers (Ok job) old new answer = Does job old new answer
Answers (Err refusal) old new answer = (answer ≡ Some refusal) × Untouched old new

-- the flow was read, of which no more than its bytes were served, and then what there was to be done was done
pub record Runs (command : Asked) (old new : Devices) (answer : Option Reason) : Type 0 where
  -- the depot once the flow was read
  pub found : DepotState
  pub consults : Consults old.depot found
  pub served : (files : Files) → old.depot.files ≡ Some files
      → found.served ≤ old.depot.served + size_of (file_at files (codes "flow.toml"))
  pub asked : Result Job Reason
  pub is_asked : IsAsked command old.depot asked
  pub does : Answers asked (record old { depot = found }) new answer

-- the flow wasn't read, since no memory was found or the depot failed, and nothing was touched
pub record NotBegun (old new : Devices) (answer : Option Reason) : Type 0 where
  pub consults : Consults old.depot new.depot
  pub served : (files : Files) → old.depot.files ≡ Some files
      → new.depot.served ≤ old.depot.served + size_of (file_at files (codes "flow.toml"))
  pub untouched : Untouched (record old { depot = new.depot }) new
  pub outside : (answer ≡ Some why.Memory) ⊎ ((answer ≡ Some why.Depot) × Rose old.depot.faults new.depot.faults)

-- what a command promises
abbrev pub Begins : Asked → Devices → Devices → Option Reason → Type 0
Begins command old new answer = Runs command old new answer ⊎ NotBegun old new answer

-- what is promised where the words are a command, or none
abbrev pub Promised : Option Asked → Devices → Devices → Option Reason → Type 0
Promised None old new answer = (answer ≡ Some why.Usage) × Untouched old new
Promised (Some command) old new answer = Begins command old new answer

-- the answer is this, or want of memory where the line of its reason has to be made
abbrev pub IsTold : Option Reason → Option Reason → Type 0
IsTold None answer = answer ≡ None
IsTold (Some reason) answer = (answer ≡ Some reason) ⊎ (IsMade reason × (answer ≡ Some why.Memory))

-- the promise of a run: what the words promise, and its answer, for which a line may have to be made
pub record Ends (words : List (List ℕ)) (old new : Devices) (answer : Option Reason) : Type 0 where
  pub ended : Option Reason
  pub promised : Promised (asked_in words) old new ended
  pub told : IsTold ended answer

-- what stays true for the next run: the files are told as before, earlier moments stay, and no count falls
pub record KeepsOn (old new : Devices) : Type 0 where
  pub files : Consults old.depot new.depot
  pub time : Elapses old.disk new.disk
  pub output : old.out.faults ≤ new.out.faults
