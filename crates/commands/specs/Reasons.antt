-- Why a command wasn't done, and the exit status that tells it.
use Rattle.std.specs.Prelude.{◌≡◌, ℕ, Bool, true, false, IsTrue, Result, Ok, Err, ⊤}
use Rattle.commands.specs.declared.reason.Reason.{Reason}
use Rattle.commands.specs.declared.reason.Reason.TheVariants as why
use Rattle.commands.specs.declared.reason.Step.{Step}
use Rattle.commands.specs.declared.reason.Step.TheVariants as step
use Rattle.commands.specs.declared.reason.Status.{Status}
use Rattle.commands.specs.declared.reason.Status.TheVariants as status

-- the one classification, in the order of refusals: a new reason is one line here
abbrev pub step_of : Reason → Step
step_of why.Usage = step.Words
step_of why.FlowMissing = step.Flow
step_of (why.FlowTooLong size) = step.Flow
step_of (why.Flow fault) = step.Flow
step_of (why.Schema fault) = step.Flow
step_of why.NotBuilt = step.Flow
step_of (why.Source fault) = step.Source
step_of (why.NotATable place) = step.Table
step_of why.NotMade = step.Table
step_of why.WorkflowDiffers = step.Table
step_of why.Full = step.Room
step_of why.Depot = step.Device
step_of why.Disk = step.Device
step_of why.Sink = step.Device
step_of why.Memory = step.Memory

abbrev pub status_at : Step → Status
status_at step.Words = status.Usage
status_at step.Flow = status.Schema
status_at step.Table = status.Table
status_at step.Source = status.Source
status_at step.Room = status.Table
status_at step.Device = status.Device
status_at step.Memory = status.Memory

abbrev pub status_of : Reason → Status
status_of reason = status_at (step_of reason)

abbrev pub exit_status_of : Status → ℕ
exit_status_of status.Done = 0
exit_status_of status.Usage = 2
exit_status_of status.Schema = 3
exit_status_of status.Source = 4
exit_status_of status.Device = 5
exit_status_of status.Memory = 6
exit_status_of status.Table = 7

-- the flow is refused
abbrev pub is_of_flow : Step → Bool
is_of_flow step.Flow = true
is_of_flow _ = false

abbrev pub RefusesFlow : Reason → Type 0
RefusesFlow reason = IsTrue (is_of_flow (step_of reason))

-- what is answered of the flow is what there is to be answered, but for the depot's fault or want of memory
abbrev pub Tells : {X : Type 0} → Result X Reason → Result X Reason → Type 0
Tells (Ok x) verdict = verdict ≡ Ok x
Tells (Err reason) verdict = RefusesFlow reason → verdict ≡ Err reason

-- the same, of a value that is seen by view
abbrev pub TellsView : {X Y : Type 0} → (X → Y) → Result X Reason → Result Y Reason → Type 0
TellsView view (Ok x) verdict = verdict ≡ Ok (view x)
TellsView view (Err reason) verdict = RefusesFlow reason → verdict ≡ Err reason

-- a reason for which the flow is refused, or want of memory, or the depot, which failed
abbrev pub IsAsked : {X : Type 0} → Type 0 → Result X Reason → Type 0
IsAsked depot (Ok x) = ⊤
IsAsked depot (Err why.Usage) = ⊥
IsAsked depot (Err why.FlowMissing) = ⊤
IsAsked depot (Err (why.FlowTooLong size)) = ⊤
IsAsked depot (Err (why.Flow fault)) = ⊤
IsAsked depot (Err (why.Schema fault)) = ⊤
IsAsked depot (Err why.NotBuilt) = ⊤
IsAsked depot (Err (why.Source fault)) = ⊥
IsAsked depot (Err (why.NotATable place)) = ⊥
IsAsked depot (Err why.NotMade) = ⊥
IsAsked depot (Err why.WorkflowDiffers) = ⊥
IsAsked depot (Err why.Full) = ⊥
IsAsked depot (Err why.Depot) = depot
IsAsked depot (Err why.Disk) = ⊥
IsAsked depot (Err why.Sink) = ⊥
IsAsked depot (Err why.Memory) = ⊤
