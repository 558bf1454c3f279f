-- How a run ends: its status, and what stands in the notes.
use Rattle.std.specs.Prelude.{◌≡◌, ◌⊎◌, ℕ, List, Option, Some, None, Result, Ok, Err, ⊤}
use Rattle.outside.specs.Words.{Rose, Files, SinkState, Gains, GainsFront}
use Rattle.commands.specs.declared.reason.Reason.{Reason}
use Rattle.commands.specs.declared.reason.Status.{Status}
use Rattle.commands.specs.declared.reason.Status.TheVariants as status
use Rattle.commands.specs.Reasons.{status_of}
use Rattle.commands.specs.Texts.{refusal_line}
use Rattle.commands.specs.Verdict.{known_names}

-- the status of an ending with this reason, or with none
abbrev pub ending_status : Option Reason → Status
ending_status None = status.Done
ending_status (Some reason) = status_of reason

-- why it isn't done, where it isn't
abbrev pub answer_of : {X : Type 0} → Result X Reason → Option Reason
answer_of (Ok x) = None
answer_of (Err reason) = Some reason

-- the notes gained this line, or a front of it where they failed
abbrev pub GainsLine : List ℕ → SinkState → SinkState → Type 0
GainsLine line notes now = Gains line notes now ⊎ (GainsFront line notes now × Rose notes.faults now.faults)

-- these are the names that are known over the files, where the depot tells its files
abbrev pub AreKnown : Option Files → List (List ℕ) → Type 0
AreKnown None names = ⊤
AreKnown (Some files) names = names ≡ known_names files

-- the notes gained the line of the reason, by the names that are known
pub record IsNoted (told : Option Files) (reason : Reason) (notes now : SinkState) : Type 0 where
  pub names : List (List ℕ)
  pub known : AreKnown told names
  pub gains : GainsLine (refusal_line names reason) notes now

-- what stands in the notes: the line of the reason, and nothing where there is no reason
abbrev pub Notes : Option Files → Option Reason → SinkState → SinkState → Type 0
Notes told None notes now = now ≡ notes
Notes told (Some reason) notes now = IsNoted told reason notes now
