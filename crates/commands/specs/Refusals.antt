-- Refusals, which hold the flow by whose names their lines tell a node.
use Rattle.std.specs.Prelude.{◌≡◌, ℕ, List, [], Option, Some, None, Result, Ok, Err}
use Rattle.outside.specs.Words.{Files}
use Rattle.workflow_file.specs.declared.raw.RawFlow.{RawFlow}
use Rattle.flow_types.specs.Graph.{names_of}
use Rattle.commands.specs.declared.reason.Reason.{Reason}
use Rattle.commands.specs.declared.refusal.Refusal.{Refusal}
use Rattle.commands.specs.Texts.{refusal_line}
use Rattle.commands.specs.Verdict.{known_names}

-- the names of the nodes of a flow, if there is one
abbrev pub names_in : Option RawFlow → List (List ℕ)
names_in None = []
names_in (Some raw) = names_of raw

-- the line of a refusal: that of its reason, by the names of its flow
abbrev pub line_in : Refusal → List ℕ
line_in refusal = refusal_line (names_in refusal.flow) refusal.reason

-- the answer, with the reason of a refusal alone
abbrev pub in_reasons : {X : Type 0} → Result X Refusal → Result X Reason
in_reasons (Ok x) = Ok x
in_reasons (Err refusal) = Err refusal.reason

-- the line of a refusal is that by these names
abbrev pub HasLineBy : List (List ℕ) → Refusal → Type 0
HasLineBy names refusal = line_in refusal ≡ refusal_line names refusal.reason

-- the same by the names that are known over the files, where the depot tells its files
abbrev pub HasLineOver : Option Files → Refusal → Type 0
HasLineOver told refusal = (files : Files) → told ≡ Some files → HasLineBy (known_names files) refusal
