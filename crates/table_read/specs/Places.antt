-- What verifying answers.
use Rattle.std.specs.Prelude.{◌≡◌, ℕ, Result, Ok, Err, Option, Some, None, ⊤}
use Rattle.tuple_schema.specs.declared.memory.Stop.{Stop}
use Rattle.tuple_schema.specs.declared.memory.Stop.TheVariants.{Memory, Fault}
use Rattle.commit_disk.specs.declared.attaching.TableFault.{TableFault}
use Rattle.commit_disk.specs.declared.attaching.TableFault.TheVariants.{Disk, NotATable, WorkflowDiffers}
use Rattle.outside.specs.Counts.{Rose}

-- the first wrong place, where there is one
abbrev pub wrong_place : {X : Type 0} → Result X ℕ → Option ℕ
wrong_place (Ok rows) = None
wrong_place (Err place) = Some place

-- the answer is Ok where no place is wrong, and names the wrong place where there is one,
-- unless memory was wanting or the disk failed
abbrev pub Verifies : {X : Type 0} → Result X (Stop TableFault) → Option ℕ → Type 0
Verifies (Ok done) wrong = wrong ≡ None
Verifies (Err Memory) wrong = ⊤
Verifies (Err (Fault Disk)) wrong = ⊤
Verifies (Err (Fault (NotATable place))) wrong = wrong ≡ Some place
Verifies (Err (Fault WorkflowDiffers)) wrong = ⊥

-- a fault of the disk, whose count of faults rose, or a wrong place; and no other
abbrev pub IsCaused : ℕ → ℕ → TableFault → Type 0
IsCaused before now Disk = Rose before now
IsCaused before now (NotATable place) = ⊤
IsCaused before now WorkflowDiffers = ⊥

-- the disk failed, and its count of faults rose
abbrev pub IsDisk : ℕ → ℕ → TableFault → Type 0
IsDisk before now Disk = Rose before now
IsDisk before now (NotATable place) = ⊥
IsDisk before now WorkflowDiffers = ⊥

-- the disk didn't fail
abbrev pub NoDisk : TableFault → Type 0
NoDisk Disk = ⊥
NoDisk (NotATable place) = ⊤
NoDisk WorkflowDiffers = ⊥

-- memory was wanting, or the disk failed
abbrev pub StopsOutside : Stop TableFault → Type 0
StopsOutside Memory = ⊤
StopsOutside (Fault Disk) = ⊤
StopsOutside (Fault (NotATable place)) = ⊥
StopsOutside (Fault WorkflowDiffers) = ⊥
