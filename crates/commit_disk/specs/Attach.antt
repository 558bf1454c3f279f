-- What the bytes of a file tell: no table yet, a table, or the first place that is wrong.
use Rattle.std.specs.Prelude.{◌≡◌, ◌≢◌, ◌⊎◌, ◌≤◌, ◌<◌, ◌+◌, ◌^◌, ℕ, List, [], ◌∷◌, ◌++◌, length, take, drop, slice_index, codes, true, All, Result, Ok, Err}
use Rattle.std.specs.List.{sum_by}
use Rattle.std.specs.Int.{w32, to_be_bytes}
use Rattle.tuple_schema.specs.declared.memory.Stop.{Stop}
use Rattle.tuple_schema.specs.declared.memory.Stop.TheVariants.{Memory, Fault}
use Rattle.commit_disk.specs.declared.attaching.TableFault.{TableFault}
use Rattle.commit_disk.specs.declared.attaching.TableFault.TheVariants.{Disk, NotATable, WorkflowDiffers}
use Rattle.commit_disk.specs.declared.attaching.Attached.{Attached}
use Rattle.commit_disk.specs.declared.attaching.Attached.TheVariants.{NotMade, Made}
use Rattle.commit_disk.specs.Table.{Stored, TableBlock, IsTableBlock, AreInPlace, HoldsBlocksUpTo, IsNotMade, front, row_blocks, has_end}
use Rattle.commit_disk.specs.Journal.{JournalState}

-- up to this place the image is spelled as a table of this text and these blocks, and a gate stands there
pub record LeadsTo (place : ℕ) (image text : List ℕ) (blocks : List TableBlock) : Type 0 where
  pub spelled : take place image ≡ front text blocks
  pub gate : place < length image
  pub short : length text ≤ 65536
  pub stored : All IsTableBlock blocks
  pub placed : AreInPlace blocks
  pub room : place < 2 ^ 48

-- the image is long enough for a table, and its made gate is open
pub record IsMade (image : List ℕ) : Type 0 where
  pub long : 17 ≤ length image
  pub gate : slice_index image 0 ≡ 1

-- behind the made gate stands the name
abbrev pub HasName : List ℕ → Type 0
HasName image = take 7 (drop 1 image) ≡ codes "WHTABLE"

-- behind the name stands the version
abbrev pub HasVersion : List ℕ → Type 0
HasVersion image = take 4 (drop 8 image) ≡ to_be_bytes w32 1

-- a whole flow text stands in the head, and a gate behind it
abbrev pub HasText : List ℕ → Type 0
HasText image = (text : List ℕ) × LeadsTo (16 + length text) image text []

-- the head of a made image is wrong, and this is where: the name is, or the version, or the text or its length
pub record IsWrongHead (place : ℕ) (image : List ℕ) : Type 0 where
  pub made : IsMade image
  pub first :
      ((place ≡ 1) × (HasName image → ⊥))
      ⊎ ((place ≡ 8) × HasName image × (HasVersion image → ⊥))
      ⊎ ((place ≡ 12) × HasName image × HasVersion image × (HasText image → ⊥))

-- a table of this text and these blocks leads to an open gate at this place, and from there no block leads on to a next
-- gate
pub record IsStuck (place : ℕ) (image text : List ℕ) (blocks : List TableBlock) : Type 0 where
  pub leads : LeadsTo place image text blocks
  pub open_gate : slice_index image place ≡ 1
  pub no_block : (block : TableBlock) (next : ℕ) → LeadsTo next image text (blocks ++ block ∷ []) → ⊥

-- the image is made and no table, and this is the first wrong place: in the head, or the gate of a block
abbrev pub IsWrongAt : ℕ → List ℕ → Type 0
IsWrongAt place image =
    IsWrongHead place image ⊎ ((text : List ℕ) × (blocks : List TableBlock) × IsStuck place image text blocks)

-- the image is a table of this text, up to this place
abbrev pub IsTable : ℕ → List ℕ → List ℕ → Type 0
IsTable place image text = (blocks : List TableBlock) × HoldsBlocksUpTo place image text blocks

-- how many rows these blocks have
abbrev pub rows_in : List Stored → ℕ
rows_in blocks = sum_by (λ block. block.count) blocks

-- the journal tells of the table of this text that the image is
pub record TellsOf (journal : JournalState) (image text : List ℕ) : Type 0 where
  pub blocks : List TableBlock
  pub holds : HoldsBlocksUpTo journal.gate image text blocks
  pub first : journal.first ≡ 16 + length text
  pub counts : journal.count ≡ rows_in (row_blocks blocks)
  pub ended : journal.ended ≡ has_end blocks
  pub sound : journal.sound ≡ true

-- what is found in the image: no table yet, or a table of this text, of which the journal tells
abbrev pub FindTells : Attached → List ℕ → List ℕ → Type 0
FindTells NotMade image text = IsNotMade image
FindTells (Made journal) image text = TellsOf journal image text

-- what a fault says of the image: that it breaks the rules at this place first, or that it is a table of another text
abbrev pub FaultTells : TableFault → List ℕ → List ℕ → Type 0
FaultTells Disk image text = Unit {0}
FaultTells (NotATable place) image text = IsWrongAt place image
FaultTells WorkflowDiffers image text = (stored : List ℕ) × (stored ≢ text) × ((place : ℕ) × IsTable place image stored)

abbrev pub StopTells : Stop TableFault → List ℕ → List ℕ → Type 0
StopTells Memory image text = Unit {0}
StopTells (Fault fault) image text = FaultTells fault image text

-- what an answer of attaching says of the image
abbrev pub AttachTells : Result Attached (Stop TableFault) → List ℕ → List ℕ → Type 0
AttachTells (Ok found) image text = FindTells found image text
AttachTells (Err stop) image text = StopTells stop image text

-- the journal's gate is within a file of this length
abbrev pub IsWithin : Attached → ℕ → Type 0
IsWithin NotMade len = Unit {0}
IsWithin (Made journal) len = journal.gate < len

-- the journal is sound
abbrev pub IsSound : Attached → Type 0
IsSound NotMade = Unit {0}
IsSound (Made journal) = journal.sound ≡ true

-- an answer that speaks of the bytes, and not of want of memory or of a call that failed
abbrev pub IsVerdict : Result Attached (Stop TableFault) → Type 0
IsVerdict (Ok found) = Unit {0}
IsVerdict (Err Memory) = ⊥
IsVerdict (Err (Fault Disk)) = ⊥
IsVerdict (Err (Fault (NotATable place))) = Unit {0}
IsVerdict (Err (Fault WorkflowDiffers)) = Unit {0}

-- of an image and a text there is one verdict
abbrev pub VerdictsAgree : Type 0
VerdictsAgree =
    (image text : List ℕ) (answer other : Result Attached (Stop TableFault)) → IsVerdict answer → IsVerdict other
    → AttachTells answer image text → AttachTells other image text
    → answer ≡ other
