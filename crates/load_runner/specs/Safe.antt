-- What a crash leaves of a table while it is loaded, in rows.
use Rattle.std.specs.Prelude.{◌≡◌, ◌≤◌, ◌⊎◌, ℕ, List, [], Bool, true}
use Rattle.tuple_schema.specs.declared.value.Value.{Value}
use Rattle.tuple_schema.specs.declared.schema.Column.{Column}
use Rattle.outside.specs.Words.{Each, DiskState}
use Rattle.commit_disk.specs.Table.{Stored, IsNotMade}
use Rattle.commit_disk.specs.Crashes.{IsEmptyOrNotMade}
use Rattle.table_write.specs.Rows.{HoldsRows, HoldsFirst, HoldsEnded}
use Rattle.table_write.specs.Adds.{IsFront, StopsBetween}
use Rattle.load_runner.specs.Standing.{Begins, Stands, IsAll}

-- under this text the image holds rows that begin with these and stand for this meaning, ended or not
pub record IsSafe (text : List ℕ) (columns : List Column) (fixed : Bool) (whole acknowledged : List (List Value))
    (image : List ℕ) : Type 0 where
  pub rows : List (List Value)
  pub ended : Bool
  pub holds : HoldsRows image text columns rows ended
  pub begins : Begins acknowledged rows
  pub stands : Stands fixed whole rows ended

-- under this text the image is an ended table, whose rows are all of this meaning
pub record HoldsAll (text : List ℕ) (columns : List Column) (fixed : Bool) (whole : List (List Value))
    (image : List ℕ) : Type 0 where
  pub rows : List (List Value)
  pub holds : HoldsRows image text columns rows true
  pub all : IsAll fixed whole rows

-- from the one state to the other, rows that every image of a moment holds first, every image of each
-- later one holds first, and where every image of a moment is ended, so is every image of each later one
pub record TableGrows (text : List ℕ) (columns : List Column) (old new : DiskState) : Type 0 where
  pub keeps_rows : (earlier later : ℕ) → old.clock ≤ earlier → earlier ≤ later → later ≤ new.clock
      → (acknowledged : List (List Value)) → Each (new.left_at earlier) (HoldsFirst text columns acknowledged)
      → Each (new.left_at later) (HoldsFirst text columns acknowledged)
  pub keeps_end : (earlier later : ℕ) → old.clock ≤ earlier → earlier ≤ later → later ≤ new.clock
      → Each (new.left_at earlier) (HoldsEnded text columns) → Each (new.left_at later) (HoldsEnded text columns)

-- there was no table in the old file, and so no blocks, and in the image there is none yet
pub record IsNotYet (file : List ℕ) (olds : List Stored) (image : List ℕ) : Type 0 where
  pub was : IsNotMade file
  pub none : olds ≡ []
  pub is : IsNotMade image

-- the image holds the blocks of the old file and behind them the first of these; or there was no table, and there is
-- none yet
abbrev pub IsGrown : List ℕ → List ℕ → List Column → List Stored → List (List (List Value)) → List ℕ → Type 0
IsGrown file text columns olds blocks image = IsFront text columns olds blocks image ⊎ IsNotYet file olds image

-- it stopped while the table was being made, where there was none, or behind so many of these blocks
abbrev pub IsStopped : List ℕ → List ℕ → List Stored → List (List (List Value)) → (List ℕ → Type 0) → Type 0
IsStopped file text olds blocks images = (IsNotMade file × Each images (IsEmptyOrNotMade text))
    ⊎ StopsBetween text olds blocks images
