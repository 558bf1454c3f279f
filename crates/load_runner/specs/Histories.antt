-- Histories of loads, as lists: what stands after each of any number of loads, stopped or not.
use Rattle.std.specs.Prelude.{◌≡◌, ◌≤◌, ◌⊎◌, ℕ, List, [], ◌∷◌, ◌++◌, length, take, Bool, false, IsTrue, ⊤}
use Rattle.list_algebra.specs.Bags.{Tuple}
use Rattle.flow_types.specs.Flows.{TypedFlow}
use Rattle.kind_laws.specs.Wholes.{Lists}
use Rattle.table_write.specs.Cut.{IsCut, together}
use Rattle.load_runner.specs.Trimmed.{IsRest}
use Rattle.load_runner.specs.Standing.{Begins, Stands}

-- what stands in a table: its rows, and whether it is ended
pub record Standing : Type 0 where
  pub rows : List Tuple
  pub ended : Bool

-- an empty table
abbrev pub nothing : Standing
nothing = record { rows = []; ended = false }

-- a load over a table that isn't ended adds the first blocks of a cut of some rest, and ends it only behind all of them
pub record Adds (flow : TypedFlow) (truth : Lists) (before after : Standing) : Type 0 where
  pub unended : before.ended ≡ false
  pub batch : ℕ
  pub some : 1 ≤ batch
  pub few : batch ≤ 4096
  pub rest : List Tuple
  pub trimmed : IsRest flow truth before.rows rest
  pub blocks : List (List Tuple)
  pub cut : IsCut batch rest blocks
  pub count : ℕ
  pub within : count ≤ length blocks
  pub rows : after.rows ≡ before.rows ++ together (take count blocks)
  pub ended : IsTrue after.ended → count ≡ length blocks

-- one load: nothing changes, or blocks are added
abbrev pub IsStep : TypedFlow → Lists → Standing → Standing → Type 0
IsStep flow truth before after = (after ≡ before) ⊎ Adds flow truth before after

-- each stands one load after the one before it
abbrev pub IsHistoryFrom : TypedFlow → Lists → Standing → List Standing → Type 0
IsHistoryFrom flow truth before [] = ⊤
IsHistoryFrom flow truth before (after ∷ others) = IsStep flow truth before after
    × IsHistoryFrom flow truth after others

-- a history begins with an empty table
abbrev pub IsHistory : TypedFlow → Lists → List Standing → Type 0
IsHistory flow truth standings = IsHistoryFrom flow truth nothing standings

-- each stands for the meaning, begins with the rows of the one before it, and has all rows where it is ended
abbrev pub AllStandFrom : Bool → List Tuple → Standing → List Standing → Type 0
AllStandFrom fixed whole before [] = ⊤
AllStandFrom fixed whole before (after ∷ others) = Stands fixed whole after.rows after.ended
    × Begins before.rows after.rows × AllStandFrom fixed whole after others
