-- The devices of a command.
use Rattle.std.specs.Prelude.{◌≡◌}
use Rattle.outside.specs.Words.{DiskState, OnlyReads, DepotState, SinkState}

-- the devices that a command works with, at one moment
pub record Devices : Type 1 where
  pub depot : DepotState
  pub disk : DiskState
  pub out : SinkState

abbrev pub devices : DepotState → DiskState → SinkState → Devices
devices depot disk out = record { depot = depot; disk = disk; out = out }

-- the depot, the table and the output are as they were
pub record Untouched (old new : Devices) : Type 0 where
  pub depot : new.depot ≡ old.depot
  pub disk : OnlyReads old.disk new.disk
  pub out : new.out ≡ old.out
