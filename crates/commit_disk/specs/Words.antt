-- The words of clauses, from one place.
pub use Rattle.commit_disk.specs.Table.{Holds, HoldsOnce, HoldsUpTo, IsNotMade, Stored, TableBlock}
pub use Rattle.commit_disk.specs.Table.{content_of, end_block, head, row_blocks, rows_block}
pub use Rattle.commit_disk.specs.Journal.{Commits, after, new_journal}
pub use Rattle.commit_disk.specs.Buffer.{behind_gate, no_rows, with_row}
pub use Rattle.commit_disk.specs.Gate.{HasClosedGate, HasClosedGateAt, KeepsClosed, OpensGate}
pub use Rattle.commit_disk.specs.Crashes.{Grows, GrowsBy, HasStill, IsEmptyOrNotMade, LeavesWhole}
pub use Rattle.commit_disk.specs.Crashes.{LosesNothing}
pub use Rattle.commit_disk.specs.BlockHeads.{BlockHeadTells, BlockTells, IsBlockAt, IsHeadFault, IsWritten}
pub use Rattle.commit_disk.specs.BlockHeads.{count_in, len_in, passed}
pub use Rattle.commit_disk.specs.Attach.{AttachTells, HasName, IsSound, IsVerdict, IsWithin, LeadsTo, TellsOf}
pub use Rattle.commit_disk.specs.Attach.{VerdictsAgree}
pub use Rattle.commit_disk.specs.Frames.{FoundTells, GateTells, GatesTell, HasDiskCause, HeadTells}
pub use Rattle.commit_disk.specs.Frames.{IsOnTheWay, PassTells}
