-- The words of clauses, from one place.
pub use Rattle.outside.specs.Counts.{HasCause, Rose, counted}
pub use Rattle.outside.specs.Countdown.{is_due, nearer, with_failure, with_want}
pub use Rattle.outside.specs.Depot.{Consults, DepotState, Files, IsPiece, ReadsAt, ReadsFile, file_at}
pub use Rattle.outside.specs.Images.{AreTorn, Each, IsOnly, SameImages, Torn}
pub use Rattle.outside.specs.Disk.{AtEachMoment, DiskState, Elapses, IsSettled, Keeps, LeavesNothingNew}
pub use Rattle.outside.specs.Disk.{LeftBetween, OnlyReads, Reads, Spares, Syncs, Tears, TellsSize, Ticks}
pub use Rattle.outside.specs.Disk.{Writes, overwritten}
pub use Rattle.outside.specs.Passing.{PassesOver}
pub use Rattle.outside.specs.Sink.{Gains, GainsFront, SinkState, gained}
pub use Rattle.outside.specs.Whole.{IsFile, IsWithin, found_in, found_of, size_of}
pub use Rattle.outside.specs.MemoryDepot.{readable}
pub use Rattle.outside.specs.Stopping.{after_write, has_come, torn_next, with_stop}
pub use Rattle.outside.specs.History.{AllBeginWithin, BeginsWithin, DiskHistory, content, stopped, synced}
pub use Rattle.outside.specs.History.{with_event, written}
pub use Rattle.outside.specs.Crashes.{IsTornFrom, content_after_crash, images_at, images_of, left_of}
pub use Rattle.outside.specs.CrashModel.{IsLeft, Range, furthest_end, range_at, ranges_since, synced_of}
pub use Rattle.outside.specs.CrashModel.{up_to}
pub use Rattle.outside.specs.Events.{event_of}
pub use Rattle.outside.specs.MemoryDisk.{Remembers, file_of, is_failing, is_failing_write}
