-- The words of clauses, from one place.
pub use Rattle.load_runner.specs.Standing.{IsAll, Stands}
pub use Rattle.load_runner.specs.Missing.{IsAllMissing}
pub use Rattle.load_runner.specs.Sources.{IsMeaning, KeepsTruth, by_depot, content_of, contents_in, numbered}
pub use Rattle.load_runner.specs.Sources.{of_source}
pub use Rattle.load_runner.specs.Trimmed.{IsRest, Resumes}
pub use Rattle.load_runner.specs.Asked.{asked_bytes, asked_of}
pub use Rattle.load_runner.specs.Found.{FoundOnce, IsFound, other, wrong}
pub use Rattle.load_runner.specs.Safe.{HoldsAll, IsGrown}
pub use Rattle.load_runner.specs.Starts.{IsAt, Starts, count_of, is_ended}
pub use Rattle.load_runner.specs.Stops.{of_source_fault, of_sources, of_table, of_write}
pub use Rattle.load_runner.specs.Reports.{ended_report, skip_counts, skip_report}
pub use Rattle.load_runner.specs.Jobs.{IsMade, Job, columns_of}
pub use Rattle.load_runner.specs.Adding.{Finishes, LeavesGrown, OfOlds, addition}
pub use Rattle.load_runner.specs.Loads.{Loads}
pub use Rattle.load_runner.specs.Histories.{AllStandFrom, IsHistory, IsStep, Standing, nothing}
