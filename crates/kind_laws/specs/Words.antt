-- The words of clauses, from one place.
pub use Rattle.kind_laws.specs.Outputs.{projected}
pub use Rattle.kind_laws.specs.Expressions.{assigned, cell, cells, is_true, mapped, selected}
pub use Rattle.kind_laws.specs.Wholes.{Lists, by_number, whole_of}
pub use Rattle.kind_laws.specs.Laws.{HasOwnColumns, SourcesHaveColumns}
pub use Rattle.kind_laws.specs.Runs.{Yield, at_root}
pub use Rattle.list_algebra.specs.Comparing.{compare_tuples, compare_values}
pub use Rattle.kind_laws.specs.Indexes.{FitBehind, IsIndex, PairsFit, compare_keys}
pub use Rattle.kind_laws.specs.Indexes.{given_rows, key_at, row_at}
pub use Rattle.kind_laws.specs.Fitting.{AllFitInto, FitInto}
pub use Rattle.kind_laws.specs.Keys.{key_number, with_key}
pub use Rattle.kind_laws.specs.Makes.{aggregated, counted, difference, fall, given_in, made, made_of, ordered, rise}
pub use Rattle.kind_laws.specs.Accumulators.{GiveEach, HoldsWithin, IsBest, IsTotal, IsWithin, ReadsWithin, StandEach, Stands, first_or, pick, rows_of, total_value, value_at, value_held, value_of_best, what_of}
pub use Rattle.kind_laws.specs.Grouping.{AreHeld, IsGrouping, group_at, group_row}
