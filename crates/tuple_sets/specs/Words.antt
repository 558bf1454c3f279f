-- The words of clauses, from one place.
pub use Rattle.tuple_sets.specs.Bags.{SameBag, SameSet, count_of, has}
pub use Rattle.tuple_sets.specs.Order.{tuple_cmp, value_cmp}
pub use Rattle.tuple_sets.specs.Runs.{Finds, IsRuns, count_at, is_before, start_of, with_count}
