-- The words of clauses, from one place.
pub use Rattle.table_write.specs.Cut.{IsCut, cut, is_full, together}
pub use Rattle.table_write.specs.Rows.{HoldsEnded, HoldsFirst, HoldsRows, stored_of}
pub use Rattle.table_write.specs.Adds.{AllHaveRoom, HasAdded, HasRoom, IsFilled, LeavesFronts, StopsBetween}
pub use Rattle.table_write.specs.Adds.{behind, with_blocks}
