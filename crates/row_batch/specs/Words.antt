-- The words of clauses, from one place.
pub use Rattle.row_batch.specs.Packing.{FitsNext, IsCell, TakesPlaces, held, value_places}
pub use Rattle.row_batch.specs.Views.{text_of}
pub use Rattle.row_batch.specs.Streams.{IsFilled}
