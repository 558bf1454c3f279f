-- The words of clauses, from one place.
pub use Rattle.tuple_schema.specs.Stops.{Gives, GivesView, IfFault, IsFault}
pub use Rattle.tuple_schema.specs.Texts.{head_of, is_among, is_digit, is_lower, is_name, is_name_byte}
pub use Rattle.tuple_schema.specs.Texts.{rest_of}
pub use Rattle.tuple_schema.specs.Tuples.{IsShort, lent, part}
pub use Rattle.tuple_schema.specs.Schemas.{Fits, HasScale, IsSchema, fits, is_of}
