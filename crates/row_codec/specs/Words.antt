-- The words of clauses, from one place.
pub use Rattle.row_codec.specs.Fields.{field_value, in_range, is_negative, natural_of, number_of, signed}
pub use Rattle.row_codec.specs.Fields.{text_of_field, units_of, without_sign}
pub use Rattle.row_codec.specs.Numbers.{TakesDigits, capped_size}
pub use Rattle.row_codec.specs.Lending.{mapped, tested}
pub use Rattle.row_codec.specs.Printing.{field_text, last_digits, reread, size_text, units_text}
pub use Rattle.row_codec.specs.Rows.{row_bytes, rows_bytes, value_bytes}
pub use Rattle.row_codec.specs.Decoding.{AreBytes, BeginsWithRow, BeginsWithValue, IsEncodable, IsRowOf}
pub use Rattle.row_codec.specs.Decoding.{content_at, number_at, row_at, row_size_at, text_at, value_at}
