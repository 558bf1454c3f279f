-- The words of clauses, from one place.
pub use Rattle.expr_grammar.specs.Tokens.{is_column, is_front, is_number, is_scale, is_text, said, symbols}
pub use Rattle.expr_grammar.specs.Tokens.{units, unquoted, words}
pub use Rattle.expr_grammar.specs.Phrases.{left_of, level_of, right_of}
pub use Rattle.expr_grammar.specs.Texts.{IsFirstFault, IsRead, IsText}
pub use Rattle.expr_grammar.specs.Kinds.{continues, fixed, fixed_words, kind_among, kind_of, spelling}
pub use Rattle.expr_grammar.specs.Machine.{Reduced, State, at_mode, begins, begun, closed_in, ended}
pub use Rattle.expr_grammar.specs.Machine.{ended_call, gone_on, hole, led, levels, levels_in, made, opens}
pub use Rattle.expr_grammar.specs.Machine.{parted_by, parted_in, past, rank, read, reading, reduce, room}
pub use Rattle.expr_grammar.specs.Machine.{start, stepped, takes_after, takes_in, takes_is, takes_is_not}
pub use Rattle.expr_grammar.specs.Machine.{takes_opening, takes_operand, takes_scaled, with_is, with_operator}
pub use Rattle.expr_grammar.specs.Allowing.{allows, allows_after, allows_operand, begins_by, begins_if}
pub use Rattle.expr_grammar.specs.Allowing.{closes, closes_call, parts, reduced_level}
pub use Rattle.expr_grammar.specs.Scans.{IsScanned, count_of, digits_next, goes_by, is_whole_number}
pub use Rattle.expr_grammar.specs.Scans.{is_whole_text, places_next, scan_first, scan_next, scan_of}
pub use Rattle.expr_grammar.specs.Scans.{scans_number, scans_text, scans_word}
