-- The lemmas of each step of the reader, under one word.
use Rattle.expr_grammar.proofs.Past.{number_refused, number_led, number_large, text_refused, text_led, said_short, text_no_scale, text_some, other_within, other_deep, kind_number, kind_text, kind_name, text_no_number}
use Rattle.expr_grammar.proofs.ScanLemmas.{places_scanned, number_whole, text_whole, scanned_first, scanned_none, scan_one, scanned_more, token_goes, number_begins, text_begins, word_scanned}
use Rattle.expr_grammar.proofs.Ranges.{range_one, range_none, range_more}
use Rattle.expr_grammar.proofs.Columns.{column_same}
use Rattle.expr_grammar.proofs.Utf8.{column_utf8, column_short}

-- past a number
pub ruleset number_steps = (number_refused, number_led, number_large, places_scanned)

-- past a text in quotes
pub ruleset text_steps = (text_refused, text_led, said_short, text_no_scale, text_some)

-- past a token of another kind
pub ruleset other_steps = (other_within, other_deep)

-- past a token, by its kind
pub ruleset kind_steps = (kind_number, kind_text, kind_name)

-- past a token, by what was scanned
pub ruleset token_steps = (number_whole, text_whole, text_no_number)

-- the first byte of a token
pub ruleset first_byte = (range_one, range_none, scanned_first, scanned_none, scan_one)

-- one more byte of a token
pub ruleset next_byte = (range_more, scanned_more)

-- a byte that goes on with a token
pub ruleset token_goes_on = (range_more, token_goes)

-- what begins with the bytes of a token
pub ruleset token_begins = (number_begins, text_begins, word_scanned)

-- the kind of a token
pub ruleset token_kinds = (number_whole, text_whole, column_same)

-- a column as a text
pub ruleset column_texts = (column_utf8, column_short)
