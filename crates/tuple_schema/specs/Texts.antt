-- The words of texts: what a name is, what stands round the first space, and lists of words.
use Rattle.std.specs.Prelude.{ℕ, ◌==◌, List, length, slice_index, codes, bytes_eq, Bool, not, ◌&&◌, ◌||◌, nat_lt, nat_le, if◌then◌else◌, Option, Some, None}
use Rattle.std.specs.List.{list_all, list_any, position_or_len, before_first, after_first}

-- a lower-case letter
abbrev pub is_lower : ℕ → Bool
is_lower b = nat_le 97 b && nat_le b 122

-- a digit
abbrev pub is_digit : ℕ → Bool
is_digit b = nat_le 48 b && nat_le b 57

-- a lower-case letter, a digit or `_`
abbrev pub is_name_byte : ℕ → Bool
is_name_byte b = (is_lower b || is_digit b) || b == 95

-- 1 to so many bytes, each of which passes
abbrev pub is_made_of : (ℕ → Bool) → ℕ → List ℕ → Bool
is_made_of passes most text = (nat_lt 0 (length text) && nat_le (length text) most) && list_all passes text

-- a lower-case letter, then letters, digits and `_`: at most 40 bytes, and neither `table` nor `none`
unfoldable pub is_name : List ℕ → Bool
is_name text =
    (is_made_of is_name_byte 40 text && is_lower (slice_index text 0))
    && (not (bytes_eq text (codes "table")) && not (bytes_eq text (codes "none")))

-- a space
abbrev pub is_space : ℕ → Bool
is_space b = b == 32

-- what stands before the first space, or the whole text where it has none
unfoldable pub head_of : List ℕ → List ℕ
head_of text = before_first is_space text

-- what follows the first space
unfoldable pub rest_of : List ℕ → Option (List ℕ)
rest_of text = if nat_lt (position_or_len is_space text) (length text) then Some (after_first is_space text) else None

-- the text is one of the words
abbrev pub is_among : List (List ℕ) → List ℕ → Bool
is_among words text = list_any (bytes_eq text) words
