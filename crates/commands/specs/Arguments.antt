-- The commands, as lists of words.
use Rattle.std.specs.Prelude.{ℕ, ℤ, pos, negsuc, List, [], ◌∷◌, length, Bool, false, ◌&&◌, ◌==◌, ◌^◌, nat_le, nat_lt, bytes_eq, codes, if◌then◌else◌, Option, Some, None}
use Rattle.std.specs.Char.{is_ascii_digit}
use Rattle.std.specs.List.{list_all}
use Rattle.std.specs.Str.Parse.{digits_value}

-- at least one digit, and nothing else
abbrev pub are_digits : List ℕ → Bool
are_digits text = nat_lt 0 (length text) && list_all is_ascii_digit text

-- the number that a text of digits writes, where it is below 2^63
abbrev pub number_of : List ℕ → Option ℤ
number_of text =
    if are_digits text && nat_lt (digits_value 10 text) (2 ^ 63) then Some (pos (digits_value 10 text)) else None

-- the text begins with the digit 0
abbrev pub begins_with_zero : List ℕ → Bool
begins_with_zero [] = false
begins_with_zero (first ∷ rest) = first == 48

-- a number of rows that a block may have
abbrev pub rows_of_block : Option ℤ → Option ℕ
rows_of_block None = None
rows_of_block (Some (pos n)) = if nat_le 1 n && nat_le n 4096 then Some n else None
rows_of_block (Some (negsuc n)) = None

-- a decimal number from 1 to 4,096, without a sign or a leading zero
abbrev pub batch_number : List ℕ → Option ℕ
batch_number text = if begins_with_zero text then None else rows_of_block (number_of text)

-- of the command alone
abbrev pub default_batch : List ℕ → Option ℕ
default_batch command = if bytes_eq command (codes "load") then Some 1000 else None

-- of the command and an option
abbrev pub given_batch : List ℕ → List ℕ → List ℕ → Option ℕ
given_batch command option number = if bytes_eq command (codes "load")
    && bytes_eq option (codes "--batch") then batch_number number else None

-- how many rows a block may have, where the words are `load DIR` or `load DIR --batch N`, for a folder of any name
abbrev pub batch_in : List (List ℕ) → Option ℕ
batch_in (command ∷ folder ∷ []) = default_batch command
batch_in (command ∷ folder ∷ option ∷ number ∷ []) = given_batch command option number
batch_in _ = None

-- the words are `dump DIR`, for a folder of any name
abbrev pub is_dump : List (List ℕ) → Bool
is_dump (command ∷ folder ∷ []) = bytes_eq command (codes "dump")
is_dump _ = false
