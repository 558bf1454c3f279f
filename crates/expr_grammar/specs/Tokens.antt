-- Tokens, which are the bytes that they are spelt with, and texts of them.
use Rattle.std.specs.Prelude.{◌≡◌, ℕ, nat_le, List, [], ◌∷◌, ◌++◌, length, codes, filter, Bool, true, false, not, ◌&&◌, ◌||◌, ◌==◌, if◌then◌else◌}
use Rattle.std.specs.List.{list_all}
use Rattle.std.specs.Str.Parse.{digits_value}
use Rattle.tuple_schema.specs.Texts.{is_lower, is_digit, is_name_byte, is_name, is_among}

-- a letter, then letters, digits and `_`
abbrev pub is_word : List ℕ → Bool
is_word [] = false
is_word (b ∷ bs) = is_lower b && list_all is_name_byte bs

-- 1 to 6 digits, which follow a point
abbrev pub are_places : List ℕ → Bool
are_places bs = list_all is_digit bs && nat_le 1 (length bs) && nat_le (length bs) 6

-- what follows the first digit of a number
abbrev pub ends_number : List ℕ → Bool
ends_number [] = true
ends_number (b ∷ bs) = if is_digit b then ends_number bs else ((b == 46) && are_places bs)

-- digits, or digits, a point and 1 to 6 digits
abbrev pub is_number : List ℕ → Bool
is_number [] = false
is_number (b ∷ bs) = is_digit b && ends_number bs

abbrev pub places : List ℕ → ℕ
places [] = 0
places (b ∷ bs) = if b == 46 then length bs else places bs

-- the number of units of its places
abbrev pub units : List ℕ → ℕ
units w = digits_value 10 (filter is_digit w)

-- what follows the first quote of a text; a quote inside is doubled; true says that no quote has closed it
abbrev pub ends_text : Bool → List ℕ → Bool
ends_text b [] = not b
ends_text true (b ∷ bs) = ends_text (not (b == 39)) bs
ends_text false (b ∷ bs) = (b == 39) && ends_text true bs

-- a text in single quotes
abbrev pub is_text : List ℕ → Bool
is_text [] = false
is_text (b ∷ bs) = (b == 39) && ends_text true bs

-- what follows the first quote, without every other quote; true says that no quote has closed it
abbrev pub unquoted : Bool → List ℕ → List ℕ
unquoted b [] = []
unquoted true (b ∷ bs) = if b == 39 then unquoted false bs else b ∷ unquoted true bs
unquoted false (b ∷ bs) = b ∷ unquoted true bs

-- what a text in quotes says
abbrev pub said : List ℕ → List ℕ
said [] = []
said (b ∷ bs) = unquoted true bs

abbrev pub symbols : List (List ℕ)
symbols =
    codes "=" ∷ codes "<>" ∷ codes "<" ∷ codes "<=" ∷ codes ">" ∷ codes ">=" ∷ codes "+" ∷ codes "-" ∷ codes "||"
    ∷ codes "*" ∷ codes "/"
    ∷ codes "(" ∷ codes ")" ∷ codes "," ∷ []

abbrev pub is_token : List ℕ → Bool
is_token w = is_word w || is_number w || is_text w || is_among symbols w

-- the words of the language
abbrev pub words : List (List ℕ)
words =
    codes "or" ∷ codes "and" ∷ codes "not" ∷ codes "is" ∷ codes "null" ∷ codes "abs" ∷ codes "length" ∷ codes "scale"
    ∷ codes "coalesce" ∷ codes "if" ∷ []

-- a column: a name that is no word of the language
abbrev pub is_column : List ℕ → Bool
is_column w = is_name w && not (is_among words w)

-- one digit, 0 to 6
abbrev pub is_scale : List ℕ → Bool
is_scale [] = false
is_scale (b ∷ []) = nat_le 48 b && nat_le b 54
is_scale (b ∷ c ∷ bs) = false

-- the second list begins with the first
abbrev pub is_front : List ℕ → List ℕ → Bool
is_front [] ys = true
is_front (x ∷ xs) [] = false
is_front (x ∷ xs) (y ∷ ys) = (x == y) && is_front xs ys

-- no longer token begins with w, where these bytes follow it
abbrev pub IsLongest : List ℕ → List ℕ → Type 0
IsLongest w after = (v rest : List ℕ) → after ≡ v ++ rest → is_token (w ++ v) ≡ true → v ≡ []

abbrev pub AreSpaces : List ℕ → Type 0
AreSpaces bytes = list_all (λ b. b == 32) bytes ≡ true

-- the text is these tokens and then the rest; each is the longest that fits, and spaces may stand before it
abbrev pub Reads : List (List ℕ) → List ℕ → List ℕ → Type 0
Reads [] text rest = text ≡ rest
Reads (w ∷ ws) text rest =
    (spaces after : List ℕ) × AreSpaces spaces × (text ≡ spaces ++ w ++ after) × (is_token w ≡ true) × IsLongest w after
    × Reads ws after rest

-- the text is these tokens, and spaces
abbrev pub Spells : List (List ℕ) → List ℕ → Type 0
Spells ws text = (spaces : List ℕ) × AreSpaces spaces × Reads ws text spaces
