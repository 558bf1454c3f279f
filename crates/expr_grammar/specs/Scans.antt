-- What has been read of a token, kept as it grows byte by byte. Nobody needs to believe this file.
use Rattle.std.specs.Prelude.{◌≡◌, ◌≢◌, ℕ, ◌+◌, nat_le, nat_lt, List, [], ◌∷◌, Bool, true, false, ◌==◌, ◌&&◌, if◌then◌else◌}
use Rattle.std.specs.List.{list_any}
use Rattle.tuple_schema.specs.Texts.{is_lower, is_digit, is_name_byte}
use Rattle.expr_grammar.specs.Tokens.{is_front, symbols}
use Rattle.expr_grammar.specs.declared.scan.Scan.{Scan}
use Rattle.expr_grammar.specs.declared.scan.Scan.TheVariants as scan

-- the first byte of a token
abbrev pub scan_first : ℕ → Scan
scan_first b =
    if is_lower b then scan.Word
    else (if is_digit b then scan.Digits
    else (if b == 39 then scan.Quoted else scan.Symbol))

abbrev pub digits_next : ℕ → Scan
digits_next b = if is_digit b then scan.Digits else (if b == 46 then scan.Places 0 else scan.Broken)

abbrev pub places_next : ℕ → ℕ → Scan
places_next n b = if is_digit b && nat_lt n 6 then scan.Places (n + 1) else scan.Broken

-- one more byte; Broken where no token begins so, symbols apart
abbrev pub scan_next : Scan → ℕ → Scan
scan_next scan.Empty b = scan_first b
scan_next scan.Word b = if is_name_byte b then scan.Word else scan.Broken
scan_next scan.Digits b = digits_next b
scan_next (scan.Places n) b = places_next n b
scan_next scan.Quoted b = if b == 39 then scan.Closed else scan.Quoted
scan_next scan.Closed b = if b == 39 then scan.Quoted else scan.Broken
scan_next scan.Symbol b = scan.Symbol
scan_next scan.Broken b = scan.Broken

abbrev pub scan_after : Scan → List ℕ → Scan
scan_after s [] = s
scan_after s (b ∷ bs) = scan_after (scan_next s b) bs

-- what these bytes are, as far as they go
unfoldable pub scan_of : List ℕ → Scan
scan_of w = scan_after scan.Empty w

abbrev pub scans_word : Scan → Bool
scans_word scan.Word = true
scans_word _ = false

-- the front of a number
abbrev pub scans_number : Scan → Bool
scans_number scan.Digits = true
scans_number (scan.Places n) = true
scans_number _ = false

-- a whole number
abbrev pub is_whole_number : Scan → Bool
is_whole_number scan.Digits = true
is_whole_number (scan.Places n) = nat_le 1 n
is_whole_number _ = false

-- the front of a text
abbrev pub scans_text : Scan → Bool
scans_text scan.Quoted = true
scans_text scan.Closed = true
scans_text _ = false

-- a whole text
abbrev pub is_whole_text : Scan → Bool
is_whole_text scan.Closed = true
is_whole_text _ = false

-- some token begins with the bytes that have been read and this one, which end the longer bytes
abbrev pub goes_by : Scan → ℕ → List ℕ → Bool
goes_by scan.Empty b longer = false
goes_by scan.Word b longer = is_name_byte b
goes_by scan.Digits b longer = scans_number (scan_next scan.Digits b)
goes_by (scan.Places n) b longer = scans_number (scan_next (scan.Places n) b)
goes_by scan.Quoted b longer = scans_text (scan_next scan.Quoted b)
goes_by scan.Closed b longer = scans_text (scan_next scan.Closed b)
goes_by scan.Symbol b longer = list_any (is_front longer) symbols
goes_by scan.Broken b longer = false

-- how many digits follow the point
abbrev pub count_of : Scan → ℕ
count_of (scan.Places n) = n
count_of _ = 0

-- the scan is that of the bytes, with which some token may begin
abbrev pub IsScanned : Scan → List ℕ → Type 0
IsScanned s w = (s ≡ scan_of w) × (s ≢ scan.Broken)
