-- The text of a value in a printed field.
use Rattle.std.specs.Prelude.{ℕ, zero, suc, ℤ, pos, negsuc, ◌+◌, ◌/◌, ◌%◌, ◌^◌, List, [], ◌∷◌, ◌++◌, Bool, if◌then◌else◌}
use Rattle.std.specs.Fmt.{decimal, signed_decimal}
use Rattle.tuple_schema.specs.declared.value.Value.{Value}
use Rattle.tuple_schema.specs.declared.value.Value.TheVariants as value
use Rattle.tuple_schema.specs.declared.schema.ColumnKind.{ColumnKind}
use Rattle.tuple_schema.specs.declared.schema.ColumnKind.TheVariants as kind
use Rattle.row_codec.specs.Fields.{minus, point, zero_digit}

-- the last so many digits of a number
abbrev pub last_digits : ℕ → ℕ → List ℕ
last_digits zero n = []
last_digits (suc k) n = last_digits k (n / 10) ++ (zero_digit + n % 10) ∷ []

-- a size in units of so many places: its whole part with no zeros before it, a point, and that many digits
abbrev pub size_text : ℕ → ℕ → List ℕ
size_text places size = decimal (size / 10 ^ places) ++ point ∷ last_digits places size

-- a number of such units, with a minus where it is negative
abbrev pub units_text : ℕ → ℤ → List ℕ
units_text places (pos n) = size_text places n
units_text places (negsuc n) = minus ∷ size_text places (suc n)

-- how many places behind the point a kind has
abbrev pub places_of : ColumnKind → ℕ
places_of kind.Int = 0
places_of (kind.Dec places) = places
places_of kind.Text = 0

-- Null has no text, an int is in decimal, a dec has all its places, and a text is itself
abbrev pub field_text : ColumnKind → Value → List ℕ
field_text k value.Null = []
field_text k (value.Int n) = signed_decimal n
field_text k (value.Dec n) = units_text (places_of k) n
field_text k (value.Text text) = text

-- what a printed field is read as: the value, but an empty text of a nullable column is read as Null
abbrev pub reread : Bool → Value → Value
reread nullable value.Null = value.Null
reread nullable (value.Int n) = value.Int n
reread nullable (value.Dec n) = value.Dec n
reread nullable (value.Text []) = if nullable then value.Null else value.Text []
reread nullable (value.Text (c ∷ cs)) = value.Text (c ∷ cs)
