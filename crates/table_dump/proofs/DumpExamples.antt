-- A dump, computed.
use Rattle.std.proofs.Common.{◌≡◌, List, [], ◌∷◌, pos, true, refl}
use Rattle.std.specs.Prelude.{codes}
use Rattle.std.specs.Fmt.{digits}
use Rattle.csv.specs.Writing.{escaped, fields_text, is_blank}
use Rattle.tuple_schema.specs.declared.value.Value.{Value}
use Rattle.tuple_schema.specs.declared.value.Value.TheVariants as value
use Rattle.tuple_schema.specs.declared.schema.Column.{Column}
use Rattle.tuple_schema.specs.declared.schema.ColumnKind.TheVariants as kind
use Rattle.table_dump.specs.Texts.{printed, record_text, dump_text}

abbrev number : Column
number = record { name = codes "n"; kind = kind.Int; nullable = true }

abbrev text : Column
text = record { name = codes "t"; kind = kind.Text; nullable = true }

abbrev rows : List (List Value)
rows = (value.Null ∷ value.Text (codes "a \"b\", c") ∷ []) ∷ (value.Int (pos 7) ∷ value.Text [] ∷ []) ∷ []

-- Null and an empty text have no text, and a text with quotes and a comma is quoted
two_rows : dump_text (number ∷ text ∷ []) rows ≡ codes "n,t\n,\"a \"\"b\"\", c\"\n7,\n"
unfolding printed escaped fields_text is_blank digits
two_rows = refl

-- a record of one empty field is two quotes
one_null : record_text (printed (text ∷ []) (value.Null ∷ [])) ≡ codes "\"\"\n"
unfolding printed escaped fields_text is_blank
one_null = refl
