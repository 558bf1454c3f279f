-- What the text of a column says: `NAME KIND`, and a `?` at once behind it where Null is allowed.
use Rattle.std.specs.Prelude.{ℕ, ◌-◌, ◌==◌, List, [], length, slice_index, unwrap_or, codes, bytes_eq, Bool, if◌then◌else◌}
use Rattle.tuple_schema.specs.declared.schema.Column.{Column}
use Rattle.tuple_schema.specs.declared.schema.ColumnKind.{ColumnKind}
use Rattle.tuple_schema.specs.declared.schema.ColumnKind.TheVariants as kind
use Rattle.tuple_schema.specs.Texts.{head_of, rest_of}
use Rattle.workflow_file.specs.Texts.{without_mark}

-- what stands behind the name, as `int` or `dec2?`
abbrev pub word_in : List ℕ → List ℕ
word_in text = unwrap_or (rest_of text) []

-- a kind by its word: `int`, `text`, or `dec` and the digit that is the number of its places
abbrev pub kind_of : List ℕ → ColumnKind
kind_of word =
    if bytes_eq word (codes "int") then kind.Int
    else if bytes_eq word (codes "text") then kind.Text
    else kind.Dec (slice_index word 3 - 48)

-- a `?` stands at the end
abbrev pub is_marked : List ℕ → Bool
is_marked word = slice_index word (length word - 1) == 63

-- the column that a text says: its name, its kind by the word without the mark, and Null allowed where the mark is
abbrev pub stated_column : List ℕ → Column
stated_column text = record {
  name = head_of text;
  kind = kind_of (without_mark (word_in text));
  nullable = is_marked (word_in text);
}
