-- What the texts of `on` pair, and what may be wrong with the pairs.
use Rattle.std.specs.Prelude.{ℕ, List, length, map, slice_get, Bool, false, if◌then◌else◌, Option, Some, None, is_some, option_map, option_and_then, Result, Ok, Err}
use Rattle.std.specs.List.{list_all}
use Rattle.tuple_schema.specs.Stops.{◌>>=◌}
use Rattle.tuple_schema.specs.Texts.{head_of}
use Rattle.tuple_schema.specs.declared.schema.Column.{Column}
use Rattle.expr_lang.specs.Kinds.{is_same_kind}
use Rattle.flow_types.specs.declared.fault.SchemaCause.{SchemaCause}
use Rattle.flow_types.specs.declared.fault.SchemaCause.TheVariants as cause
use Rattle.flow_types.specs.declared.paired.Pair.{Pair}
use Rattle.flow_types.specs.Each.{each_made}
use Rattle.flow_types.specs.Names.{place_of, name_at, names_in, is_again, least, refused, last_name}

-- the place of a name that has to be there
abbrev pub place_or : List ℕ → Option ℕ → Result ℕ SchemaCause
place_or name None = Err (cause.UnknownColumn name)
place_or name (Some place) = Ok place

abbrev pub known_place : List (List ℕ) → List ℕ → Result ℕ SchemaCause
known_place names name = place_or name (place_of names name)

-- the columns that `NAME` or `NAME = NAME` pairs, among those of these names: the left one first
abbrev pub pair_of : List (List ℕ) → List (List ℕ) → List ℕ → Result Pair SchemaCause
pair_of lefts rights text = do
  left ← known_place lefts (head_of text)
  right ← known_place rights (last_name text)
  Ok (record { left = left; right = right })

-- both columns are there, and of one kind
abbrev pub agree : Option Column → Option Column → Bool
agree (Some c) (Some d) = is_same_kind c.kind d.kind
agree _ _ = false

-- the columns of a pair are of one kind; either may be nullable
abbrev pub is_of_one_kind : List Column → List Column → Pair → Bool
is_of_one_kind left right p = agree (slice_get left p.left) (slice_get right p.right)

-- those of each pair are
abbrev pub only_agreeing : List Column → List Column → List Pair → Result Unit SchemaCause
only_agreeing left right pairs = if list_all (is_of_one_kind left right) pairs then Ok tt else Err cause.KindDiffers

-- a name in a pair that an earlier pair has on the same side: the left one first
abbrev pub paired_again : List (List ℕ) → List (List ℕ) → ℕ → Option (List ℕ)
paired_again lefts rights place =
    if is_again lefts place then Some (name_at lefts place)
    else if is_again rights place then Some (name_at rights place)
    else None

-- there is no such name, or the first one
abbrev pub only_once : List (List ℕ) → List (List ℕ) → Result Unit SchemaCause
only_once lefts rights =
    refused (option_map cause.DoubleColumn (option_and_then (paired_again lefts rights)
    (least (length lefts) (λ place. is_some (paired_again lefts rights place)))))

-- the pairs of the texts, or what is wrong with them
abbrev pub pairs_of : List Column → List Column → List (List ℕ) → Result (List Pair) SchemaCause
pairs_of left right texts = do
  pairs ← each_made (pair_of (names_in left) (names_in right)) texts
  _ ← only_agreeing left right pairs
  _ ← only_once (map head_of texts) (map last_name texts)
  Ok pairs

-- their columns in the left input, and those in the right one
abbrev pub lefts : List Pair → List ℕ
lefts pairs = map (λ p. p.left) pairs

abbrev pub rights : List Pair → List ℕ
rights pairs = map (λ p. p.right) pairs
