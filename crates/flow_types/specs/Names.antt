-- Names in lists: which comes twice, and which isn't there.
use Rattle.std.specs.Prelude.{ℕ, zero, suc, List, [], length, take, get_or, filter_map, find, map, bytes_eq, Bool, is_none, if◌then◌else◌, unwrap_or, Option, Some, None, option_map, Result, Ok, Err}
use Rattle.std.specs.List.{position}
use Rattle.std.specs.Option.{option_or}
use Rattle.tuple_schema.specs.Stops.{◌>>=◌}
use Rattle.tuple_schema.specs.declared.schema.Column.{Column}
use Rattle.tuple_schema.specs.Texts.{is_among, head_of, rest_of}
use Rattle.flow_types.specs.declared.fault.SchemaCause.{SchemaCause}
use Rattle.flow_types.specs.declared.fault.SchemaCause.TheVariants as cause

-- the least of so many places at which the test passes
unfoldable pub least : ℕ → (ℕ → Bool) → Option ℕ
least zero test = None
least (suc n) test = option_or (least n test) (if test n then Some n else None)

-- the first place of a name
abbrev pub place_of : List (List ℕ) → List ℕ → Option ℕ
place_of names name = position (λ n. bytes_eq n name) names

-- the last name of `NAME`, `NAME as NAME` or `NAME = NAME`: what follows the second space, or the name itself
abbrev pub name_from : List ℕ → Option (List ℕ) → List ℕ
name_from name None = name
name_from name (Some rest) = unwrap_or (rest_of rest) rest

abbrev pub last_name : List ℕ → List ℕ
last_name text = name_from (head_of text) (rest_of text)

-- the name at a place
abbrev pub name_at : List (List ℕ) → ℕ → List ℕ
name_at names place = get_or names place []

-- an earlier one is the same
abbrev pub is_again : List (List ℕ) → ℕ → Bool
is_again names place = is_among (take place names) (name_at names place)

-- the least place of a name that an earlier one is
abbrev pub again : List (List ℕ) → Option ℕ
again names = least (length names) (is_again names)

-- the first name of those wanted that isn't there
abbrev pub unknown : List (List ℕ) → List (List ℕ) → Option (List ℕ)
unknown names wanted = find (λ name. is_none (place_of names name)) wanted

-- nothing, or the cause that there is
abbrev pub refused : {F : Type 0} → Option F → Result Unit F
refused None = Ok tt
refused (Some fault) = Err fault

-- no name comes twice, or the first one that does
abbrev pub no_double : List (List ℕ) → Result Unit SchemaCause
no_double names = refused (option_map (λ place. cause.DoubleColumn (name_at names place)) (again names))

-- each name is there, or the first one that isn't
abbrev pub no_unknown : List (List ℕ) → List (List ℕ) → Result Unit SchemaCause
no_unknown names wanted = refused (option_map cause.UnknownColumn (unknown names wanted))

-- the names of columns
abbrev pub names_in : List Column → List (List ℕ)
names_in columns = map (λ c. c.name) columns

-- the places of the names wanted, of which none is unknown and none comes twice
abbrev pub cols_in : List (List ℕ) → List (List ℕ) → Result (List ℕ) SchemaCause
cols_in names wanted = do
  _ ← no_unknown names wanted
  _ ← no_double wanted
  Ok (filter_map (place_of names) wanted)

-- the same of names that may not be given
abbrev pub cols_if : List (List ℕ) → Option (List (List ℕ)) → Result (Option (List ℕ)) SchemaCause
cols_if names None = Ok None
cols_if names (Some wanted) = do
  cols ← cols_in names wanted
  Ok (Some cols)
