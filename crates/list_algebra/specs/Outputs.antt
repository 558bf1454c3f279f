-- What selecting and projecting make of a list, and of each of its tuples.
use Rattle.std.specs.Prelude.{◌≡◌, ℕ, ◌<◌, ◌≤◌, List, [], ◌∷◌, map, length, slice_index, All, Bool, IsTrue, if◌then◌else◌}
use Rattle.std.specs.List.{filter, flat_map}
use Rattle.tuple_schema.specs.Tuples.{part}
use Rattle.list_algebra.specs.Bags.{Tuple}

-- the pieces that are made of the tuples, one after the other
abbrev pub piecewise : (Tuple → List Tuple) → List Tuple → List Tuple
piecewise piece rows = flat_map piece rows

-- the tuples that pass the test, in their order
abbrev pub select : (Tuple → Bool) → List Tuple → List Tuple
select keeps rows = filter keeps rows

-- of each tuple the values in these columns
abbrev pub project : List ℕ → List Tuple → List Tuple
project cols rows = map (λ t. part t cols) rows

-- the piece of a selection: the tuple, where it passes
abbrev pub kept_piece : (Tuple → Bool) → Tuple → List Tuple
kept_piece keeps tuple = if keeps tuple then tuple ∷ [] else []

-- the piece of a projection: the tuple's values in the columns
abbrev pub part_piece : List ℕ → Tuple → List Tuple
part_piece cols tuple = part tuple cols ∷ []

-- the input columns that these output columns of a projection come from
abbrev pub sources : List ℕ → List ℕ → List ℕ
sources cols to = map (slice_index cols) to

-- every tuple that fits has these columns
abbrev pub HaveColumns : (Tuple → Bool) → List ℕ → Type 0
HaveColumns fits cols = (tuple : Tuple) → IsTrue (fits tuple) → All (λ c. c < length tuple) cols

-- whatever is made of a tuple has in the columns `to` the values that the tuple has in the columns `from`
abbrev pub PiecesCarry : (Tuple → Bool) → (Tuple → List Tuple) → List ℕ → List ℕ → Type 0
PiecesCarry fits piece from to =
    (tuple : Tuple) → IsTrue (fits tuple) → All (λ made. part made to ≡ part tuple from) (piece tuple)

-- at most one tuple is made of each
abbrev pub AreSingle : (Tuple → Bool) → (Tuple → List Tuple) → Type 0
AreSingle fits piece = (tuple : Tuple) → IsTrue (fits tuple) → length (piece tuple) ≤ 1
