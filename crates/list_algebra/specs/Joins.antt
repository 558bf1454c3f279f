-- What joining two lists makes. The right list stands by, and a piece is made of each left tuple.
use Rattle.std.specs.Prelude.{ℕ, zero, suc, ◌==◌, List, [], ◌∷◌, ◌++◌, length, map, Bool, true, false, not, ◌&&◌}
use Rattle.std.specs.List.{filter, list_all, list_any}
use Rattle.tuple_schema.specs.declared.value.Value.{Value}
use Rattle.tuple_schema.specs.declared.value.Value.TheVariants as value
use Rattle.tuple_schema.specs.Tuples.{part}
use Rattle.list_algebra.specs.Bags.{Tuple, same}
use Rattle.list_algebra.specs.Outputs.{piecewise}

-- the numbers below this one, ascending
unfoldable pub below : ℕ → List ℕ
below zero = []
below (suc n) = below n ++ n ∷ []

-- the places of so many columns that are not among these
abbrev pub others : ℕ → List ℕ → List ℕ
others count cols = filter (λ place. not (list_any (λ c. c == place) cols)) (below count)

abbrev pub is_given : Value → Bool
is_given value.Null = false
is_given _ = true

-- a left tuple and a right one have equal values in their join columns, none of which is Null: Null equals nothing
abbrev pub agree : List ℕ → List ℕ → Tuple → Tuple → Bool
agree cols_left cols_right left right =
    list_all is_given (part left cols_left) && same (part left cols_left) (part right cols_right)

-- the right tuples that agree with a left one, in their order
abbrev pub matches : List ℕ → List ℕ → List Tuple → Tuple → List Tuple
matches cols_left cols_right rights left = filter (agree cols_left cols_right left) rights

-- a left tuple, and a right one's values at these places behind it
abbrev pub together : List ℕ → Tuple → Tuple → Tuple
together rest left right = left ++ part right rest

-- the piece of a join: the left tuple with each right one that agrees
abbrev pub join_piece : List ℕ → List ℕ → List ℕ → List Tuple → Tuple → List Tuple
join_piece cols_left cols_right rest rights left = map (together rest left) (matches cols_left cols_right rights left)

-- so many Nulls
unfoldable pub nulls : ℕ → Tuple
nulls zero = []
nulls (suc n) = value.Null ∷ nulls n

-- the pieces of a lookup: as they are, but a left tuple of which there is none comes once, with Null behind it
abbrev pub or_nulls : List ℕ → Tuple → List Tuple → List Tuple
or_nulls rest left [] = (left ++ nulls (length rest)) ∷ []
or_nulls rest left (first ∷ others) = first ∷ others

abbrev pub lookup_piece : List ℕ → List ℕ → List ℕ → List Tuple → Tuple → List Tuple
lookup_piece cols_left cols_right rest rights left =
    or_nulls rest left (join_piece cols_left cols_right rest rights left)

-- for each left tuple in order, for each right tuple in order that agrees with it, both together
abbrev pub join : List ℕ → List ℕ → List ℕ → List Tuple → List Tuple → List Tuple
join cols_left cols_right rest rights lefts = piecewise (join_piece cols_left cols_right rest rights) lefts

-- the same, and a left tuple with which none agrees comes once, with Null behind it
abbrev pub lookup : List ℕ → List ℕ → List ℕ → List Tuple → List Tuple → List Tuple
lookup cols_left cols_right rest rights lefts = piecewise (lookup_piece cols_left cols_right rest rights) lefts
