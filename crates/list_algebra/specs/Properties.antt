-- Properties of a function of a list of tuples. Each is over all lists whose tuples fit.
use Rattle.std.specs.Prelude.{◌≡◌, ◌≢◌, ◌⊎◌, ℕ, ◌<◌, List, [], ◌∷◌, map, length, slice_get, All, Bool, not, IsTrue, Some, ⊤}
use Rattle.std.specs.List.{filter, list_all, dedup, IsDistinct}
use Rattle.tuple_schema.specs.Tuples.{part}
use Rattle.list_algebra.specs.Bags.{Tuple, same, multiplicity, without, IsPartOf, SameBag}

-- every tuple of the list fits
abbrev pub AllFit : (Tuple → Bool) → List Tuple → Type 0
AllFit fits rows = IsTrue (list_all fits rows)

-- the tuple at that place contributes to an output tuple: without it, that one comes another number of times
abbrev pub Contributes : (List Tuple → List Tuple) → List Tuple → ℕ → Tuple → Type 0
Contributes out rows place made = multiplicity made (out rows) ≢ multiplicity made (out (without place rows))

-- whatever contributes to an output tuple has in the columns `from` the values that this has in the columns `to`
abbrev pub Carries : (Tuple → Bool) → (List Tuple → List Tuple) → List ℕ → List ℕ → Type 0
Carries fits out from to =
    (rows : List Tuple) (place : ℕ) (tuple made : Tuple) → AllFit fits rows → slice_get rows place ≡ Some tuple
    → Contributes out rows place made → part tuple from ≡ part made to

-- the tuples whose values in the columns are not in the set
abbrev pub outside : List ℕ → (Tuple → Bool) → List Tuple → List Tuple
outside cols set rows = filter (λ t. not (set (part t cols))) rows

-- outside any set of values, the output is the same list where the inputs whose values are in the set are left out
abbrev pub CarriesLists : (Tuple → Bool) → (List Tuple → List Tuple) → List ℕ → List ℕ → Type 0
CarriesLists fits out from to =
    (set : Tuple → Bool) (rows : List Tuple) → AllFit fits rows
    → outside to set (out rows) ≡ outside to set (out (outside from set rows))

-- without a tuple of the input, the output lacks one tuple at most
abbrev pub IsMapToOne : (Tuple → Bool) → (List Tuple → List Tuple) → Type 0
IsMapToOne fits out =
    (rows : List Tuple) (place : ℕ) → AllFit fits rows → place < length rows
    → (gone : Tuple) × IsPartOf (out rows) (gone ∷ out (without place rows))

-- no tuple of the list has these values in the columns
abbrev pub Lacks : List ℕ → Tuple → List Tuple → Type 0
Lacks cols values rows = All (λ t. part t cols ≢ values) rows

-- where no input has the values in the columns `from`, no output has them in the columns `to`
abbrev pub Drives : (Tuple → Bool) → (List Tuple → List Tuple) → List ℕ → List ℕ → Type 0
Drives fits out from to = (values : Tuple) (rows : List Tuple) → AllFit fits rows → Lacks from values rows
    → Lacks to values (out rows)

-- the tuples' values in the columns, in their order, with adjacent repeats as one
abbrev pub succession : List ℕ → List Tuple → List Tuple
succession cols rows = dedup same (map (λ t. part t cols) rows)

-- tuples that agree on the columns are adjacent: in the succession nothing comes twice
abbrev pub IsClustered : List ℕ → List Tuple → Type 0
IsClustered cols rows = IsDistinct same (succession cols rows)

-- the first list is the second with some tuples left out
abbrev pub IsSubsequence : List Tuple → List Tuple → Type 0
IsSubsequence [] ys = ⊤
IsSubsequence (x ∷ xs) [] = ⊥
IsSubsequence (x ∷ xs) (y ∷ ys) = ((x ≡ y) × IsSubsequence xs ys) ⊎ IsSubsequence (x ∷ xs) ys

-- an input clustered by `from` gives an output clustered by `to`, whose succession is a subsequence of the input's
abbrev pub IsSuffixSafe : (Tuple → Bool) → (List Tuple → List Tuple) → List ℕ → List ℕ → Type 0
IsSuffixSafe fits out from to =
    (rows : List Tuple) → AllFit fits rows → IsClustered from rows
    → IsClustered to (out rows) × IsSubsequence (succession to (out rows)) (succession from rows)

-- inputs that are the same bag give outputs that are the same bag
abbrev pub IsOrderFree : (Tuple → Bool) → (List Tuple → List Tuple) → Type 0
IsOrderFree fits out =
    (xs ys : List Tuple) → AllFit fits xs → AllFit fits ys → SameBag xs ys → SameBag (out xs) (out ys)
