-- Entries as they are kept: sorted runs, one behind the other.
use Rattle.std.specs.Prelude.{◌≡◌, ℕ, zero, suc, ◌+◌, ◌<◌, ◌≤◌, List, [], ◌∷◌, length, map, replicate}
use Rattle.std.specs.Prelude.{Bool, true, false, Option, MatchOption, slice_index, slice_index_or}
use Rattle.std.specs.List.{count_by, flat_map, HoldsAt}
use Rattle.std.specs.List.Sorted.{IsSortedWithin}
use Rattle.std.specs.Ordering.{is_lt}
use Rattle.tuple_schema.specs.declared.value.Value.{Value}
use Rattle.tuple_sets.specs.declared.entry.Entry.{Entry}
use Rattle.tuple_sets.specs.Bags.{same}
use Rattle.tuple_sets.specs.Order.{tuple_cmp}

-- the first entry's tuple comes before the second's
abbrev pub is_before : Entry → Entry → Bool
is_before d e = is_lt (tuple_cmp d.tuple e.tuple)

-- where a run starts: at the end of the one before it, and the first at 0
abbrev pub start_of : List ℕ → ℕ → ℕ
start_of ends run = slice_index (0 ∷ ends) run

-- the ends cut the entries into runs, each of which is sorted
pub record IsRuns (entries : List Entry) (ends : List ℕ) : Type 0 where
  pub rising : (j k : ℕ) → j ≤ k → k ≤ length ends → start_of ends j ≤ start_of ends k
  pub whole : start_of ends (length ends) ≡ length entries
  pub sorted : (k : ℕ) → k < length ends → IsSortedWithin is_before entries (start_of ends k) (start_of ends (k + 1))

-- the entry has the tuple
abbrev pub is_for : List Value → Entry → Bool
is_for tuple entry = same tuple entry.tuple

-- no entry has the tuple
abbrev pub Lacks : List Entry → List Value → Type 0
Lacks entries tuple = (k : ℕ) (d : Entry) → k < length entries → is_for tuple (slice_index_or entries k d) ≡ false

-- the entry at that place has the tuple
abbrev pub IsAt : List Entry → List Value → ℕ → Type 0
IsAt entries tuple place = (place < length entries) × HoldsAt (λ e. is_for tuple e ≡ true) entries place

-- the answer is the place of an entry that has the tuple, or that none has it
abbrev pub Finds : List Entry → List Value → Option ℕ → Type 0
Finds entries tuple found = MatchOption found (Lacks entries tuple) (IsAt entries tuple)

-- no two entries have one tuple
abbrev pub IsUnique : List Entry → Type 0
IsUnique entries = (tuple : List Value) → count_by (is_for tuple) entries ≤ 1

-- the count of the entry at that place
abbrev pub count_at : List Entry → ℕ → ℕ
count_at entries place = slice_index (map (λ e. e.count) entries) place

-- the entries, of which the one at that place has that count
abbrev pub with_count : List Entry → ℕ → ℕ → List Entry
with_count [] place count = []
with_count (e ∷ es) zero count = record { tuple = e.tuple; count = count } ∷ es
with_count (e ∷ es) (suc place) count = e ∷ with_count es place count

-- the tuples, each as often as its entry counts
abbrev pub tuples_of : List Entry → List (List Value)
tuples_of entries = flat_map (λ e. replicate e.count e.tuple) entries
