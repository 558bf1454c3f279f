-- A small history, computed: what was synced last, which ranges were written since, and what a crash may leave.
use Rattle.std.proofs.Common.{◌≡◌, ◌<◌, slice_index, inl, inr, ℕ, zero, suc, [], ◌∷◌, refl, arith, lit≤, lit<}
use Rattle.std.specs.List.{All}
use Rattle.std.proofs.lemmas.List.Elements.{All-from_recursion, All-head}
use Rattle.outside.specs.History.{written, stopped, synced, DiskHistory, content, AllBeginWithin}
use Rattle.outside.specs.declared.stopping.Torn.TheVariants as torn
use Rattle.outside.specs.Crashes.{images_of}
use Rattle.outside.specs.CrashModel.{range_at, IsOutside, IsLeft, synced_of, ranges_since}
use Rattle.outside.proofs.CrashSteps.{same_as_model}

-- two bytes are written behind the first three, and all five synced; then one is written over the second byte, and a
-- write of two behind the last one is stopped
abbrev history : DiskHistory
history = record {
  first = 1 ∷ 2 ∷ 3 ∷ [];
  events = written 3 (4 ∷ 5 ∷ []) ∷ synced ∷ written 1 (7 ∷ []) ∷ stopped 5 (8 ∷ 9 ∷ []) torn.Nothing ∷ [];
}

content_is : content history ≡ 1 ∷ 7 ∷ 3 ∷ 4 ∷ 5 ∷ []
content_is = refl

synced_is : synced_of history ≡ 1 ∷ 2 ∷ 3 ∷ 4 ∷ 5 ∷ []
synced_is = refl

ranges_are : ranges_since history ≡ range_at 1 1 ∷ range_at 5 2 ∷ []
ranges_are = refl

-- before any sync it is the first content and all ranges that count
abbrev unsynced : DiskHistory
unsynced = record { first = 1 ∷ []; events = written 1 (2 ∷ []) ∷ written 0 (3 ∷ []) ∷ [] }

first_is : synced_of unsynced ≡ 1 ∷ []
first_is = refl

all_ranges : ranges_since unsynced ≡ range_at 1 1 ∷ range_at 0 1 ∷ []
all_ranges = refl

-- any byte in the first range is left, and any front of the stopped write
any_bytes_there : (place : ℕ) → place < 5 → All (IsOutside place) (range_at 1 1 ∷ range_at 5 2 ∷ []) →
    slice_index (1 ∷ 0 ∷ 3 ∷ 4 ∷ 5 ∷ 6 ∷ []) place ≡ slice_index (1 ∷ 2 ∷ 3 ∷ 4 ∷ 5 ∷ []) place
any_bytes_there zero below outside = refl
any_bytes_there (suc zero) below outside = elim (All-head (IsOutside 1) (range_at 1 1) (range_at 5 2 ∷ []) outside) [
  | inl lt ↦ absurd (omega arith)
  | inr le ↦ absurd (omega arith)
]
any_bytes_there (suc (suc zero)) below outside = refl
any_bytes_there (suc (suc (suc zero))) below outside = refl
any_bytes_there (suc (suc (suc (suc zero)))) below outside = refl
any_bytes_there (suc (suc (suc (suc (suc place))))) below outside = absurd (omega arith)

any_bytes : IsLeft (synced_of history) (ranges_since history) (1 ∷ 0 ∷ 3 ∷ 4 ∷ 5 ∷ 6 ∷ [])
any_bytes = record { no_shorter = lit≤ tt; no_longer = lit≤ tt; as_synced = any_bytes_there }

-- so one of the images made event by event is this one
any_bytes_image : images_of history (1 ∷ 0 ∷ 3 ∷ 4 ∷ 5 ∷ 6 ∷ [])
any_bytes_image =
    let within : AllBeginWithin history.first history.events = (lit≤ tt, (tt, (lit≤ tt, (lit≤ tt, tt)))) in
    (same_as_model history within (1 ∷ 0 ∷ 3 ∷ 4 ∷ 5 ∷ 6 ∷ [])).1 any_bytes

-- another byte outside of the ranges is not left
no_other_byte : IsLeft (synced_of history) (ranges_since history) (0 ∷ 2 ∷ 3 ∷ 4 ∷ 5 ∷ []) → ⊥
no_other_byte left =
    let outside : All (IsOutside 0) (ranges_since history)
    = All-from_recursion (IsOutside 0) (ranges_since history) (inl (lit< tt), (inl (lit< tt), tt)) in
    omega (arith, left.as_synced 0 (lit< tt) outside)

-- nor is a file shorter than what was synced, or longer than the furthest end
no_shorter_file : IsLeft (synced_of history) (ranges_since history) (1 ∷ 2 ∷ 3 ∷ 4 ∷ []) → ⊥
no_shorter_file left = omega (arith, left.no_shorter)

no_longer_file : IsLeft (synced_of history) (ranges_since history) (1 ∷ 2 ∷ 3 ∷ 4 ∷ 5 ∷ 6 ∷ 7 ∷ 8 ∷ []) → ⊥
no_longer_file left = omega (arith, left.no_longer)
