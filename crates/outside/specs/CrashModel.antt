-- What a crash may leave of a disk, told by what was synced last and by the ranges written since.
--
-- `crash_laws` proves that the events of a history, one by one (`Crashes`), leave just this. It would fail if a torn
-- write could touch a byte outside its range, or take bytes off the file; if writes were left only in their order, only
-- whole, or only by a front; if a sync kept an older image; if the range of a write that stopped were left out, or one
-- from before the sync kept. With a write that begins past the end of the file it may be false, and so it is said of
-- histories without.
use Rattle.std.specs.Prelude.{◌≡◌, ◌≤◌, ◌<◌, ◌+◌, ◌⊎◌, ℕ, max, List, [], ◌∷◌, length, take, slice_index, Bool, true, false, Option, Some, None}
use Rattle.std.specs.List.{All, before_last, after_last, filter_map}
use Rattle.outside.specs.History.{Event, written, stopped, synced, DiskHistory, replay}

-- the bytes of a file from start up to end, but not the one at end
pub record Range : Type 0 where
  pub start : ℕ
  pub end : ℕ

-- so many bytes at this place
abbrev pub range_at : ℕ → ℕ → Range
range_at at count = record { start = at; end = at + count }

-- the place lies outside of the range
abbrev pub IsOutside : ℕ → Range → Type 0
IsOutside place range = (place < range.start) ⊎ (range.end ≤ place)

-- the furthest end of the ranges
abbrev pub furthest_end : List Range → ℕ
furthest_end [] = 0
furthest_end (range ∷ ranges) = max range.end (furthest_end ranges)

-- where this was synced last and these ranges were written since, a crash may leave the image: it is at least as long
-- as what was synced, and at most as long as the greater of that and the furthest end of a range; each byte below the
-- synced length and outside all ranges is as synced; and all other bytes are any bytes
pub record IsLeft (synced : List ℕ) (ranges : List Range) (image : List ℕ) : Type 0 where
  pub no_shorter : length synced ≤ length image
  pub no_longer : length image ≤ max (length synced) (furthest_end ranges)
  pub as_synced : (place : ℕ) → place < length synced → All (IsOutside place) ranges →
      slice_index image place ≡ slice_index synced place

-- the event is a sync
abbrev pub is_sync : Event → Bool
is_sync (written at bytes) = false
is_sync (stopped at bytes torn) = false
is_sync synced = true

-- the range of a write, or of a write that the disk stopped at
abbrev pub range_of : Event → Option Range
range_of (written at bytes) = Some (range_at at (length bytes))
range_of (stopped at bytes torn) = Some (range_at at (length bytes))
range_of synced = None

-- what was synced last: the file as it read at the last sync, or the first content where there was none
abbrev pub synced_of : DiskHistory → List ℕ
synced_of history = replay history.first (before_last is_sync history.events)

-- the ranges written since, in their order
abbrev pub ranges_since : DiskHistory → List Range
ranges_since history = filter_map range_of (after_last is_sync history.events)

-- the history up to a moment
abbrev pub up_to : DiskHistory → ℕ → DiskHistory
up_to history moment = record history { events = take moment history.events }
