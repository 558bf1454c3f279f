-- That the images of a history, made event by event, are those of which the disk model speaks.
use Rattle.std.proofs.Common.{◌≡◌, ◌≤◌, ◌↔◌, inl, inr, ℕ, zero, suc, max, List, [], ◌∷◌, ◌++◌, length, take, false, Option, Some, refl, sym, ◌∙◌, ap, subst, arith, append_assoc}
use Rattle.std.specs.List.{before_last, after_last, filter_map, cons_option}
use Rattle.std.proofs.lemmas.List.{append-nil}
use Rattle.std.proofs.lemmas.List.Elements.{filter_map-append}
use Rattle.outside.specs.Images.{Torn}
use Rattle.outside.specs.History.{Event, written, stopped, synced, DiskHistory, file_after, replay, BeginsWithin, AllBeginWithin}
use Rattle.outside.specs.Crashes.{IsTornFrom, may_leave_after, images_after, images_of, images_at}
use Rattle.outside.specs.CrashLaws.{content_is_image}
use Rattle.outside.specs.CrashModel.{Range, range_at, furthest_end, IsLeft, is_sync, range_of, synced_of, ranges_since, up_to}
use Rattle.outside.proofs.CrashImages.{overwritten_torn}
use Rattle.outside.proofs.CrashRanges.{torn_is_left, left_is_torn, left_is_synced, synced_is_left}
use Rattle.outside.proofs.Histories.{replay-append}
use Rattle.outside.proofs.LastSync.{before_last-append_yes, before_last-append_no, after_last-append_yes, after_last-append_no}

-- the images are the same
abbrev AreSame : (List ℕ → Type 0) → (List ℕ → Type 0) → Type 0
AreSame left right = (image : List ℕ) → left image ↔ right image

-- the last event makes the images of now from those before it
images_after-append : (file : List ℕ) (images : List ℕ → Type 0) (events : List Event) (event : Event)
    → images_after file images (events ++ event ∷ [])
    ≡ may_leave_after (replay file events) (images_after file images events) event
images_after-append file images [] event = refl
images_after-append file images (first ∷ events) event =
    images_after-append (file_after file first) (may_leave_after file images first) events event

-- where the images before a write are those left of some ranges, those that it may have torn have one range more
same_torn : (images : List ℕ → Type 0) (last : List ℕ) (ranges : List Range) (at count : ℕ)
    → at ≤ max (length last) (furthest_end ranges) → AreSame images (IsLeft last ranges)
    → AreSame (IsTornFrom images at count) (IsLeft last (ranges ++ range_at at count ∷ []))
same_torn images last ranges at count within same image = (
  (λ from. torn_is_left last ranges at count from.0 image ((same from.0).0 from.1) from.2),
  (λ left. let from = left_is_torn last ranges at count within image left in (from.0, (same from.0).1 from.1, from.2)),
)

module _ (first : List ℕ) where
  -- what the events may leave, one by one
  abbrev images : List Event → List ℕ → Type 0
  images events = images_after first (λ image. image ≡ first) events

  -- the file at the last sync, and the ranges since
  abbrev last : List Event → List ℕ
  last events = replay first (before_last is_sync events)

  abbrev ranges : List Event → List Range
  ranges events = filter_map range_of (after_last is_sync events)

  -- what the events may leave by the disk model
  abbrev model : List Event → List ℕ → Type 0
  model events = IsLeft (last events) (ranges events)

  -- the file as it reads is left
  file_left : (events : List Event) → AreSame (images events) (model events) → model events (replay first events)
  file_left events same = (same (replay first events)).0 (content_is_image (record { first = first; events = events }))

  -- and so no write begins past the furthest end
  within_reach : (events : List Event) (at : ℕ) → AreSame (images events) (model events)
      → at ≤ length (replay first events)
      → at ≤ max (length (last events)) (furthest_end (ranges events))
  within_reach events at same within = omega (arith, (file_left events same).no_longer)

  -- a sync as the last event leaves the file as it reads, and no range
  model-synced : (events : List Event) → model (events ++ synced ∷ []) ≡ IsLeft (replay first events) []
  model-synced events =
      ap (λ (before : List Event). IsLeft (replay first before) (ranges (events ++ synced ∷ [])))
      (before_last-append_yes is_sync events synced refl)
      ∙ ap (λ (since : List Event). IsLeft (replay first events) (filter_map range_of since))
      (after_last-append_yes is_sync events synced refl)

  -- a write as the last event is one range more
  model-written : (events : List Event) (event : Event) (range : Range)
      → is_sync event ≡ false → range_of event ≡ Some range
      → model (events ++ event ∷ []) ≡ IsLeft (last events) (ranges events ++ range ∷ [])
  model-written events event range no_sync is =
      let more : ranges (events ++ event ∷ []) ≡ ranges events ++ range ∷ []
      = ap (filter_map range_of) (after_last-append_no is_sync events event no_sync)
      ∙ filter_map-append range_of (after_last is_sync events) (event ∷ [])
      ∙ ap (λ (found : Option Range). ranges events ++ cons_option found []) is in
      ap (λ (before : List Event). IsLeft (replay first before) (ranges (events ++ event ∷ [])))
      (before_last-append_no is_sync events event no_sync)
      ∙ ap (IsLeft (last events)) more

  -- to write all of a range is one of the ways in which a write may be torn
  same_written : (events : List Event) (at : ℕ) (bytes : List ℕ) (right : List ℕ → Type 0)
      → at ≤ length (replay first events)
      → AreSame (IsTornFrom (images events) at (length bytes)) right
      → AreSame (may_leave_after (replay first events) (images events) (written at bytes)) right
  same_written events at bytes right within same image = (
    (λ left. elim left [
      | inl is ↦
          let whole = overwritten_torn (replay first events) at bytes within in
          (same image).0 (
            replay first events,
            content_is_image (record { first = first; events = events }),
            subst (Torn at (length bytes) (replay first events)) (sym is) whole,
          )
      | inr torn ↦ (same image).0 torn
    ]),
    (λ left. inr ((same image).1 left)),
  )

  torn_after : (events : List Event) (at count : ℕ) → AreSame (images events) (model events)
      → at ≤ length (replay first events)
      → AreSame (IsTornFrom (images events) at count) (IsLeft (last events) (ranges events ++ range_at at count ∷ []))
  torn_after events at count same within =
      same_torn (images events) (last events) (ranges events) at count (within_reach events at same within) same

  -- one event more
  same_after : (events : List Event) (event : Event) → AreSame (images events) (model events)
      → BeginsWithin (replay first events) event
      → AreSame (may_leave_after (replay first events) (images events) event) (model (events ++ event ∷ []))
  same_after events (written at bytes) same within =
      let range = range_at at (length bytes) in
      rw (model-written events (written at bytes) range refl refl) (
      same_written events at bytes (IsLeft (last events) (ranges events ++ range ∷ [])) within (
      torn_after events at (length bytes) same within))
  same_after events (stopped at bytes torn) same within =
      rw (model-written events (stopped at bytes torn) (range_at at (length bytes)) refl refl) (
      torn_after events at (length bytes) same within)
  same_after events synced same within =
      rw (model-synced events) (
      λ image. (synced_is_left (replay first events) image, left_is_synced (replay first events) image))

  -- the events that have come, and then the others one by one
  same_from : (done others : List Event) → AllBeginWithin (replay first done) others
      → AreSame (images done) (model done)
      → AreSame (images (done ++ others)) (model (done ++ others))
  same_from done [] within same =
      subst (λ (events : List Event). AreSame (images events) (model events)) (sym (append-nil done)) same
  same_from done (event ∷ others) within same =
      let after : AreSame (images (done ++ event ∷ [])) (model (done ++ event ∷ []))
      = subst (λ (left : List ℕ → Type 0). AreSame left (model (done ++ event ∷ [])))
      (sym (images_after-append first (λ image. image ≡ first) done event))
      (same_after done event same within.0) in
      let begins : AllBeginWithin (replay first (done ++ event ∷ [])) others
      = subst (λ (file : List ℕ). AllBeginWithin file others) (sym (replay-append first done event)) within.1 in
      subst (λ (events : List Event). AreSame (images events) (model events)) (append_assoc done (event ∷ []) others) (
      same_from (done ++ event ∷ []) others begins after)

-- an image may be left exactly where the disk model says so
pub same_as_model : (history : DiskHistory) → AllBeginWithin history.first history.events
    → (image : List ℕ) → images_of history image ↔ IsLeft (synced_of history) (ranges_since history) image
same_as_model history within =
    same_from history.first [] history.events within (
    λ image. (synced_is_left history.first image, left_is_synced history.first image))

within_until : (file : List ℕ) (events : List Event) (moment : ℕ)
    → AllBeginWithin file events → AllBeginWithin file (take moment events)
within_until file events zero within = tt
within_until file [] (suc moment) within = tt
within_until file (event ∷ events) (suc moment) within =
    (within.0, within_until (file_after file event) events moment within.1)

-- so it was at each moment
pub same_at_moment : (history : DiskHistory) → AllBeginWithin history.first history.events
    → (moment : ℕ) (image : List ℕ) → images_at history moment image
    ↔ IsLeft (synced_of (up_to history moment)) (ranges_since (up_to history moment)) image
same_at_moment history within moment =
    same_as_model (up_to history moment) (within_until history.first history.events moment within)
