-- What a crash may leave where nothing was written since the last sync, and where one range more was.
use Rattle.std.proofs.Common.{◌≡◌, ◌≤◌, ◌<◌, ◌-◌, ◌+◌, inl, inr, ℕ, max, min, List, [], ◌∷◌, ◌++◌, length, take, drop, get_or, Some, refl, sym, ◌∙◌, ap, subst, arith, length-append, length-drop}
use Rattle.std.proofs.lemmas.List.{length-take, get_or-take, get_or-drop, get_or_append_left, get_or-append_right, take_all, take-take, drop_all, drop-drop, ext_get_or}
use Rattle.std.proofs.lemmas.List.Elements.{All-pop, All-push, All-nil}
use Rattle.std.proofs.lemmas.Bool.{cases_lt}
use Rattle.std.specs.List.{All}
use Rattle.outside.specs.Disk.{overwritten}
use Rattle.outside.specs.Images.{Torn}
use Rattle.outside.specs.Crashes.{IsTornFrom}
use Rattle.outside.specs.CrashModel.{Range, range_at, IsOutside, furthest_end, IsLeft}
use Rattle.outside.proofs.CrashImages.{overwritten_torn}
use Rattle.outside.proofs.Histories.{length-overwritten}

furthest_end-append : (ranges : List Range) (range : Range)
    → furthest_end (ranges ++ range ∷ []) ≡ max (furthest_end ranges) range.end
furthest_end-append [] range = omega arith
furthest_end-append (first ∷ ranges) range = omega (arith, furthest_end-append ranges range)

-- where two files are the same in front of a place, or from a place on, so are their bytes there
module _ (old new : List ℕ) where
  abbrev IsSameAt : ℕ → Type 0
  IsSameAt place = get_or new place 0 ≡ get_or old place 0

  same_before : (place at : ℕ) → place < at → take at new ≡ take at old → IsSameAt place
  same_before place at lt same =
      sym (get_or-take at new place 0 lt)
      ∙ ap (λ (file : List ℕ). get_or file place 0) same
      ∙ get_or-take at old place 0 lt

  same_from : (place from : ℕ) → from ≤ place → drop from new ≡ drop from old → IsSameAt place
  same_from place from le same =
      let is : from + (place - from) ≡ place = omega arith in
      let there : IsSameAt (from + (place - from))
      = sym (get_or-drop from new (place - from) 0)
      ∙ ap (λ (file : List ℕ). get_or file (place - from) 0) same
      ∙ get_or-drop from old (place - from) 0 in
      subst IsSameAt is there

  -- what is the same from a place on is so further on
  same_further : (from further : ℕ) → from ≤ further → drop from new ≡ drop from old
      → drop further new ≡ drop further old
  same_further from further le same =
      let is : from + (further - from) ≡ further = omega arith in
      let there : drop (from + (further - from)) new ≡ drop (from + (further - from)) old
      = sym (drop-drop (further - from) from new)
      ∙ ap (drop (further - from)) same
      ∙ drop-drop (further - from) from old in
      subst (λ (k : ℕ). drop k new ≡ drop k old) is there

-- forwards: what a torn write makes of an image that may be left may be left with its range
pub torn_is_left : (synced : List ℕ) (ranges : List Range) (at count : ℕ) (earlier image : List ℕ)
    → IsLeft synced ranges earlier → Torn at count earlier image
    → IsLeft synced (ranges ++ range_at at count ∷ []) image
torn_is_left synced ranges at count earlier image left torn = record {
  no_shorter = omega arith;
  no_longer = omega (arith, furthest_end-append ranges (range_at at count));
  as_synced = λ place below outside.
      let range = range_at at count in
      let out = All-pop (IsOutside place) (ranges ++ range ∷ []) ranges (Some range) refl outside in
      let same : get_or image place 0 ≡ get_or earlier place 0 = elim out.1 [
        | inl lt ↦ same_before earlier image place at lt torn.before
        | inr le ↦ same_from earlier image place (at + count) le torn.after
      ] in
      same ∙ left.as_synced place below out.0;
}

-- what was synced is put back at so many places from this one on, as far as it goes, and all else is as in the old file
record IsPutBack (synced old : List ℕ) (at count : ℕ) (new : List ℕ) : Type 0 where
  before : take at old ≡ take at new
  after : drop (at + count) old ≡ drop (at + count) new
  long : length new ≡ length old
  back : (place : ℕ) → place < length synced → at ≤ place → place < at + count →
      get_or new place 0 ≡ get_or synced place 0

module _ (synced old : List ℕ) (at count : ℕ) (long : length synced ≤ length old) where
  -- what there is to be put back
  abbrev piece : List ℕ
  piece = take count (drop at synced)

  length-piece : length piece ≡ min count (length synced - at)
  length-piece = omega (arith, length-take count (drop at synced), length-drop at synced)

  piece_back : (place : ℕ) → place < length synced → at ≤ place → place < at + count
      → get_or (overwritten old at piece) place 0 ≡ get_or synced place 0
  piece_back place below from lt =
      let front : length (take at old) ≡ at = omega (arith, length-take at old) in
      let both : place < length (take at old ++ piece)
      = omega (arith, length-append (take at old) piece, length-piece) in
      let is : at + (place - at) ≡ place = omega arith in
      get_or_append_left (take at old ++ piece) (drop (at + length piece) old) 0 place both
      ∙ get_or-append_right (take at old) piece at place 0 front from
      ∙ get_or-take count (drop at synced) (place - at) 0 (omega arith)
      ∙ get_or-drop at synced (place - at) 0
      ∙ ap (λ (k : ℕ). get_or synced k 0) is

  put_back_within : at < length synced → IsPutBack synced old at count (overwritten old at piece)
  put_back_within within =
      let torn = overwritten_torn old at piece (omega arith) in
      let short : at + length piece ≤ at + count = omega (arith, length-piece) in
      record {
        before = sym torn.before;
        after = sym (same_further old (overwritten old at piece) (at + length piece) (at + count) short torn.after);
        long = omega (arith, length-overwritten old at piece, length-piece);
        back = piece_back;
      }

  put_back : (new : List ℕ) × IsPutBack synced old at count new
  put_back = elim (cases_lt at (length synced)) [
    | inl within ↦ (overwritten old at piece, put_back_within within)
    | inr past ↦
        (old, record { before = refl; after = refl; long = refl; back = λ place below from lt. absurd (omega arith) })
  ]

-- an image that reaches no further than this place, or a range's end, is the same behind the range if it is cut there
same_behind : (reach end : ℕ) (image : List ℕ)
    → length image ≤ max reach end → drop end (take reach image) ≡ drop end image
same_behind reach end image short = elim (cases_lt reach end) [
  | inl lt ↦
      drop_all end (take reach image) (omega (arith, length-take reach image)) ∙ sym (drop_all end image (omega arith))
  | inr le ↦ ap (drop end) (take_all reach image (omega arith))
]

-- backwards: an image that may be left with one range more comes from one that may be left without it, by a write that
-- was torn. That one is the image, cut as far as it may have reached before, with what was synced put back in the range
module _ (synced : List ℕ) (ranges : List Range) (at count : ℕ)
    (within : at ≤ max (length synced) (furthest_end ranges))
    (image : List ℕ) (left : IsLeft synced (ranges ++ range_at at count ∷ []) image) where
  abbrev reach : ℕ
  reach = max (length synced) (furthest_end ranges)

  abbrev cut : List ℕ
  cut = take reach image

  long : length image ≤ max reach (at + count)
  long = omega (arith, furthest_end-append ranges (range_at at count), left.no_longer)

  length-cut : length cut ≡ min reach (length image)
  length-cut = length-take reach image

  long_cut : length synced ≤ length cut
  long_cut = omega (arith, length-cut, left.no_shorter)

  earlier_torn : (earlier : List ℕ) → IsPutBack synced cut at count earlier → Torn at count earlier image
  earlier_torn earlier put = record {
    before = sym (take-take at reach image within) ∙ put.before;
    after = sym (same_behind reach (at + count) image long) ∙ put.after;
    no_shorter = omega (arith, length-cut);
    no_longer = omega (arith, length-cut, long);
  }

  cut_is_synced : (place : ℕ) → place < length synced
      → All (IsOutside place) ranges → IsOutside place (range_at at count)
      → get_or cut place 0 ≡ get_or synced place 0
  cut_is_synced place below outside out =
      get_or-take reach image place 0 (omega arith)
      ∙ left.as_synced place below (All-push (IsOutside place) ranges (range_at at count) outside out)

  earlier_is_synced : (earlier : List ℕ) → IsPutBack synced cut at count earlier
      → (place : ℕ) → place < length synced → All (IsOutside place) ranges
      → get_or earlier place 0 ≡ get_or synced place 0
  earlier_is_synced earlier put place below outside = elim (cases_lt place at) [
    | inl front ↦
        same_before cut earlier place at front (sym put.before) ∙ cut_is_synced place below outside (inl front)
    | inr from ↦ elim (cases_lt place (at + count)) [
      | inl lt ↦ put.back place below from lt
      | inr behind ↦
          same_from cut earlier place (at + count) behind (sym put.after)
          ∙ cut_is_synced place below outside (inr behind)
    ]
  ]

  earlier_left : (earlier : List ℕ) → IsPutBack synced cut at count earlier → IsLeft synced ranges earlier
  earlier_left earlier put = record {
    no_shorter = omega (arith, long_cut);
    no_longer = omega (arith, length-cut);
    as_synced = earlier_is_synced earlier put;
  }

  pub left_is_torn : IsTornFrom (IsLeft synced ranges) at count image
  left_is_torn =
      let put = put_back synced cut at count long_cut in
      (put.0, earlier_left put.0 put.1, earlier_torn put.0 put.1)

-- where nothing was written since, what was synced is left, and nothing else
pub left_is_synced : (synced image : List ℕ) → IsLeft synced [] image → image ≡ synced
left_is_synced synced image left =
    ext_get_or 0 image synced (omega arith) (λ place lt. left.as_synced place (omega arith) (All-nil (IsOutside place)))

pub synced_is_left : (synced image : List ℕ) → image ≡ synced → IsLeft synced [] image
synced_is_left synced image is = record {
  no_shorter = omega (arith, ap length is);
  no_longer = omega (arith, ap length is);
  as_synced = λ place below outside. ap (λ (file : List ℕ). get_or file place 0) is;
}
