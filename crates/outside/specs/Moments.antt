-- Calls of a disk, one after the other: laws over states, which any caller may cite.
use Rattle.std.specs.Prelude.{◌≡◌, ◌≤◌, ◌⊎◌, ℕ, List, IsTrue, refl, Result, Ok, Err, OnOk, OnErr}
use Rattle.std.proofs.Common.{◌∙◌, subst, sym, arith, inl, inr, ⊎_elim}
use Rattle.std.proofs.lemmas.Bool.{cases_lt}
use Rattle.outside.specs.Counts.{Rose}
use Rattle.outside.specs.Images.{Torn, Each, SameImages}
use Rattle.outside.specs.Disk.{DiskState, Elapses, Ticks, Keeps, Syncs, Tears, IsSettled, AtEachMoment, LeavesNothingNew, Spares, OnlyReads}
use Rattle.outside.specs.Passing.{PassesOver}

pub same_images : (images : List ℕ → Type 0) → SameImages images images
same_images images image = ((λ it. it), (λ it. it))

-- Time.

-- no call
pub no_time : (disk : DiskState) → Elapses disk disk
no_time disk = record {
  honest = refl;
  faults = omega arith;
  later = λ _. omega arith;
  kept = λ _ moment _. same_images (disk.left_at moment);
}

-- calls and then more
pub time_on : (one two three : DiskState) → Elapses one two → Elapses two three → Elapses one three
time_on one two three first second = record {
  honest = second.honest ∙ first.honest;
  faults = omega (arith, first.faults, second.faults);
  later = λ is. omega (arith, first.later is, second.later (first.honest ∙ is));
  kept = λ is moment le image.
      let le_two : moment ≤ two.clock = omega (arith, first.later is) in
      let still = first.honest ∙ is in (
        (λ was. (second.kept still moment le_two image).0 ((first.kept is moment le image).0 was)),
        (λ now. (first.kept is moment le image).1 ((second.kept still moment le_two image).1 now)),
      );
}

-- a count that rose later has risen
pub rose_later : (one two three : ℕ) → one ≤ two → Rose two three → Rose one three
rose_later one two three later rose = omega (arith, rose)

-- and one that rose earlier has risen
pub rose_earlier : (one two three : ℕ) → two ≤ three → Rose one two → Rose one three
rose_earlier one two three later rose = omega (arith, rose)

-- Facts of each image.

-- what holds of each image over one span of time, and over the next, holds over both
pub each_on : (Fact : List ℕ → Type 0) (one two three : DiskState) → Elapses one two → Elapses two three
    → AtEachMoment one two Fact → AtEachMoment two three Fact → AtEachMoment one three Fact
each_on Fact one two three earlier later first second is image left =
    let still = earlier.honest ∙ is in
    elim (cases_lt two.clock left.0) [
      | inl past ↦ second still image (left.0, omega arith, left.2, left.3)
      | inr le ↦ first is image (left.0, left.1, le, (later.kept still left.0 le image).1 left.3)
    ]

-- at one moment alone each image has the fact that each of now has
pub each_now : (Fact : List ℕ → Type 0) (disk : DiskState) → (IsTrue disk.honest → Each disk.may_leave Fact)
    → AtEachMoment disk disk Fact
each_now Fact disk each is image left =
    let now : left.0 ≡ disk.clock = omega (arith, left.1, left.2) in
    each is image ((disk.left_now is image).0 (subst (λ (m : ℕ). disk.left_at m image) now left.3))

-- over one call each image has the fact that each had before and each has after it
pub each_tick : (Fact : List ℕ → Type 0) (old new : DiskState) → Ticks old new
    → (IsTrue old.honest → Each old.may_leave Fact) → (IsTrue old.honest → Each new.may_leave Fact)
    → AtEachMoment old new Fact
each_tick Fact old new ticks before after is image left =
    elim (cases_lt old.clock left.0) [
      | inl past ↦
          let at_end : left.0 ≡ new.clock = omega (arith, ticks.by_one is, left.1, left.2) in
          after is image ((new.left_now (ticks.elapses.honest ∙ is) image).0
          (subst (λ (m : ℕ). new.left_at m image) at_end left.3))
      | inr le ↦
          let at_start : left.0 ≡ old.clock = omega (arith, left.1) in
          before is image ((old.left_now is image).0 ((ticks.elapses.kept is old.clock (omega arith) image).1
          (subst (λ (m : ℕ). new.left_at m image) at_start left.3)))
    ]

-- at the last moment each image has the fact
pub at_end : (Fact : List ℕ → Type 0) (old new : DiskState) → Elapses old new → AtEachMoment old new Fact
    → IsTrue old.honest → Each new.may_leave Fact
at_end Fact old new elapses each is image left =
    each is image (new.clock, elapses.later is, omega arith, (new.left_now (elapses.honest ∙ is) image).1 left)

-- a weaker fact
pub weaker : (Strong Weak : List ℕ → Type 0) (old new : DiskState) → ((image : List ℕ) → Strong image → Weak image)
    → AtEachMoment old new Strong → AtEachMoment old new Weak
weaker Strong Weak old new so each is image left = so image (each is image left)

-- a fact of what a read gives is one of each image, where nothing is pending
pub each_settled : (Fact : List ℕ → Type 0) (disk : DiskState) → IsSettled disk → Fact disk.file
    → Each disk.may_leave Fact
each_settled Fact disk settled fact image left = subst Fact (sym (settled image left)) fact

-- Images that pass over from one fact to another.

module _ (Before After : List ℕ → Type 0) where
  -- over one call: each image before and after it has one of the two facts, and what it leaves could be left before, or
  -- there was an image with the first
  pub one_call : (old new : DiskState) → IsTrue old.honest → Ticks old new
      → Each old.may_leave (λ image. Before image ⊎ After image)
      → Each new.may_leave (λ image. Before image ⊎ After image)
      → Each new.may_leave old.may_leave ⊎ ((image : List ℕ) × old.may_leave image × Before image)
      → PassesOver Before After old new
  one_call old new is ticks had has step = record {
    either = each_tick (λ image. Before image ⊎ After image) old new ticks (λ _. had) (λ _. has) is;
    ordered = λ earlier later from le to.
        elim (cases_lt earlier later) [
          | inr ge ↦
              let same : later ≡ earlier = omega arith in
              inl (λ image left. subst (λ (m : ℕ). new.left_at m image) same left)
          | inl past ↦
              let at_start : old.clock ≡ earlier = omega (arith, ticks.by_one is) in
              let at_last : later ≡ new.clock = omega (arith, ticks.by_one is) in
              let still = ticks.elapses.honest ∙ is in
              let back : (image : List ℕ) → old.may_leave image → new.left_at earlier image = λ image it.
              subst (λ (m : ℕ). new.left_at m image) at_start
              ((ticks.elapses.kept is old.clock (omega arith) image).0 ((old.left_now is image).1 it)) in
              elim step [
                | inl fewer ↦ inl (λ image left. back image (fewer image
                    ((new.left_now still image).0 (subst (λ (m : ℕ). new.left_at m image) at_last left))))
                | inr some ↦ inr (some.0, back some.0 some.1, some.2)
              ]
        ];
  }

  -- over one span of time and then another
  pub pass_on : (one two three : DiskState) → IsTrue one.honest → Elapses one two → Elapses two three
      → PassesOver Before After one two → PassesOver Before After two three → PassesOver Before After one three
  pass_on one two three is earlier later first second =
      let still = earlier.honest ∙ is in
      let kept : (m : ℕ) → m ≤ two.clock → SameImages (two.left_at m) (three.left_at m) = later.kept still in
      let before_two : one.clock ≤ two.clock = earlier.later is in
      let before_three : two.clock ≤ three.clock = later.later still in
      record {
        either = each_on (λ image. Before image ⊎ After image) one two three earlier later (λ _. first.either)
            (λ _. second.either) is;
        ordered = λ u v from le to.
            elim (cases_lt two.clock u) [
              | inl past ↦ second.ordered u v (omega arith) le to
              | inr u_le ↦ elim (cases_lt two.clock v) [
                | inl past ↦ elim (first.ordered u two.clock from u_le (omega arith)) [
                  | inl fewer ↦ elim (second.ordered two.clock v (omega arith) (omega arith) to) [
                    | inl fewer_still ↦ inl (λ image left. (kept u u_le image).0
                        (fewer image ((kept two.clock (omega arith) image).1 (fewer_still image left))))
                    | inr before ↦ inr (
                      before.0,
                      (kept u u_le before.0).0
                          (fewer before.0 ((kept two.clock (omega arith) before.0).1 before.1)),
                      before.2,
                    )
                  ]
                  | inr before ↦ inr (before.0, (kept u u_le before.0).0 before.1, before.2)
                ]
                | inr v_le ↦ elim (first.ordered u v from le v_le) [
                  | inl fewer ↦ inl (λ image left. (kept u u_le image).0 (fewer image ((kept v v_le image).1 left)))
                  | inr before ↦ inr (before.0, (kept u u_le before.0).0 before.1, before.2)
                ]
              ]
            ];
      }

-- what holds of the images as they pass over holds in other words
pub in_words : (Before After First Second : List ℕ → Type 0) (old new : DiskState)
    → ((image : List ℕ) → Before image → First image) → ((image : List ℕ) → After image → First image ⊎ Second image)
    → PassesOver Before After old new → PassesOver First Second old new
in_words Before After First Second old new early late passes = record {
  either = λ image left. ⊎_elim (λ before. inl (early image before)) (late image) (passes.either image left);
  ordered = λ u v from le to. ⊎_elim inl (λ before. inr (before.0, before.1, early before.0 before.2))
      (passes.ordered u v from le to);
}

-- a write to a settled file leaves it as it was, or torn
pub torn_call : (at count : ℕ) (old new : DiskState) → IsTrue old.honest → Ticks old new → IsSettled old
    → Tears at count old new → PassesOver (λ image. image ≡ old.file) (Torn at count old.file) old new
torn_call at count old new is ticks settled tears =
    let torn : (image : List ℕ) → new.may_leave image → Torn at count old.file image = λ image it.
    let from = tears is image it in subst (λ (f : List ℕ). Torn at count f image) (settled from.0 from.1) from.2 in
    one_call (λ image. image ≡ old.file) (Torn at count old.file) old new is ticks (λ image it. inl (settled image it))
    (λ image it. inr (torn image it)) (inr (old.file, old.reads_image is, refl))

-- a call that leaves only what could be left before
pub same_call : (Before After : List ℕ → Type 0) (old new : DiskState) → IsTrue old.honest → Ticks old new
    → Each old.may_leave (λ image. Before image ⊎ After image) → Each new.may_leave old.may_leave
    → PassesOver Before After old new
same_call Before After old new is ticks had fewer = one_call Before After old new is ticks had
    (λ image it. had image (fewer image it)) (inl fewer)

-- a sync leaves only what could be left before
pub sync_leaves : {E : Type 0} (result : Result (Unit {0}) E) (old new : DiskState) → IsTrue old.honest
    → OnOk result (Syncs old new) → OnErr result (Keeps old new) → Each new.may_leave old.may_leave
sync_leaves (Ok u) old new is syncs keeps = λ image it. subst old.may_leave
    (sym (syncs.settled is image it ∙ syncs.file is)) (old.reads_image is)
sync_leaves (Err e) old new is syncs keeps = λ image it. (keeps.images is image).1 it

-- what is safe stays safe where nothing is written
pub synced_still : (one two three : DiskState) → Elapses one two → Syncs one two → Keeps two three → Syncs one three
synced_still one two three earlier syncs keeps = record {
  file = λ is. keeps.file (earlier.honest ∙ is) ∙ syncs.file is;
  settled = λ is image left. let still = earlier.honest ∙ is in syncs.settled is image
      ((keeps.images still image).1 left) ∙ sym (keeps.file still);
}

-- Nothing new.

-- images that pass over from none leave nothing new, and the other way round
pub passed : (old new : DiskState) → (IsTrue old.honest → PassesOver (λ _. ⊥) old.may_leave old new)
    → LeavesNothingNew old new
passed old new passes = record {
  each = λ is image it. ⊎_elim (λ none. absurd none) (λ was. was) ((passes is).either image it);
  fewer = λ is earlier later from le to image it. ⊎_elim (λ fewer. fewer image it) (λ none. absurd none.2)
      ((passes is).ordered earlier later from le to);
}

pub passing : (old new : DiskState) → LeavesNothingNew old new → IsTrue old.honest
    → PassesOver (λ _. ⊥) old.may_leave old new
passing old new nothing is = record {
  either = λ image it. inr (nothing.each is image it);
  ordered = λ earlier later from le to. inl (nothing.fewer is earlier later from le to);
}

-- by a call that leaves only what could be left before
pub nothing_new : (old new : DiskState) → Ticks old new → (IsTrue old.honest → Each new.may_leave old.may_leave)
    → LeavesNothingNew old new
nothing_new old new ticks fewer = passed old new (λ is. same_call (λ _. ⊥) old.may_leave old new is ticks
    (λ image it. inr it) (fewer is))

-- by one span of time and then another
pub nothing_new_on : (one two three : DiskState) → Elapses one two → Elapses two three → LeavesNothingNew one two
    → LeavesNothingNew two three → LeavesNothingNew one three
nothing_new_on one two three earlier later first second =
    passed one three (λ is.
    pass_on (λ _. ⊥) one.may_leave one two three is earlier later (passing one two first is)
    (in_words (λ _. ⊥) two.may_leave (λ _. ⊥) one.may_leave two three (λ image none. none)
    (λ image it. inr (at_end one.may_leave one two earlier first.each is image it))
    (passing two three second (earlier.honest ∙ is))))

-- by no call
pub nothing_new_yet : (disk : DiskState) → LeavesNothingNew disk disk
nothing_new_yet disk = record {
  each = each_now disk.may_leave disk (λ _ image it. it);
  fewer = λ is earlier later from le to image left.
      let same : later ≡ earlier = omega arith in
      subst (λ (m : ℕ). disk.left_at m image) same left;
}

-- Reads.

-- no read
pub no_read : (disk : DiskState) → OnlyReads disk disk
no_read disk = record {
  size = refl;
  elapses = no_time disk;
  keeps = record { file = λ _. refl; images = λ _. same_images disk.may_leave };
  nothing_new = nothing_new_yet disk;
}

-- one read
pub one_read : (old new : DiskState) → new.size ≡ old.size → Keeps old new → Ticks old new → OnlyReads old new
one_read old new size keeps ticks = record {
  size = size;
  elapses = ticks.elapses;
  keeps = keeps;
  nothing_new = nothing_new old new ticks (λ is image it. (keeps.images is image).1 it);
}

-- where nothing was written once and then again, nothing was written
pub keeps_on : (one two three : DiskState) → Elapses one two → Keeps one two → Keeps two three → Keeps one three
keeps_on one two three earlier first second = record {
  file = λ is. second.file (earlier.honest ∙ is) ∙ first.file is;
  images = λ is image. let still = earlier.honest ∙ is in (
    (λ was. (second.images still image).0 ((first.images is image).0 was)),
    (λ now. (first.images is image).1 ((second.images still image).1 now)),
  );
}

-- reads and then more reads
pub read_on : (one two three : DiskState) → OnlyReads one two → OnlyReads two three → OnlyReads one three
read_on one two three first second = record {
  size = second.size ∙ first.size;
  elapses = time_on one two three first.elapses second.elapses;
  keeps = keeps_on one two three first.elapses first.keeps second.keeps;
  nothing_new = nothing_new_on one two three first.elapses second.elapses first.nothing_new second.nothing_new;
}

-- and once more
pub read_three : (one two three four : DiskState) → OnlyReads one two → OnlyReads two three → OnlyReads three four
    → OnlyReads one four
read_three one two three four first second third = read_on one three four (read_on one two three first second) third

-- a disk that is only read is spared
pub reads_spare : (old new : DiskState) → OnlyReads old new → Spares old new
reads_spare old new reads = record { barrier = inl reads.keeps; nothing_new = reads.nothing_new }

-- and so is one that was spared before
pub spares_on : (one two three : DiskState) → Elapses one two → Spares one two → OnlyReads two three → Spares one three
spares_on one two three earlier spares reads = record {
  barrier = ⊎_elim (λ keeps. inl (keeps_on one two three earlier keeps reads.keeps))
      (λ syncs. inr (synced_still one two three earlier syncs reads.keeps)) spares.barrier;
  nothing_new = nothing_new_on one two three earlier reads.elapses spares.nothing_new reads.nothing_new;
}
