-- That nothing is lost, over one span of time and the next: laws which any caller may cite.
use Rattle.std.specs.Prelude.{◌≡◌, ◌≤◌, ℕ, List, IsTrue}
use Rattle.std.proofs.Common.{◌∙◌, subst, arith, inl, inr}
use Rattle.std.proofs.lemmas.Bool.{cases_lt}
use Rattle.outside.specs.Disk.{DiskState, Elapses, LeavesNothingNew}
use Rattle.commit_disk.specs.Crashes.{HasStill, Grows, LosesNothing}

-- an image has still what it has
pub still_itself : (text image : List ℕ) → HasStill text image image
still_itself text image = record { blocks = λ had there. there; ended = λ had there. there }

-- what has still what an image had that has still what another had
pub still_both : (text first second third : List ℕ) → HasStill text first second → HasStill text second third
    → HasStill text first third
still_both text first second third one two = record {
  blocks = λ had there. two.blocks had (one.blocks had there);
  ended = λ had there. two.ended had (one.ended had there);
}

-- within one moment nothing is lost
pub grows_now : (text : List ℕ) (disk : DiskState) → Grows text disk disk
grows_now text disk = record {
  keeps = λ earlier later from le to image it.
      let same : later ≡ earlier = omega arith in
      (image, subst (λ (m : ℕ). disk.left_at m image) same it, still_itself text image);
}

-- nor where nothing new is left
pub grows_still : (text : List ℕ) (old new : DiskState) → IsTrue old.honest → LeavesNothingNew old new
    → Grows text old new
grows_still text old new is nothing = record {
  keeps = λ earlier later from le to image it.
      (image, nothing.fewer is earlier later from le to image it, still_itself text image);
}

-- over one span of time and then another
pub grows_on : (text : List ℕ) (one two three : DiskState) → IsTrue one.honest → Elapses one two → Elapses two three
    → Grows text one two → Grows text two three → Grows text one three
grows_on text one two three is earlier later first second =
    let still = earlier.honest ∙ is in
    let before_two : one.clock ≤ two.clock = earlier.later is in
    let before_three : two.clock ≤ three.clock = later.later still in
    record {
      keeps = λ u v from le to image it.
          elim (cases_lt two.clock u) [
            | inl past ↦ second.keeps u v (omega arith) le to image it
            | inr u_le ↦ elim (cases_lt two.clock v) [
              | inl past ↦
                  let at = second.keeps two.clock v (omega arith) (omega arith) to image it in
                  let was = first.keeps u two.clock from u_le (omega arith) at.0
                  ((later.kept still two.clock (omega arith) at.0).1 at.1) in
                  (was.0, (later.kept still u u_le was.0).0 was.1, still_both text was.0 at.0 image was.2 at.2)
              | inr v_le ↦
                  let was = first.keeps u v from le v_le image ((later.kept still v v_le image).1 it) in
                  (was.0, (later.kept still u u_le was.0).0 was.1, was.2)
            ]
          ];
    }

-- where nothing new is left, no table is lost
pub nothing_lost : (old new : DiskState) → LeavesNothingNew old new → LosesNothing old new
nothing_lost old new nothing = record {
  blocks = λ text blocks each is image left. each image (nothing.each is image left);
  ended = λ text blocks each is image left. each image (nothing.each is image left);
}
