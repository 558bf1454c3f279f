-- How images pass over from one fact to another, call by call.
use Rattle.std.specs.Prelude.{◌≤◌, ◌⊎◌, ℕ, List}
use Rattle.outside.specs.Images.{Each}
use Rattle.outside.specs.Disk.{DiskState, LeftBetween}

-- From the one state to the other the images pass over from one fact to another: each has one of the two; and of two
-- moments the later leaves only what the earlier may leave, or the earlier may leave an image with the first fact.
pub record PassesOver (Before After : List ℕ → Type 0) (old new : DiskState) : Type 0 where
  pub either : Each (LeftBetween old new) (λ image. Before image ⊎ After image)
  pub ordered : (earlier later : ℕ) → old.clock ≤ earlier → earlier ≤ later → later ≤ new.clock
      → Each (new.left_at later) (new.left_at earlier) ⊎ ((image : List ℕ) × new.left_at earlier image × Before image)
