-- What the steps of the protocol do to the image.
use Rattle.std.specs.Prelude.{◌≡◌, ◌≢◌, ◌<◌, ℕ, List, ◌∷◌, ◌++◌, length, take, drop, slice_index}

-- the image has a closed gate at this place
pub record HasClosedGateAt (place : ℕ) (image : List ℕ) : Type 0 where
  pub some : place < length image
  pub closed : slice_index image place ≢ 1

-- the image begins with a closed gate
abbrev pub HasClosedGate : List ℕ → Type 0
HasClosedGate image = HasClosedGateAt 0 image

-- the new image has a closed gate at this place, and before it all that the old one has
pub record KeepsClosed (place : ℕ) (old new : List ℕ) : Type 0 where
  pub gate : HasClosedGateAt place new
  pub before : take place new ≡ take place old

-- where the old image has a gate at this place, the new one has it open, and these bytes behind it, over what stood
-- there
abbrev pub OpensGate : ℕ → List ℕ → List ℕ → List ℕ → Type 0
OpensGate place behind old new =
    (before : List ℕ) (gate : ℕ) (rest : List ℕ) → length before ≡ place → old ≡ before ++ gate ∷ rest
    → new ≡ before ++ 1 ∷ behind ++ drop (length behind) rest
