-- The words, by how many they are.
use native.Mathlib.Omega.{arith}
use Rattle.std.proofs.Common.{◌≡◌, ℕ, ◌≤◌, ◌<◌, List, [], ◌∷◌, length, map, get_or}
use Rattle.commands.specs.Arguments.{given_batch, batch_in}

pub four_words : {X : Type 0} (view : X → List ℕ) (words : List X) (command option number : X)
    → 4 ≤ length words → length words < 5
    → command ≡ get_or words 0 command → option ≡ get_or words 2 option → number ≡ get_or words 3 number
    → batch_in (map view words) ≡ given_batch (view command) (view option) (view number)
four_words view [] command option number least below a b c = absurd (omega arith)
four_words view (_ ∷ []) command option number least below a b c = absurd (omega arith)
four_words view (_ ∷ _ ∷ []) command option number least below a b c = absurd (omega arith)
four_words view (_ ∷ _ ∷ _ ∷ []) command option number least below a b c = absurd (omega arith)
four_words view (p ∷ q ∷ r ∷ s ∷ []) command option number least below a b c = cc
four_words view (_ ∷ _ ∷ _ ∷ _ ∷ _ ∷ _) command option number least below a b c = absurd (omega arith)
