-- The place of a node among nodes.
use Rattle.std.proofs.Common.{◌≡◌, ℕ, ◌<◌, List, length, find, position, slice_get, nat_lt, Bool, true, false, refl, ap, ◌∙◌, Some, None}
use Rattle.std.specs.List.{position_or_len}
use Rattle.std.proofs.lemmas.Bool.{ltb-false, ltb-true}
use Rattle.std.proofs.lemmas.List.Folds.{find_at}
use Rattle.std.proofs.lemmas.Option.{same_Some, slice_get_past}

module _ {X : Type 0} (p : X → Bool) (xs : List X) where
  -- what stands at the first place that passes is what is found
  pub found_at : (place : ℕ) → position p xs ≡ Some place → find p xs ≡ slice_get xs place
  found_at place is = by (nat_lt (position_or_len p xs) (length xs)) refl
    where
      by : (b : Bool) → nat_lt (position_or_len p xs) (length xs) ≡ b → find p xs ≡ slice_get xs place
      by true less = find_at p xs ∙ ap (slice_get xs) (same_Some _ _ (rw less at is))
      by false past = let none : None ≡ Some place = rw past at is in absurd (cc)

  pub found_none : position p xs ≡ None → find p xs ≡ None
  found_none is = by (nat_lt (position_or_len p xs) (length xs)) refl
    where
      by : (b : Bool) → nat_lt (position_or_len p xs) (length xs) ≡ b → find p xs ≡ None
      by true less = let none : Some (position_or_len p xs) ≡ None = rw less at is in absurd (cc)
      by false past = find_at p xs ∙ slice_get_past xs (position_or_len p xs) (ltb-false (position_or_len p xs) (length xs) past)

  pub found_within : (place : ℕ) → position p xs ≡ Some place → place < length xs
  found_within place is = by (nat_lt (position_or_len p xs) (length xs)) refl
    where
      by : (b : Bool) → nat_lt (position_or_len p xs) (length xs) ≡ b → place < length xs
      by true less = rw (← same_Some _ _ (rw less at is)) (ltb-true (position_or_len p xs) (length xs) less)
      by false past = let none : None ≡ Some place = rw past at is in absurd (cc)
