-- What stands before and after the last element that passes a test, with one element more at the end.
use Rattle.std.proofs.Common.{◌≡◌, ◌-◌, ◌+◌, ℕ, List, [], ◌∷◌, ◌++◌, length, take, drop, Bool, true, false, not, refl, ◌∙◌, ap, arith, length-append}
use Rattle.std.proofs.lemmas.List.{take_at, take-append-le, drop_all, drop-append-le, reverse-append}
use Rattle.std.specs.List.{suffix_len, before_last, after_last}

-- how many elements at the end fail the test
abbrev failing : {X : Type 0} → (X → Bool) → List X → ℕ
failing p xs = suffix_len (λ x. not (p x)) xs

module _ {X : Type 0} (p : X → Bool) (xs : List X) (x : X) where
  -- none, where the new one passes; and else one more
  failing-append_yes : p x ≡ true → failing p (xs ++ x ∷ []) ≡ 0
  failing-append_yes passes = rw (reverse-append xs (x ∷ [])) (rw passes refl)

  failing-append_no : p x ≡ false → failing p (xs ++ x ∷ []) ≡ 1 + failing p xs
  failing-append_no fails = rw (reverse-append xs (x ∷ [])) (rw fails refl)

  pub before_last-append_yes : p x ≡ true → before_last p (xs ++ x ∷ []) ≡ xs
  before_last-append_yes passes =
      take_at xs (x ∷ []) (length (xs ++ x ∷ []) - failing p (xs ++ x ∷ []) - 1)
      (omega (arith, failing-append_yes passes, length-append xs (x ∷ [])))

  pub after_last-append_yes : p x ≡ true → after_last p (xs ++ x ∷ []) ≡ []
  after_last-append_yes passes =
      drop_all (length (xs ++ x ∷ []) - failing p (xs ++ x ∷ [])) (xs ++ x ∷ [])
      (omega (arith, failing-append_yes passes))

  behind : p x ≡ false → length (xs ++ x ∷ []) - failing p (xs ++ x ∷ []) ≡ length xs - failing p xs
  behind fails = omega (arith, failing-append_no fails, length-append xs (x ∷ []))

  pub before_last-append_no : p x ≡ false → before_last p (xs ++ x ∷ []) ≡ before_last p xs
  before_last-append_no fails =
      ap (λ (n : ℕ). take (n - 1) (xs ++ x ∷ [])) (behind fails)
      ∙ take-append-le (length xs - failing p xs - 1) xs (x ∷ []) (omega arith)

  pub after_last-append_no : p x ≡ false → after_last p (xs ++ x ∷ []) ≡ after_last p xs ++ x ∷ []
  after_last-append_no fails =
      ap (λ (n : ℕ). drop n (xs ++ x ∷ [])) (behind fails)
      ∙ drop-append-le (length xs - failing p xs) xs (x ∷ []) (omega arith)
