-- The least place at which a test passes.
use Rattle.std.proofs.Common.{◌≡◌, ℕ, zero, suc, ◌<◌, Bool, true, false, if◌then◌else◌, refl, ap, sym, ◌⊎◌, Option, Some, None, arith, inl, inr}
use Rattle.std.specs.Option.{option_or}
use Rattle.std.proofs.lemmas.Option.{same_Some}
use Rattle.std.proofs.lemmas.Bool.{cases_lt}
use Rattle.flow_types.specs.Names.{least}

-- nothing passes
pub least_none : (n : ℕ) (test : ℕ → Bool) → ((k : ℕ) → k < n → test k ≡ false) → least n test ≡ None
unfolding least
least_none zero test fails = refl
least_none (suc n) test fails =
    let here : test n ≡ false = fails n (omega arith) in
    rw (least_none n test (λ k h. fails k (omega arith)), here) refl

-- this place passes, and none before it does
pub least_is : (n : ℕ) (test : ℕ → Bool) (k : ℕ) → k < n → test k ≡ true → ((j : ℕ) → j < k → test j ≡ false) → least n test ≡ Some k
unfolding least
least_is zero test k h passes before = absurd (omega arith)
least_is (suc n) test k h passes before =
    elim (cases_lt k n) [
      | inl below ↦ rw (least_is n test k below passes before) refl
      | inr above ↦
          let last : k ≡ n = omega arith in
          let here : test n ≡ true = rw last at passes in
          rw (least_none n test (λ j less. before j (omega arith)), here) (ap Some (sym last))
    ]

chosen : (o : Option ℕ) (b : Bool) (n k : ℕ) → option_or o (if b then Some n else None) ≡ Some k → (o ≡ Some k) ⊎ ((b ≡ true) × (n ≡ k))
chosen (Some j) b n k is = inl is
chosen None true n k is = inr (refl, same_Some _ _ is)
chosen None false n k is = absurd (cc)

-- the least place passes
pub least_passes : (n : ℕ) (test : ℕ → Bool) (k : ℕ) → least n test ≡ Some k → test k ≡ true
unfolding least
least_passes zero test k is = absurd (cc)
least_passes (suc n) test k is = elim (chosen (least n test) (test n) n k is) [
  | inl below ↦ least_passes n test k below
  | inr here ↦ rw (← here.1) here.0
]
