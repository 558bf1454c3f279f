-- What `parse` reads from digits alone.
use Rattle.std.proofs.Common.{◌≡◌, ℕ, ℤ, ◌^◌, List, length, Bool, true, false, Result, Ok, Err, refl, rules, inl, inr, ◌&&◌}
use Rattle.std.proofs.lemmas.Bool.{lt-ltb, le-ltb, ltb-true, cases_lt}
use Rattle.std.proofs.lemmas.Str.Parse.{IsNumeralModel, numerals_by_value, parse_signed_digits}
use Rattle.std.specs.Char.{is_ascii_digit}
use Rattle.std.specs.List.{list_all}
use Rattle.std.specs.Result.{result_ok}
use Rattle.std.specs.Str.Parse.{digits_value, ParsesSigned}
use Rattle.commands.specs.Arguments.{are_digits, number_of}
use mir.Syntax.{w64}

own : IsNumeralModel (λ ds. list_all is_ascii_digit ds ≡ true) (digits_value 10)
own = numerals_by_value _ (search rules)

pub and-true-right : (a b : Bool) → (a && b) ≡ true → b ≡ true
and-true-right true b h = h
and-true-right false b h = cc

pub and-true-left : (a b : Bool) → (a && b) ≡ true → a ≡ true
and-true-left true b h = refl
and-true-left false b h = h

pub parsed_digits : {E : Type 0} (text : List ℕ) (r : Result ℤ E) → ParsesSigned w64 10 text r → are_digits text ≡ true → result_ok r ≡ number_of text
parsed_digits {E = E} text (Ok x) h digits =
    let p = parse_signed_digits own {E = E} w64 text (Ok x) h (and-true-right _ _ digits) in
    rw (p.1, digits, lt-ltb (digits_value 10 text) (2 ^ 63) p.0.1) refl
parsed_digits {E = E} text (Err e) h digits =
    let p = parse_signed_digits own {E = E} w64 text (Err e) h (and-true-right _ _ digits) in
    elim (cases_lt (digits_value 10 text) (2 ^ 63)) [
      | inl small ↦ absurd (p (ltb-true 0 (length text) (and-true-left _ _ digits), small))
      | inr large ↦ rw (digits, le-ltb (digits_value 10 text) (2 ^ 63) large) refl
    ]
