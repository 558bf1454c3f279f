-- What digits write.
use Rattle.std.proofs.Common.{◌≡◌, ℕ, ◌+◌, ◌-◌, ◌*◌, ◌<◌, ◌≤◌, ◌^◌, List, [], ◌∷◌, length, get_or, drop, filter, Option, Some, None, IfNone, true, refl, ap, ◌∙◌, arith}
use Rattle.std.proofs.lemmas.Bool.Decides.{nat_tests}
use Rattle.std.proofs.lemmas.List.{drop_more}
use Rattle.std.specs.Str.Parse.{digits_value_after}
use Rattle.std.specs.Char.{digit_value}
use Rattle.tuple_schema.specs.Texts.{is_digit}
use Rattle.expr_grammar.specs.Tokens.{units}

no_smaller : (n : ℕ) (ds : List ℕ) → n ≤ digits_value_after 10 n ds
no_smaller n [] = omega arith
no_smaller n (d ∷ ds) = omega (arith, no_smaller (n * 10 + digit_value d) ds)

digit_is : (d : ℕ) → is_digit d ≡ true → digit_value d ≡ d - 48
digit_is d h = grind (arith, nat_tests)

-- a number whose digits so far, with the next one, are too large
too_large : (bytes : List ℕ) (i n : ℕ) → i < length bytes → is_digit (get_or bytes i 0) ≡ true
    → digits_value_after 10 n (filter is_digit (drop i bytes)) ≡ units bytes → 2 ^ 64 ≤ n * 10 + (get_or bytes i 0 - 48) → 2 ^ 64 ≤ units bytes
too_large bytes i n inside digit same large =
    let d = get_or bytes i 0 in
    let rest = filter is_digit (drop (i + 1) bytes) in
    let taken : filter is_digit (d ∷ drop (i + 1) bytes) ≡ d ∷ rest = rw digit refl in
    let step : digits_value_after 10 n (filter is_digit (drop i bytes)) ≡ digits_value_after 10 (n * 10 + digit_value d) rest =
    ap (λ xs. digits_value_after 10 n (filter is_digit xs)) (drop_more bytes i 0 inside) ∙ ap (digits_value_after 10 n) taken in
    omega (arith, no_smaller (n * 10 + digit_value d) rest, digit_is d digit, step, same, large)

pub if_too_large : (o : Option ℕ) (bytes : List ℕ) (i n : ℕ) → i < length bytes → is_digit (get_or bytes i 0) ≡ true
    → digits_value_after 10 n (filter is_digit (drop i bytes)) ≡ units bytes → 2 ^ 64 ≤ n * 10 + (get_or bytes i 0 - 48) → IfNone o (2 ^ 64 ≤ units bytes)
if_too_large None bytes i n inside digit same large = too_large bytes i n inside digit same large
if_too_large (Some x) bytes i n inside digit same large = tt
