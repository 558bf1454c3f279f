-- Numbers as the code reads and holds them. Only private functions speak of it.
use Rattle.std.specs.Prelude.{◌≡◌, ℕ, ◌+◌, ◌*◌, ◌-◌, ◌^◌, List, [], ◌∷◌, ◌++◌, fold, min, Bool, true, false, Result, Ok}
use Rattle.std.specs.Char.{is_ascii_digit}
use Rattle.std.specs.List.{list_all}
use Rattle.tuple_schema.specs.Stops.{◌>>=◌}
use Rattle.row_codec.specs.declared.fields.FieldFault.{FieldFault}
use Rattle.row_codec.specs.Fields.{zero_digit}

-- the number, or the greatest of 64 bits where it is above that
abbrev pub capped : ℕ → ℕ
capped n = min n (2 ^ 64 - 1)

abbrev pub capped_size : Result ℕ FieldFault → Result ℕ FieldFault
capped_size size = size >>= λ n. Ok (capped n)

-- the number that digits stand for behind those of the number n
abbrev pub digits_after : ℕ → List ℕ → ℕ
digits_after n digits = fold (λ n d. 10 * n + (d - zero_digit)) n digits

abbrev pub begins_with_digit : List ℕ → Bool
begins_with_digit [] = false
begins_with_digit (c ∷ cs) = is_ascii_digit c

-- all digits at the front of the text were read behind those of the number n
pub record TakesDigits (n : ℕ) (text : List ℕ) (total : ℕ) (rest : List ℕ) : Type 0 where
  pub digits : List ℕ
  pub parts : text ≡ digits ++ rest
  pub are : list_all is_ascii_digit digits ≡ true
  pub value : total ≡ capped (digits_after n digits)
  pub stops : begins_with_digit rest ≡ false
