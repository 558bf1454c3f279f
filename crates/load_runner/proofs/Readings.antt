-- What verifying says of a reading.
use Rattle.std.proofs.Common.{◌≡◌, ℕ, Some, None, Result, Ok, Err, refl, ap}
use Rattle.std.proofs.lemmas.Option.{same_Some}
use Rattle.tuple_schema.specs.declared.memory.Stop.{Stop}
use Rattle.table_read.specs.Places.{wrong_place}

-- where no place is wrong, all was read
pub all_read : {X : Type 0} (reading : Result X ℕ) → wrong_place reading ≡ None → (x : X) × (reading ≡ Ok x)
all_read (Ok x) is = (x, refl)
all_read (Err place) is = cc

pub wrong_read : {X : Type 0} (reading : Result X ℕ) (place : ℕ) → wrong_place reading ≡ Some place → reading ≡ Err place
wrong_read (Ok x) place is = cc
wrong_read (Err other) place is = ap Err (same_Some _ _ is)

-- one stop is answered
pub same_stop : {T F : Type 0} (one other : Stop F) → (let answer : Result T (Stop F) = Err one in answer) ≡ Err other → one ≡ other
same_stop one other is = cc
