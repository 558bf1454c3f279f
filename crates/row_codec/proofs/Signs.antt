-- A number from its sign and its size, where the size is capped at the greatest of 64 bits.
use Rattle.std.proofs.Common.{◌≡◌, ◌≤◌, ◌^◌, ◌-◌, ℕ, List, Bool, true, false, Result, Ok, Err, refl, sym, ap, ◌∙◌, arith, inl, inr}
use Rattle.std.specs.Prelude.{ℤ}
use Rattle.std.proofs.lemmas.Bool.{cases_lt, le-ltb}
use Rattle.tuple_schema.specs.Stops.{◌>>=◌}
use Rattle.row_codec.specs.declared.fields.FieldFault.{FieldFault}
use Rattle.row_codec.specs.declared.fields.FieldFault.TheVariants as fault
use Rattle.row_codec.specs.Fields.{is_negative, without_sign, signed, is_i64, in_range, number_of}
use Rattle.row_codec.specs.Numbers.{capped, capped_size}

far : (b : Bool) (n : ℕ) → 2 ^ 64 - 1 ≤ n → is_i64 (signed b n) ≡ false
far true n le = grind arith
far false n le = le-ltb _ _ (omega arith)

out : (z : ℤ) → is_i64 z ≡ false → in_range z ≡ Err fault.OutOfRange
unfolding in_range
out z is = rw is refl

range_capped : (b : Bool) (n : ℕ) → in_range (signed b (capped n)) ≡ in_range (signed b n)
range_capped b n =
    elim (cases_lt n (2 ^ 64)) [
      | inl lt ↦ let same : capped n ≡ n = omega arith in ap (λ k. in_range (signed b k)) same
      | inr le ↦ out (signed b (capped n)) (far b (capped n) (omega arith))
          ∙ sym (out (signed b n) (far b n (omega arith)))
    ]

-- a sign and a size that was read
with_sign : (b : Bool) → Result ℕ FieldFault → Result ℤ FieldFault
with_sign b size = size >>= λ n. in_range (signed b n)

sized : (b : Bool) (size read : Result ℕ FieldFault) → read ≡ capped_size size → with_sign b size ≡ with_sign b read
unfolding with_sign
sized b (Ok n) read is = sym (ap (with_sign b) is ∙ range_capped b n)
sized b (Err f) read is = sym (ap (with_sign b) is)

pub number_ok : (size_of : List ℕ → Result ℕ FieldFault) (text : List ℕ) (n : ℕ)
    → Ok n ≡ capped_size (size_of (without_sign text))
    → number_of size_of text ≡ in_range (signed (is_negative text) n)
unfolding number_of with_sign
number_ok size_of text n is = sized (is_negative text) (size_of (without_sign text)) (Ok n) is

pub number_err : (size_of : List ℕ → Result ℕ FieldFault) (text : List ℕ) (f : FieldFault)
    → Err f ≡ capped_size (size_of (without_sign text)) → number_of size_of text ≡ Err f
unfolding number_of with_sign
number_err size_of text f is = sized (is_negative text) (size_of (without_sign text)) (Err f) is
