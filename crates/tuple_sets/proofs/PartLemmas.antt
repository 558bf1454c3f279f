-- A part of a tuple whose places are all there.
use Rattle.std.proofs.Common.{◌≡◌, ℕ, zero, suc, ◌<◌, List, [], ◌∷◌, length, get_or, All, Some, refl, ap, sym, ◌∙◌, arith}
use Rattle.std.specs.List.{slice_get}
use Rattle.std.proofs.lemmas.Option.{slice_get-get_or}
use Rattle.tuple_schema.specs.declared.value.Value.{Value}
use Rattle.tuple_schema.specs.declared.value.Value.TheVariants as value
use Rattle.tuple_schema.specs.Tuples.{part}

part-cons : (tuple : List Value) (col : ℕ) (cols : List ℕ) (v : Value) → slice_get tuple col ≡ Some v
    → part tuple (col ∷ cols) ≡ v ∷ part tuple cols
part-cons tuple col cols v h = rw h refl

pub length-part : (tuple : List Value) (cols : List ℕ) → All (λ c. c < length tuple) cols → length (part tuple cols) ≡ length cols
length-part tuple [] within = refl
length-part tuple (col ∷ cols) within =
    let here = slice_get-get_or tuple col value.Null (within 0 0 (omega arith)) in
    ap length (part-cons tuple col cols _ here) ∙ ap suc (length-part tuple cols (λ k d lt. within (suc k) d (omega arith)))

pub part-at : (tuple : List Value) (cols : List ℕ) (i : ℕ) → All (λ c. c < length tuple) cols → i < length cols
    → slice_get (part tuple cols) i ≡ slice_get tuple (get_or cols i 0)
part-at tuple [] i within short = absurd (omega arith)
part-at tuple (col ∷ cols) zero within short =
    let here = slice_get-get_or tuple col value.Null (within 0 0 (omega arith)) in
    rw (part-cons tuple col cols _ here) (sym here)
part-at tuple (col ∷ cols) (suc i) within short =
    let here = slice_get-get_or tuple col value.Null (within 0 0 (omega arith)) in
    rw (part-cons tuple col cols _ here) (part-at tuple cols i (λ k d lt. within (suc k) d (omega arith)) (omega arith))
