-- The order of tuples.
use Rattle.std.proofs.Common.{◌≡◌, ℕ, zero, suc, ◌+◌, true, false, List, [], ◌∷◌, length, drop, min, Some, refl, ap, sym, ◌∙◌, true≢false, arith}
use Rattle.std.specs.List.{slice_get}
use Rattle.std.specs.Cmp.Lexicographic.{slice_cmp}
use Rattle.std.specs.Ordering.{nat_cmp, ordering_then, is_eq}
use Rattle.std.specs.declared.cmp.Ordering.{Ordering}
use Rattle.std.specs.declared.cmp.Ordering.TheVariants.{Less, Equal, Greater}
use Rattle.std.proofs.lemmas.List.{drop_more}
use Rattle.std.proofs.lemmas.Option.{slice_get_within, get_or_from_slice_get}
use Rattle.std.proofs.lemmas.Bool.Decides.{nat_tests}
use Rattle.tuple_schema.specs.declared.fields.FieldRef.{FieldRef}
use Rattle.tuple_schema.specs.declared.fields.FieldRef.TheVariants as field
use Rattle.tuple_schema.specs.contracts.fields.FieldRefOrd.TheImpl as field_ord
use Rattle.tuple_schema.specs.Tuples.{lent}
use Rattle.tuple_sets.specs.Order.{value_cmp}

pub fields_as_values : (f g : FieldRef) → field_ord.ghosts.cmp f g ≡ value_cmp (lent f) (lent g)
fields_as_values field.Null field.Null = refl
fields_as_values field.Null (field.Int n) = refl
fields_as_values field.Null (field.Dec n) = refl
fields_as_values field.Null (field.Text t) = refl
fields_as_values (field.Int m) field.Null = refl
fields_as_values (field.Int m) (field.Int n) = refl
fields_as_values (field.Int m) (field.Dec n) = refl
fields_as_values (field.Int m) (field.Text t) = refl
fields_as_values (field.Dec m) field.Null = refl
fields_as_values (field.Dec m) (field.Int n) = refl
fields_as_values (field.Dec m) (field.Dec n) = refl
fields_as_values (field.Dec m) (field.Text t) = refl
fields_as_values (field.Text s) field.Null = refl
fields_as_values (field.Text s) (field.Int n) = refl
fields_as_values (field.Text s) (field.Dec n) = refl
fields_as_values (field.Text s) (field.Text t) = refl

at_place : {X : Type 0} (xs : List X) (i : ℕ) (x : X) → slice_get xs i ≡ Some x → drop i xs ≡ x ∷ drop (i + 1) xs
at_place xs i x h =
    drop_more xs i x (slice_get_within xs i x h) ∙ ap (λ y. y ∷ drop (i + 1) xs) (get_or_from_slice_get xs i x x h)

nat_cmp-suc : (m n : ℕ) → nat_cmp m n ≡ nat_cmp (suc m) (suc n)
nat_cmp-suc m n = grind (arith, nat_tests)

nat_cmp-below : (n : ℕ) → Less ≡ nat_cmp 0 (suc n)
nat_cmp-below n = grind (arith, nat_tests)

nat_cmp-above : (n : ℕ) → Greater ≡ nat_cmp (suc n) 0
nat_cmp-above n = grind (arith, nat_tests)

module _ {X : Type 0} (R : X → X → Ordering) where
  -- the order of two lists, from a place on that both have
  cmp_at : (xs ys : List X) (i : ℕ) (x y : X) → slice_get xs i ≡ Some x → slice_get ys i ≡ Some y
      → slice_cmp R (drop i xs) (drop i ys) ≡ ordering_then (R x y) (slice_cmp R (drop (i + 1) xs) (drop (i + 1) ys))
  cmp_at xs ys i x y h k =
      ap (λ zs. slice_cmp R zs (drop i ys)) (at_place xs i x h)
      ∙ ap (slice_cmp R (x ∷ drop (i + 1) xs)) (at_place ys i y k)

  -- where one of the lists ends, their lengths decide
  cmp_past : (xs ys : List X) (i : ℕ) → i ≡ min (length xs) (length ys)
      → slice_cmp R (drop i xs) (drop i ys) ≡ nat_cmp (length xs) (length ys)
  cmp_past [] [] zero e = refl
  cmp_past [] (y ∷ ys) zero e = nat_cmp-below (length ys)
  cmp_past (x ∷ xs) [] zero e = nat_cmp-above (length xs)
  cmp_past (x ∷ xs) (y ∷ ys) zero e = absurd (omega arith)
  cmp_past [] ys (suc i) e = absurd (omega arith)
  cmp_past (x ∷ xs) [] (suc i) e = absurd (omega arith)
  cmp_past (x ∷ xs) (y ∷ ys) (suc i) e = cmp_past xs ys i (omega arith) ∙ nat_cmp-suc (length xs) (length ys)

  settled : (r s : Ordering) → is_eq r ≡ false → r ≡ ordering_then r s
  settled Less s h = refl
  settled Equal s h = absurd (true≢false h)
  settled Greater s h = refl

  undecided : (r s : Ordering) → is_eq r ≡ true → ordering_then r s ≡ s
  undecided Less s h = absurd (true≢false (sym h))
  undecided Equal s h = refl
  undecided Greater s h = absurd (true≢false (sym h))

  -- the first place where the lists differ decides
  pub decided : (xs ys : List X) (i : ℕ) (x y : X) (w r : Ordering) → w ≡ slice_cmp R (drop i xs) (drop i ys)
      → slice_get xs i ≡ Some x → slice_get ys i ≡ Some y → r ≡ R x y → is_eq r ≡ false → r ≡ w
  decided xs ys i x y w r so h k e differ =
      let s = slice_cmp R (drop (i + 1) xs) (drop (i + 1) ys) in
      settled r s differ ∙ ap (λ z. ordering_then z s) e ∙ sym (cmp_at xs ys i x y h k) ∙ sym so

  -- and where they are alike, the rest does
  pub carried_on : (xs ys : List X) (i : ℕ) (x y : X) (w r : Ordering) → w ≡ slice_cmp R (drop i xs) (drop i ys)
      → slice_get xs i ≡ Some x → slice_get ys i ≡ Some y → r ≡ R x y → is_eq r ≡ true
      → w ≡ slice_cmp R (drop (i + 1) xs) (drop (i + 1) ys)
  carried_on xs ys i x y w r so h k e alike =
      let s = slice_cmp R (drop (i + 1) xs) (drop (i + 1) ys) in
      so ∙ cmp_at xs ys i x y h k ∙ ap (λ z. ordering_then z s) (sym e) ∙ undecided r s alike

  -- and where one ends, their lengths
  pub ended : (xs ys : List X) (i m n : ℕ) (w : Ordering) → w ≡ slice_cmp R (drop i xs) (drop i ys)
      → m ≡ length xs → n ≡ length ys → i ≡ min m n → nat_cmp m n ≡ w
  ended xs ys i m n w so a b last =
      let past = cmp_past xs ys i (last ∙ ap (λ z. min z n) a ∙ ap (min (length xs)) b) in
      ap (λ z. nat_cmp z n) a ∙ ap (nat_cmp (length xs)) b ∙ sym past ∙ sym so
