-- Numbers of units that fit i64, and those that don't.
use Rattle.std.proofs.Common.{◌≡◌, ◌≢◌, ◌<◌, ◌≤◌, ◌^◌, ℕ, zero, suc, ℤ, pos, negsuc, FitsSigned, to_z, of_z, w64, nat_le, true, false, ◌&&◌, refl, ap, sym, ◌∙◌}
use Rattle.std.proofs.lemmas.Bool.{lt-ltb, le-leb, lt-leb, and_right, false_from_ne_true, ltb-true}
use Rattle.std.specs.Int.{w128}
use Rattle.std.specs.Prelude.{int_div}
use Rattle.std.proofs.lemmas.Int.{to_z-of_z}
use Rattle.expr_lang.specs.Values.{Meaning, nothing, units, fits64, units_if, times_ten, quotient}

fits : (z : ℤ) → FitsSigned w64 z → fits64 z ≡ true
fits (pos n) h = lt-ltb n (2 ^ 63) h.sfits
fits (negsuc n) h = lt-ltb n (2 ^ 63) h.sfits

no_fit : (z : ℤ) → (FitsSigned w64 z → ⊥) → fits64 z ≡ false
no_fit (pos n) h = false_from_ne_true _ (λ small. h (record { sfits = ltb-true n (2 ^ 63) small }))
no_fit (negsuc n) h = false_from_ne_true _ (λ small. h (record { sfits = ltb-true n (2 ^ 63) small }))

pub inside : (z : ℤ) (places : ℕ) → FitsSigned w64 z → places ≤ 6 → units_if z places ≡ units z places
unfolding units_if
inside z places h few = let f = fits z h in let p = le-leb places 6 few in rw (f, p) refl

pub outside : (z : ℤ) (places : ℕ) → (FitsSigned w64 z → ⊥) → units_if z places ≡ nothing
unfolding units_if
outside z places h = let f = no_fit z h in rw f refl

pub too_many : (z : ℤ) (places : ℕ) → 6 < places → units_if z places ≡ nothing
unfolding units_if
too_many z places many = let b : (fits64 z && nat_le places 6) ≡ false = and_right (fits64 z) (nat_le places 6) (lt-leb places 6 many) in rw b refl

-- numbers as the bits that a call is passed

abbrev narrow : ℤ → ℤ
narrow z = to_z w64 (of_z w64 z)

abbrev wide : ℤ → ℤ
wide z = to_z w128 (of_z w128 z)

pub combined : (f : ℤ → ℤ → ℤ) (x y a b : ℤ) (k l places : ℕ) (r : Meaning) → FitsSigned w64 x → FitsSigned w64 y → FitsSigned w128 a → FitsSigned w128 b
    → a ≡ times_ten (narrow x) k → b ≡ times_ten (narrow y) l → r ≡ units_if (f (wide a) (wide b)) places → r ≡ units_if (f (times_ten x k) (times_ten y l)) places
combined f x y a b k l places r fx fy fa fb left right made =
    let a_is : a ≡ times_ten x k = left ∙ ap (λ z. times_ten z k) (to_z-of_z w64 x fx) in
    let b_is : b ≡ times_ten y l = right ∙ ap (λ z. times_ten z l) (to_z-of_z w64 y fy) in
    let inner : f (wide a) (wide b) ≡ f a b = ap (λ z. f z (wide b)) (to_z-of_z w128 a fa) ∙ ap (f a) (to_z-of_z w128 b fb) in
    made ∙ ap (λ z. units_if z places) (inner ∙ ap (λ z. f z b) a_is ∙ ap (f (times_ten x k)) b_is)

pub quotient_is : (x : ℤ) (p : ℕ) (y : ℤ) (q : ℕ) → y ≢ pos 0 → quotient x p y q ≡ units_if (int_div (times_ten x q) y) p
quotient_is x p (pos zero) q h = absurd (h refl)
quotient_is x p (pos (suc n)) q h = refl
quotient_is x p (negsuc n) q h = refl

pub divided_is : (x y a : ℤ) (q p : ℕ) (r : Meaning) → FitsSigned w64 x → FitsSigned w64 y → FitsSigned w128 a → y ≢ pos 0
    → a ≡ times_ten (narrow x) q → r ≡ units_if (int_div (wide a) (narrow y)) p → r ≡ quotient x p y q
divided_is x y a q p r fx fy fa some left made =
    let a_is : a ≡ times_ten x q = left ∙ ap (λ z. times_ten z q) (to_z-of_z w64 x fx) in
    let inner : int_div (wide a) (narrow y) ≡ int_div (times_ten x q) y =
    ap (λ z. int_div z (narrow y)) (to_z-of_z w128 a fa ∙ a_is) ∙ ap (int_div (times_ten x q)) (to_z-of_z w64 y fy) in
    made ∙ ap (λ z. units_if z p) inner ∙ sym (quotient_is x p y q some)
