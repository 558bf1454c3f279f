-- The meaning of an expression is of the kind that it has.
use Rattle.std.proofs.Common.{◌≡◌, ℕ, zero, suc, ℤ, pos, negsuc, ◌+◌, ◌-◌, ◌^◌, ◌≤◌, length, ◌++◌, List, Bool, true, false, ◌||◌, cond, nat_le, Option, Some, None, option_map, FitsSigned, w64, refl, sym, ap, subst, ◌∙◌, arith}
use Rattle.std.specs.Prelude.{int_div}
use Rattle.std.proofs.lemmas.Bool.{ltb-true, leb-true, eqb-true, false≢true}
use Rattle.std.proofs.lemmas.List.{length-append}
use Rattle.tuple_schema.specs.declared.schema.ColumnKind.{ColumnKind}
use Rattle.tuple_schema.specs.declared.schema.ColumnKind.TheVariants as kind
use Rattle.tuple_schema.specs.Schemas.{HasScale}
use Rattle.expr_lang.specs.Kinds.{number_kind, places_of, nullable_value, as_number, places_by, arithmetic, are_comparable, comparison, truths, texts, truth_kind, same_number, null_test, length_kind, number_with, is_same_kind, one_kind, choice_kind}
use Rattle.expr_lang.specs.Values.{Meaning, nothing, units, bytes, truly, fits64, units_if, times_ten, truth_in, quotient, followed_by, byte_count, rounded, with_places, first_of, choice}
use Rattle.expr_lang.specs.declared.kind.ExprKind.{ExprKind}
use Rattle.expr_lang.specs.declared.kind.ExprKind.TheVariants as sort
use Rattle.expr_lang.specs.declared.logic.Truth.{Truth}
use Rattle.expr_lang.specs.declared.logic.Truth.TheVariants as truth
use Rattle.expr_lang.proofs.Units.{inside}

-- the meaning is of the column's kind
abbrev pub HasValue : Meaning → ColumnKind → Bool → Type 0
HasValue nothing k n = n ≡ true
HasValue (units z p) k n = (places_of k ≡ Some p) × FitsSigned w64 z × (p ≤ 6)
HasValue (bytes t) k n = (k ≡ kind.Text) × (length t ≤ 4096)
HasValue (truly t) k n = ⊥

abbrev pub Has : ExprKind → Meaning → Type 0
Has (sort.Value k n) m = HasScale k × HasValue m k n
Has sort.Truth m = m ≡ truly (truth_in m)

-- what an equation of options gives
pub some_gives : {A : Type 0} (P : A → Type 0) (s t : A) → Some s ≡ Some t → P s → P t
some_gives P s t same h = subst P (let both : s ≡ t = cc in both) h

pub none_gives : {A : Type 0} (P : A → Type 0) (t : A) → None ≡ Some t → P t
none_gives P t same = absurd cc

-- numbers

pub record IsNumberKind (p : ℕ) (k : ColumnKind) : Type 0 where
  pub scale : HasScale k
  pub places : places_of k ≡ Some p
  pub few : p ≤ 6

kind_by : (p : ℕ) (k : ColumnKind) (b : Bool) → nat_le (suc p) 6 ≡ b → cond b (Some (kind.Dec (suc p))) None ≡ Some k
    → IsNumberKind (suc p) k
kind_by p k true few e =
    let h : suc p ≤ 6 = leb-true (suc p) 6 few in
    some_gives (IsNumberKind (suc p)) (kind.Dec (suc p)) k e (record { scale = (omega arith, h); places = refl; few = h })
kind_by p k false few e = none_gives (IsNumberKind (suc p)) k e

kind_number : (p : ℕ) (k : ColumnKind) → number_kind p ≡ Some k → IsNumberKind p k
kind_number zero k e = some_gives (IsNumberKind 0) kind.Int k e (record { scale = tt; places = refl; few = omega arith })
kind_number (suc p) k e = kind_by p k (nat_le (suc p) 6) refl e

fitting : (z : ℤ) → fits64 z ≡ true → FitsSigned w64 z
fitting (pos n) e = record { sfits = ltb-true n (2 ^ 63) e }
fitting (negsuc n) e = record { sfits = ltb-true n (2 ^ 63) e }

no_units : (z : ℤ) (p : ℕ) → fits64 z ≡ false → units_if z p ≡ nothing
unfolding units_if
no_units z p e = rw e refl

-- a number of so many places, or Null
abbrev IsNumber : ℕ → Meaning → Type 0
IsNumber p m = (k : ColumnKind) → number_kind p ≡ Some k → HasScale k × HasValue m k true

number_nothing : (p : ℕ) → IsNumber p nothing
number_nothing p k e = ((kind_number p k e).scale, refl)

number_by : (p : ℕ) (z : ℤ) (b : Bool) → fits64 z ≡ b → IsNumber p (units_if z p)
number_by p z true fit k e =
    let is = kind_number p k e in
    let f = fitting z fit in
    subst (λ m. HasScale k × HasValue m k true) (sym (inside z p f is.few)) (is.scale, (is.places, f, is.few))
number_by p z false fit k e =
    subst (λ m. HasScale k × HasValue m k true) (sym (no_units z p fit)) (number_nothing p k e)

pub number_units : (p : ℕ) (z : ℤ) → IsNumber p (units_if z p)
number_units p z = number_by p z (fits64 z) refl

number_of : (p : ℕ) (m : Meaning) (s : ExprKind) → IsNumber p m → (o : Option ColumnKind) → number_kind p ≡ o
    → option_map nullable_value o ≡ Some s → Has s m
number_of p m s h None is e = none_gives (λ s. Has s m) s e
number_of p m s h (Some k) is e = some_gives (λ s. Has s m) (sort.Value k true) s e (h k is)

-- a number of so many places, or Null, whatever its units are
abbrev Numeric : ℕ → Meaning → Type 0
Numeric p nothing = Unit {0}
Numeric p (units z q) = q ≡ p
Numeric p (bytes t) = ⊥
Numeric p (truly t) = ⊥

numeric : (k : ColumnKind) (n : Bool) (p : ℕ) (m : Meaning) → HasValue m k n → places_of k ≡ Some p → Numeric p m
numeric k n p nothing h is = tt
numeric k n p (units z q) h is = let places = h.0 in some_gives (λ r. q ≡ r) q p (sym places ∙ is) refl
numeric k n p (bytes t) h is = none_gives (λ r. ⊥) p (ap places_of (sym h.0) ∙ is)
numeric k n p (truly t) h is = absurd h

module _ (f : ℕ → ℕ → ℕ) (g : Meaning → Meaning → Meaning)
    (made : (x : ℤ) (p : ℕ) (y : ℤ) (q : ℕ) → IsNumber (f p q) (g (units x p) (units y q)))
    (left : (y : Meaning) → g nothing y ≡ nothing) (right : (x : ℤ) (p : ℕ) → g (units x p) nothing ≡ nothing)
  where
    result : (p q : ℕ) (x y : Meaning) → Numeric p x → Numeric q y → IsNumber (f p q) (g x y)
    result p q nothing y h i = subst (IsNumber (f p q)) (sym (left y)) (number_nothing (f p q))
    result p q (units x a) nothing h i = subst (IsNumber (f p q)) (sym (right x a)) (number_nothing (f p q))
    result p q (units x a) (units y b) h i =
        subst (λ a. IsNumber (f p q) (g (units x a) (units y b))) (sym h)
        (subst (λ b. IsNumber (f p q) (g (units x p) (units y b))) (sym i) (made x p y q))
    result p q (units x a) (bytes t) h i = absurd i
    result p q (units x a) (truly t) h i = absurd i
    result p q (bytes t) y h i = absurd h
    result p q (truly t) y h i = absurd h

    arithmetic_by : (k l : ColumnKind) (n m : Bool) (s : ExprKind) (x y : Meaning) → HasValue x k n → HasValue y l m
        → (a b : Option ℕ) → places_of k ≡ a → places_of l ≡ b → as_number (places_by f a b) ≡ Some s → Has s (g x y)
    arithmetic_by k l n m s x y h i None None is js e = none_gives (λ s. Has s (g x y)) s e
    arithmetic_by k l n m s x y h i None (Some q) is js e = none_gives (λ s. Has s (g x y)) s e
    arithmetic_by k l n m s x y h i (Some p) None is js e = none_gives (λ s. Has s (g x y)) s e
    arithmetic_by k l n m s x y h i (Some p) (Some q) is js e =
        number_of (f p q) (g x y) s (result p q x y (numeric k n p x h is) (numeric l m q y i js)) (number_kind (f p q)) refl e

    pub arithmetic_has : (a b s : ExprKind) (x y : Meaning) → Has a x → Has b y → arithmetic f a b ≡ Some s → Has s (g x y)
    arithmetic_has sort.Truth sort.Truth s x y h i e = none_gives (λ s. Has s (g x y)) s e
    arithmetic_has sort.Truth (sort.Value l m) s x y h i e = none_gives (λ s. Has s (g x y)) s e
    arithmetic_has (sort.Value k n) sort.Truth s x y h i e = none_gives (λ s. Has s (g x y)) s e
    arithmetic_has (sort.Value k n) (sort.Value l m) s x y h i e =
        arithmetic_by k l n m s x y h.1 i.1 (places_of k) (places_of l) refl refl e

pub over_made : (x : ℤ) (p : ℕ) (y : ℤ) (q : ℕ) → IsNumber p (quotient x p y q)
over_made x p (pos zero) q = number_nothing p
over_made x p (pos (suc n)) q = number_units p (int_div (times_ten x q) (pos (suc n)))
over_made x p (negsuc n) q = number_units p (int_div (times_ten x q) (negsuc n))

-- one number
module _ (g : Meaning → Meaning) (t : ℕ → ℕ) (made : (x : ℤ) (p : ℕ) → IsNumber (t p) (g (units x p))) (none : g nothing ≡ nothing) where
  alone : (p : ℕ) (x : Meaning) → Numeric p x → IsNumber (t p) (g x)
  alone p nothing h = subst (IsNumber (t p)) (sym none) (number_nothing (t p))
  alone p (units x a) h = subst (λ a. IsNumber (t p) (g (units x a))) (sym h) (made x p)
  alone p (bytes t) h = absurd h
  alone p (truly t) h = absurd h

same_by : (g : Meaning → Meaning) → ((x : ℤ) (p : ℕ) → IsNumber p (g (units x p))) → g nothing ≡ nothing
    → (k : ColumnKind) (n : Bool) (s : ExprKind) (x : Meaning) → HasValue x k n
    → (a : Option ℕ) → places_of k ≡ a → as_number a ≡ Some s → Has s (g x)
same_by g made none k n s x h None is e = none_gives (λ s. Has s (g x)) s e
same_by g made none k n s x h (Some p) is e =
    number_of p (g x) s (alone g (λ p. p) made none p x (numeric k n p x h is)) (number_kind p) refl e

pub same_has : (g : Meaning → Meaning) → ((x : ℤ) (p : ℕ) → IsNumber p (g (units x p))) → g nothing ≡ nothing
    → (a s : ExprKind) (x : Meaning) → Has a x → same_number a ≡ Some s → Has s (g x)
same_has g made none sort.Truth s x h e = none_gives (λ s. Has s (g x)) s e
same_has g made none (sort.Value k n) s x h e = same_by g made none k n s x h.1 (places_of k) refl e

scale_by : (c : ℕ) (k : ColumnKind) (n : Bool) (s : ExprKind) (x : Meaning) → HasValue x k n
    → (a : Option ℕ) → places_of k ≡ a → as_number (places_by (λ p q. q) a (Some c)) ≡ Some s → Has s (with_places c x)
scale_by c k n s x h None is e = none_gives (λ s. Has s (with_places c x)) s e
scale_by c k n s x h (Some p) is e =
    number_of c (with_places c x) s
    (alone (with_places c) (λ p. c)
    (λ x p. number_units c (cond (nat_le p c) (times_ten x (c - p)) (rounded x (10 ^ (p - c))))) refl p x (numeric k n p x h is))
    (number_kind c) refl e

pub scale_has : (c : ℕ) (a s : ExprKind) (x : Meaning) → Has a x → number_with c a ≡ Some s → Has s (with_places c x)
scale_has c sort.Truth s x h e = none_gives (λ s. Has s (with_places c x)) s e
scale_has c (sort.Value k n) s x h e = scale_by c k n s x h.1 (places_of k) refl e

pub literal_by : (z : ℤ) (p : ℕ) (s : ExprKind) → FitsSigned w64 z → (o : Option ColumnKind) → number_kind p ≡ o
    → option_map (λ k. sort.Value k false) o ≡ Some s → Has s (units_if z p)
literal_by z p s h None is e = none_gives (λ s. Has s (units_if z p)) s e
literal_by z p s h (Some k) is e =
    let number = kind_number p k is in
    some_gives (λ s. Has s (units_if z p)) (sort.Value k false) s e
    (subst (λ m. HasScale k × HasValue m k false) (sym (inside z p h number.few)) (number.scale, (number.places, h, number.few)))

-- truths

pub truths_has : (a b s : ExprKind) (t : Truth) → truths a b ≡ Some s → Has s (truly t)
truths_has sort.Truth sort.Truth s t e = some_gives (λ s. Has s (truly t)) sort.Truth s e refl
truths_has sort.Truth (sort.Value l m) s t e = none_gives (λ s. Has s (truly t)) s e
truths_has (sort.Value k n) b s t e = none_gives (λ s. Has s (truly t)) s e

test_by : (s : ExprKind) (t : Truth) (b : Bool) → cond b (Some sort.Truth) None ≡ Some s → Has s (truly t)
test_by s t true e = some_gives (λ s. Has s (truly t)) sort.Truth s e refl
test_by s t false e = none_gives (λ s. Has s (truly t)) s e

pub comparison_has : (a b s : ExprKind) (t : Truth) → comparison a b ≡ Some s → Has s (truly t)
comparison_has sort.Truth sort.Truth s t e = none_gives (λ s. Has s (truly t)) s e
comparison_has sort.Truth (sort.Value l m) s t e = none_gives (λ s. Has s (truly t)) s e
comparison_has (sort.Value k n) sort.Truth s t e = none_gives (λ s. Has s (truly t)) s e
comparison_has (sort.Value k n) (sort.Value l m) s t e = test_by s t (are_comparable k l) e

pub denied_has : (a s : ExprKind) (t : Truth) → truth_kind a ≡ Some s → Has s (truly t)
denied_has sort.Truth s t e = some_gives (λ s. Has s (truly t)) sort.Truth s e refl
denied_has (sort.Value k n) s t e = none_gives (λ s. Has s (truly t)) s e

pub null_has : (a s : ExprKind) (t : Truth) → null_test a ≡ Some s → Has s (truly t)
null_has sort.Truth s t e = none_gives (λ s. Has s (truly t)) s e
null_has (sort.Value k n) s t e = some_gives (λ s. Has s (truly t)) sort.Truth s e refl

-- texts

joined_by_length : (s t : List ℕ) (b : Bool) → nat_le (length s + length t) 4096 ≡ b
    → HasValue (cond b (bytes (s ++ t)) nothing) kind.Text true
joined_by_length s t true few = (refl, let h : length s + length t ≤ 4096 = leb-true _ _ few in rw length-append h)
joined_by_length s t false few = refl

joined_value : (x y : Meaning) (n m : Bool) → HasValue x kind.Text n → HasValue y kind.Text m
    → HasValue (followed_by x y) kind.Text true
joined_value nothing y n m h i = refl
joined_value (bytes s) nothing n m h i = refl
joined_value (bytes s) (bytes t) n m h i = joined_by_length s t (nat_le (length s + length t) 4096) refl
joined_value (bytes s) (units z p) n m h i = none_gives (λ p. HasValue nothing kind.Text true) p i.0
joined_value (bytes s) (truly t) n m h i = absurd i
joined_value (units z p) y n m h i = none_gives (λ p. HasValue (followed_by (units z p) y) kind.Text true) p h.0
joined_value (truly t) y n m h i = absurd h

pub texts_has : (a b s : ExprKind) (x y : Meaning) → Has a x → Has b y → texts a b ≡ Some s → Has s (followed_by x y)
texts_has sort.Truth b s x y h i e = none_gives (λ s. Has s (followed_by x y)) s e
texts_has (sort.Value kind.Int n) b s x y h i e = none_gives (λ s. Has s (followed_by x y)) s e
texts_has (sort.Value (kind.Dec p) n) b s x y h i e = none_gives (λ s. Has s (followed_by x y)) s e
texts_has (sort.Value kind.Text n) sort.Truth s x y h i e = none_gives (λ s. Has s (followed_by x y)) s e
texts_has (sort.Value kind.Text n) (sort.Value kind.Int m) s x y h i e = none_gives (λ s. Has s (followed_by x y)) s e
texts_has (sort.Value kind.Text n) (sort.Value (kind.Dec q) m) s x y h i e = none_gives (λ s. Has s (followed_by x y)) s e
texts_has (sort.Value kind.Text n) (sort.Value kind.Text m) s x y h i e =
    some_gives (λ s. Has s (followed_by x y)) (sort.Value kind.Text true) s e (tt, joined_value x y n m h.1 i.1)

length_value : (x : Meaning) (n : Bool) → HasValue x kind.Text n → HasValue (byte_count x) kind.Int n
length_value nothing n h = h
length_value (units z p) n h = none_gives (λ p. HasValue (byte_count (units z p)) kind.Int n) p h.0
length_value (bytes t) n h =
    let fit : FitsSigned w64 (pos (length t)) = record { sfits = omega (arith, h.1) } in
    subst (λ m. HasValue m kind.Int n) (sym (inside (pos (length t)) 0 fit (omega arith))) (refl, fit, omega arith)
length_value (truly t) n h = absurd h

pub length_has : (a s : ExprKind) (x : Meaning) → Has a x → length_kind a ≡ Some s → Has s (byte_count x)
length_has sort.Truth s x h e = none_gives (λ s. Has s (byte_count x)) s e
length_has (sort.Value kind.Int n) s x h e = none_gives (λ s. Has s (byte_count x)) s e
length_has (sort.Value (kind.Dec p) n) s x h e = none_gives (λ s. Has s (byte_count x)) s e
length_has (sort.Value kind.Text n) s x h e =
    some_gives (λ s. Has s (byte_count x)) (sort.Value kind.Int n) s e (tt, length_value x n h.1)

-- one of two values

same_kind : (k l : ColumnKind) → is_same_kind k l ≡ true → l ≡ k
same_kind kind.Int kind.Int e = refl
same_kind kind.Int (kind.Dec q) e = absurd (false≢true e)
same_kind kind.Int kind.Text e = absurd (false≢true e)
same_kind (kind.Dec p) kind.Int e = absurd (false≢true e)
same_kind (kind.Dec p) (kind.Dec q) e = ap kind.Dec (sym (eqb-true p q e))
same_kind (kind.Dec p) kind.Text e = absurd (false≢true e)
same_kind kind.Text kind.Int e = absurd (false≢true e)
same_kind kind.Text (kind.Dec q) e = absurd (false≢true e)
same_kind kind.Text kind.Text e = refl

one_by : (k l : ColumnKind) (n : Bool) (s : ExprKind) (m : Meaning) → HasScale k → (l ≡ k → HasValue m k n)
    → (b : Bool) → is_same_kind k l ≡ b → cond b (Some (sort.Value k n)) None ≡ Some s → Has s m
one_by k l n s m scale h true same e = some_gives (λ s. Has s m) (sort.Value k n) s e (scale, h (same_kind k l same))
one_by k l n s m scale h false same e = none_gives (λ s. Has s m) s e

first_value : (x y : Meaning) (k : ColumnKind) (n m : Bool) → HasValue x k n → HasValue y k m → HasValue (first_of x y) k m
first_value nothing y k n m h i = i
first_value (units z p) y k n m h i = h
first_value (bytes t) y k n m h i = h
first_value (truly t) y k n m h i = absurd h

pub coalesced_has : (a b s : ExprKind) (x y : Meaning) → Has a x → Has b y → one_kind (λ n m. m) a b ≡ Some s → Has s (first_of x y)
coalesced_has sort.Truth sort.Truth s x y h i e = none_gives (λ s. Has s (first_of x y)) s e
coalesced_has sort.Truth (sort.Value l m) s x y h i e = none_gives (λ s. Has s (first_of x y)) s e
coalesced_has (sort.Value k n) sort.Truth s x y h i e = none_gives (λ s. Has s (first_of x y)) s e
coalesced_has (sort.Value k n) (sort.Value l m) s x y h i e =
    one_by k l m s (first_of x y) h.0 (λ same. first_value x y k n m h.1 (subst (λ l. HasValue y l m) same i.1))
    (is_same_kind k l) refl e

nullable_left : (x : Meaning) (k : ColumnKind) (n m : Bool) → HasValue x k n → HasValue x k (n || m)
nullable_left nothing k n m h = rw h refl
nullable_left (units z p) k n m h = h
nullable_left (bytes t) k n m h = h
nullable_left (truly t) k n m h = h

or_true : (n m : Bool) → m ≡ true → (n || m) ≡ true
or_true true m h = refl
or_true false m h = h

nullable_right : (x : Meaning) (k : ColumnKind) (n m : Bool) → HasValue x k m → HasValue x k (n || m)
nullable_right nothing k n m h = or_true n m h
nullable_right (units z p) k n m h = h
nullable_right (bytes t) k n m h = h
nullable_right (truly t) k n m h = h

choice_value : (t : Truth) (x y : Meaning) (k : ColumnKind) (n m : Bool) → HasValue x k n → HasValue y k m
    → HasValue (choice t x y) k (n || m)
choice_value truth.True x y k n m h i = nullable_left x k n m h
choice_value truth.False x y k n m h i = nullable_right y k n m i
choice_value truth.Unknown x y k n m h i = nullable_right y k n m i

pub choice_has : (c a b s : ExprKind) (t : Truth) (x y : Meaning) → Has a x → Has b y → choice_kind c a b ≡ Some s → Has s (choice t x y)
choice_has (sort.Value j o) a b s t x y h i e = none_gives (λ s. Has s (choice t x y)) s e
choice_has sort.Truth sort.Truth sort.Truth s t x y h i e = none_gives (λ s. Has s (choice t x y)) s e
choice_has sort.Truth sort.Truth (sort.Value l m) s t x y h i e = none_gives (λ s. Has s (choice t x y)) s e
choice_has sort.Truth (sort.Value k n) sort.Truth s t x y h i e = none_gives (λ s. Has s (choice t x y)) s e
choice_has sort.Truth (sort.Value k n) (sort.Value l m) s t x y h i e =
    one_by k l (n || m) s (choice t x y) h.0
    (λ same. choice_value t x y k n m h.1 (subst (λ l. HasValue y l m) same i.1)) (is_same_kind k l) refl e
