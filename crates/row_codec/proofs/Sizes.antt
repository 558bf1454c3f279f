-- The digits of a size before and behind its point.
use Rattle.std.proofs.Common.{◌≡◌, ◌≢◌, ◌<◌, ◌≤◌, ◌+◌, ◌*◌, ◌-◌, ◌^◌, ℕ, suc, List, [], ◌∷◌, ◌++◌, length, take, drop, min, true, false, eqb, ltb, ◌&&◌, Ok, Err, refl, sym, ap, ◌∙◌, arith, append_assoc, length-append, length-drop, get_or, drop-cons, add-one, inl, inr}
use Rattle.std.proofs.Math.Nat.{le-mul_of_pos_right, one-le-pow}
use Rattle.std.proofs.Math.Bool.{and-false}
use Rattle.std.specs.Char.{is_ascii_digit}
use Rattle.std.specs.List.{list_all}
use Rattle.std.proofs.lemmas.Bool.Decides.{nat_tests}
use Rattle.std.proofs.lemmas.Bool.{cases_lt, le-ltb, lt-ltb, and_parts, and_from}
use Rattle.std.proofs.lemmas.List.{append-nil, nil_from_length, take_all, take-append-drop}
use Rattle.std.proofs.lemmas.List.Folds.{list_all-append}
use Rattle.std.proofs.lemmas.List.Sums.{fold-append}
use Rattle.row_codec.specs.declared.fields.FieldFault.TheVariants as fault
use Rattle.row_codec.specs.Fields.{point, zero_digit, are_digits, digits_value, natural_of, scaled, units_of, whole_part, fraction_part}
use Rattle.row_codec.specs.Numbers.{capped, capped_size, digits_after, begins_with_digit, TakesDigits}

-- ---- digits

pub digits_are : (ds : List ℕ) → 0 < length ds → list_all is_ascii_digit ds ≡ true → are_digits ds ≡ true
digits_are [] some are = absurd (omega arith)
digits_are (d ∷ ds) some are = are

all_other : (ys : List ℕ) → begins_with_digit ys ≡ false → 0 < length ys → list_all is_ascii_digit ys ≡ false
all_other [] other some = absurd (omega arith)
all_other (y ∷ ys) other some = rw other refl

all_with : (xs ys : List ℕ) → begins_with_digit ys ≡ false → 0 < length ys → list_all is_ascii_digit (xs ++ ys) ≡ false
all_with xs ys other some =
    list_all-append is_ascii_digit xs ys ∙ ap (λ b. list_all is_ascii_digit xs && b) (all_other ys other some)
    ∙ and-false (list_all is_ascii_digit xs)

digits_with : (xs ys : List ℕ) → begins_with_digit ys ≡ false → 0 < length ys → are_digits (xs ++ ys) ≡ false
digits_with [] [] other some = absurd (omega arith)
digits_with [] (y ∷ ys) other some = all_other (y ∷ ys) other some
digits_with (x ∷ xs) ys other some = all_with (x ∷ xs) ys other some

-- where the digits of a text end
pub split_here : (text : List ℕ) (i : ℕ) → text ≡ take i text ++ take (length text - i) (drop i text)
split_here text i =
    sym (ap (λ cs. take i text ++ cs) (take_all (length text - i) (drop i text) (omega (arith, length-drop i text))) ∙ take-append-drop i text)

pub stops_here : (text : List ℕ) (i : ℕ) → i < length text → is_ascii_digit (get_or text i 0) ≡ false
    → begins_with_digit (take (length text - i) (drop i text)) ≡ false
stops_here text i below stops =
    let rest : take (length text - i) (drop i text) ≡ get_or text i 0 ∷ drop (suc i) text =
    take_all (length text - i) (drop i text) (omega (arith, length-drop i text)) ∙ drop-cons text i 0 below in
    ap begins_with_digit rest ∙ stops

-- ---- the point

digit_no_point : (c : ℕ) → is_ascii_digit c ≡ true → eqb c point ≡ false
digit_no_point c is = grind (arith, nat_tests)

one_suc : (n : ℕ) → 1 + n ≡ suc n
one_suc n = omega arith

whole_cons : (c : ℕ) (cs : List ℕ) → eqb c point ≡ false → whole_part (c ∷ cs) ≡ c ∷ whole_part cs
whole_cons c cs other = simp (other, one_suc)

fraction_cons : (c : ℕ) (cs : List ℕ) → eqb c point ≡ false → fraction_part (c ∷ cs) ≡ fraction_part cs
fraction_cons c cs other = simp (other, one_suc, add-one)

pub whole_of : (ds rest : List ℕ) → list_all is_ascii_digit ds ≡ true → whole_part (ds ++ rest) ≡ ds ++ whole_part rest
whole_of [] rest are = refl
whole_of (d ∷ ds) rest are =
    let both = and_parts (is_ascii_digit d) (list_all is_ascii_digit ds) are in
    whole_cons d (ds ++ rest) (digit_no_point d both.0) ∙ ap (λ cs. d ∷ cs) (whole_of ds rest both.1)

pub fraction_of : (ds rest : List ℕ) → list_all is_ascii_digit ds ≡ true
    → fraction_part (ds ++ rest) ≡ fraction_part rest
fraction_of [] rest are = refl
fraction_of (d ∷ ds) rest are =
    let both = and_parts (is_ascii_digit d) (list_all is_ascii_digit ds) are in
    fraction_cons d (ds ++ rest) (digit_no_point d both.0) ∙ fraction_of ds rest both.1

-- ---- naturals

pub natural_empty : (text : List ℕ) → length text ≡ 0 → capped_size (natural_of text) ≡ Err fault.NotNumber
unfolding natural_of
natural_empty [] empty = refl
natural_empty (c ∷ cs) empty = absurd (omega arith)

pub natural_other : (text rest : List ℕ) (total : ℕ) → TakesDigits 0 text total rest → 0 < length rest
    → capped_size (natural_of text) ≡ Err fault.NotNumber
unfolding natural_of
natural_other text rest total taken more =
    let none : are_digits text ≡ false = ap are_digits taken.parts ∙ digits_with taken.digits rest taken.stops more in
    rw none refl

pub natural_is : (text rest : List ℕ) (total : ℕ) → TakesDigits 0 text total rest → 0 < length text → length rest ≡ 0
    → capped_size (natural_of text) ≡ Ok total
unfolding natural_of
natural_is text [] total taken some over =
    let same : text ≡ taken.digits = taken.parts ∙ append-nil taken.digits in
    let are : are_digits text ≡ true = ap are_digits same ∙ digits_are taken.digits (rw (← same) some) taken.are in
    rw (are, same) (ap (λ n. Ok n) (sym taken.value))
natural_is text (c ∷ cs) total taken some over = absurd (omega arith)

-- ---- numbers up to 64 bits

pub capped_scaled : (n m : ℕ) → 1 ≤ m → min (capped n * m) (2 ^ 64 - 1) ≡ capped (n * m)
capped_scaled n m some =
    elim (cases_lt n (2 ^ 64)) [
      | inl lt ↦ let same : capped n ≡ n = omega arith in ap (λ k. min (k * m) (2 ^ 64 - 1)) same
      | inr le ↦
          let same : capped n ≡ 2 ^ 64 - 1 = omega arith in
          let more : n ≤ n * m = le-mul_of_pos_right n some in
          rw same (omega (arith, more))
    ]

step_capped : (n d : ℕ) → capped (10 * capped n + d) ≡ capped (10 * n + d)
step_capped n d = omega arith

pub after_capped : (digits : List ℕ) (n : ℕ) → capped (digits_after (capped n) digits) ≡ capped (digits_after n digits)
after_capped [] n = omega arith
after_capped (d ∷ ds) n =
    sym (after_capped ds (10 * capped n + (d - zero_digit)))
    ∙ ap (λ k. capped (digits_after k ds)) (step_capped n (d - zero_digit))
    ∙ after_capped ds (10 * n + (d - zero_digit))

-- ---- units

-- the digits of a text that goes on with a rest behind digits, and how many stand behind the point
pub units_parts : (places : ℕ) (text digits rest whole fraction : List ℕ) → text ≡ digits ++ rest
    → list_all is_ascii_digit digits ≡ true → whole_part rest ≡ whole → fraction_part rest ≡ fraction
    → units_of places text ≡ scaled places ((digits ++ whole) ++ fraction) (length fraction)
unfolding units_of
units_parts places text digits rest whole fraction parts are whole_is fraction_is =
    let before : whole_part text ≡ digits ++ whole =
    ap whole_part parts ∙ whole_of digits rest are ∙ ap (λ cs. digits ++ cs) whole_is in
    let behind : fraction_part text ≡ fraction = ap fraction_part parts ∙ fraction_of digits rest are ∙ fraction_is in
    ap (λ (cs : List ℕ). scaled places (cs ++ fraction_part text) (length (fraction_part text))) before
    ∙ ap (λ (cs : List ℕ). scaled places ((digits ++ whole) ++ cs) (length cs)) behind

no_number : (places size : ℕ) (digits : List ℕ) → are_digits digits ≡ false
    → capped_size (scaled places digits size) ≡ Err fault.NotNumber
no_number places size digits none = rw none refl

pub units_empty : (places : ℕ) (text : List ℕ) → length text ≡ 0
    → capped_size (units_of places text) ≡ Err fault.NotNumber
unfolding units_of
units_empty places [] empty = refl
units_empty places (c ∷ cs) empty = absurd (omega arith)

scaled_up : (n total m scale : ℕ) → total ≡ capped n → scale ≡ m → 1 ≤ m
    → capped (n * m) ≡ min (total * scale) (2 ^ 64 - 1)
scaled_up n total m scale value same some =
    sym (ap (λ k. min (k * scale) (2 ^ 64 - 1)) value ∙ ap (λ k. min (capped n * k) (2 ^ 64 - 1)) same ∙ capped_scaled n m some)

-- digits alone
pub units_whole : (places : ℕ) (text rest : List ℕ) (total scale : ℕ) → TakesDigits 0 text total rest
    → 0 < length text → length rest ≡ 0 → scale ≡ 10 ^ places
    → capped_size (units_of places text) ≡ Ok (min (total * scale) (2 ^ 64 - 1))
units_whole places text [] total scale taken some over scale_is =
    let same : text ≡ taken.digits = taken.parts ∙ append-nil taken.digits in
    let are : are_digits taken.digits ≡ true = digits_are taken.digits (rw (← same) some) taken.are in
    let digits : (taken.digits ++ []) ++ [] ≡ taken.digits =
    append-nil (taken.digits ++ []) ∙ append-nil taken.digits in
    let test : ltb places 0 ≡ false = le-ltb _ _ (omega arith) in
    ap capped_size (units_parts places text taken.digits [] [] [] taken.parts taken.are refl refl ∙ ap (λ (ds : List ℕ). scaled places ds 0) digits)
    ∙ rw (are, test) (ap (λ n. Ok n) (scaled_up (digits_value taken.digits) total (10 ^ (places - 0)) scale taken.value (scale_is ∙ ap (λ k. 10 ^ k) (omega arith)) (one-le-pow (places - 0) 10 (omega arith))))
units_whole places text (c ∷ cs) total scale taken some over scale_is = absurd (omega arith)

-- a byte that is no digit, and no point
pub units_other : (places : ℕ) (text rest : List ℕ) (total c : ℕ) (cs : List ℕ) → TakesDigits 0 text total rest
    → rest ≡ c ∷ cs → eqb c point ≡ false → capped_size (units_of places text) ≡ Err fault.NotNumber
units_other places text rest total c cs taken is other =
    let stops : is_ascii_digit c ≡ false = ap begins_with_digit (sym is) ∙ taken.stops in
    let none : are_digits ((taken.digits ++ (c ∷ whole_part cs)) ++ fraction_part cs) ≡ false =
    ap are_digits (append_assoc taken.digits (c ∷ whole_part cs) (fraction_part cs))
    ∙ digits_with taken.digits (c ∷ (whole_part cs ++ fraction_part cs)) stops (omega arith) in
    ap capped_size (units_parts places text taken.digits rest (c ∷ whole_part cs) (fraction_part cs) taken.parts taken.are (ap whole_part is ∙ whole_cons c cs other) (ap fraction_part is ∙ fraction_cons c cs other))
    ∙ no_number places (length (fraction_part cs)) ((taken.digits ++ (c ∷ whole_part cs)) ++ fraction_part cs) none

-- digits, a point and what follows it
pub record Pointed (text fraction : List ℕ) (whole : ℕ) : Type 0 where
  pub rest : List ℕ
  pub taken : TakesDigits 0 text whole rest
  pub at : rest ≡ point ∷ fraction

pub pointed : (text rest fraction : List ℕ) (whole c : ℕ) → TakesDigits 0 text whole rest → rest ≡ c ∷ fraction
    → c ≡ point → Pointed text fraction whole
pointed text rest fraction whole c taken is dot =
    record { rest = rest; taken = taken; at = is ∙ ap (λ b. b ∷ fraction) dot }

units_point : (places : ℕ) (text fraction : List ℕ) (whole : ℕ) (p : Pointed text fraction whole)
    → units_of places text ≡ scaled places (p.taken.digits ++ fraction) (length fraction)
units_point places text fraction whole p =
    units_parts places text p.taken.digits p.rest [] fraction p.taken.parts p.taken.are (ap whole_part p.at)
    (ap fraction_part p.at)
    ∙ ap (λ (cs : List ℕ). scaled places (cs ++ fraction) (length fraction)) (append-nil p.taken.digits)

-- another byte follows the digits behind the point
pub units_more : (places : ℕ) (text fraction after : List ℕ) (whole total : ℕ) → Pointed text fraction whole
    → TakesDigits whole fraction total after → 0 < length after
    → capped_size (units_of places text) ≡ Err fault.NotNumber
units_more places text fraction after whole total p behind more =
    let regrouped : p.taken.digits ++ fraction ≡ (p.taken.digits ++ behind.digits) ++ after =
    ap (λ cs. p.taken.digits ++ cs) behind.parts ∙ sym (append_assoc p.taken.digits behind.digits after) in
    ap capped_size (units_point places text fraction whole p)
    ∙ no_number places (length fraction) (p.taken.digits ++ fraction)
    (ap are_digits regrouped ∙ digits_with (p.taken.digits ++ behind.digits) after behind.stops more)

-- the point stands alone
pub units_alone : (places : ℕ) (text fraction : List ℕ) (whole : ℕ) → Pointed text fraction whole → length text ≡ 1
    → capped_size (units_of places text) ≡ Err fault.NotNumber
units_alone places text fraction whole p alone =
    let long : length text ≡ length p.taken.digits + length p.rest =
    ap length p.taken.parts ∙ length-append p.taken.digits p.rest in
    let behind : length p.rest ≡ suc (length fraction) = ap length p.at in
    ap capped_size (units_point places text fraction whole p)
    ∙ no_number places (length fraction) (p.taken.digits ++ fraction) (ap are_digits (nil_from_length (p.taken.digits ++ fraction) (omega (arith, length-append p.taken.digits fraction))))

-- the digits before and behind the point
record Digits (digits : List ℕ) (total : ℕ) : Type 0 where
  are : are_digits digits ≡ true
  value : total ≡ capped (digits_value digits)

units_digits : (text fraction after : List ℕ) (whole total : ℕ) (p : Pointed text fraction whole)
    → TakesDigits whole fraction total after → length text ≢ 1 → length after ≡ 0
    → Digits (p.taken.digits ++ fraction) total
units_digits text fraction (c ∷ cs) whole total p behind more over = absurd (omega arith)
units_digits text fraction [] whole total p behind more over =
    let same : fraction ≡ behind.digits = behind.parts ∙ append-nil behind.digits in
    let long : length text ≡ length p.taken.digits + length p.rest =
    ap length p.taken.parts ∙ length-append p.taken.digits p.rest in
    let rest_long : length p.rest ≡ suc (length fraction) = ap length p.at in
    let all : list_all is_ascii_digit (p.taken.digits ++ fraction) ≡ true =
    list_all-append is_ascii_digit p.taken.digits fraction
    ∙ and_from _ _ p.taken.are (ap (list_all is_ascii_digit) same ∙ behind.are) in
    record {
      are = digits_are (p.taken.digits ++ fraction) (omega (arith, length-append p.taken.digits fraction)) all;
      value = behind.value ∙ ap (λ ds. capped (digits_after whole ds)) (sym same)
          ∙ ap (λ n. capped (digits_after n fraction)) p.taken.value
          ∙ after_capped fraction (digits_after 0 p.taken.digits)
          ∙ ap capped (sym (fold-append _ 0 p.taken.digits fraction));
    }

pub units_too_many : (places : ℕ) (text fraction after : List ℕ) (whole total : ℕ) → Pointed text fraction whole
    → TakesDigits whole fraction total after → length text ≢ 1 → length after ≡ 0 → places < length fraction
    → capped_size (units_of places text) ≡ Err fault.TooManyDigits
units_too_many places text fraction after whole total p behind more over many =
    let digits = units_digits text fraction after whole total p behind more over in
    let test : ltb places (length fraction) ≡ true = lt-ltb _ _ many in
    ap capped_size (units_point places text fraction whole p) ∙ rw (digits.are, test) refl

pub units_are : (places : ℕ) (text fraction after : List ℕ) (whole total scale : ℕ) → Pointed text fraction whole
    → TakesDigits whole fraction total after → length text ≢ 1 → length after ≡ 0 → length fraction ≤ places
    → scale ≡ 10 ^ (places - length fraction)
    → capped_size (units_of places text) ≡ Ok (min (total * scale) (2 ^ 64 - 1))
units_are places text fraction after whole total scale p behind more over few scale_is =
    let digits = units_digits text fraction after whole total p behind more over in
    let test : ltb places (length fraction) ≡ false = le-ltb _ _ few in
    ap capped_size (units_point places text fraction whole p) ∙ rw (digits.are, test)
    (ap (λ n. Ok n) (scaled_up (digits_value (p.taken.digits ++ fraction)) total (10 ^ (places - length fraction)) scale digits.value scale_is (one-le-pow (places - length fraction) 10 (omega arith))))
