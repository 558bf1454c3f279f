-- Names that differ: where each stands, and lists of them one behind the other.
use Rattle.std.proofs.Common.{◌≡◌, ℕ, zero, suc, ◌+◌, List, [], ◌∷◌, ◌++◌, length, bytes_eq, slice_get, find, map, Bool, true, false, All, refl, sym, ap, ◌∙◌, ◌⊎◌, inl, inr, Some, subst, arith}
use Rattle.std.specs.List.{list_any, position_from}
use Rattle.std.proofs.lemmas.Bool.{cases_Bool, both_ways, or_parts, or_from, and_parts}
use Rattle.std.proofs.lemmas.List.Folds.{list_any-append, list_any_none}
use Rattle.std.proofs.lemmas.List.Elements.{All-head, All-tail, All-weaker}
use Rattle.std.proofs.lemmas.Option.{same_Some}
use Rattle.std.proofs.lemmas.Iterator.Adapters.{position_from-zero}
use Rattle.std.proofs.lemmas.Slice.Eq.{bytes_eq-Decides}
use Rattle.tuple_schema.specs.Schemas.{are_distinct}
use Rattle.tuple_schema.specs.Texts.{is_among}
use Rattle.flow_types.specs.Names.{place_of}
use Rattle.flow_types.proofs.Columns.{differ_back}

pub same_text : (a b : List ℕ) → bytes_eq a b ≡ true → a ≡ b
same_text a b same = (bytes_eq-Decides a b).0 same

pub text_same : (a : List ℕ) → bytes_eq a a ≡ true
text_same a = (bytes_eq-Decides a a).1 refl

-- a test that no element passes fails at each
pub any_fails : {X : Type 0} (test : X → Bool) (xs : List X) (k : ℕ) (x : X) → list_any test xs ≡ false → slice_get xs k ≡ Some x → test x ≡ false
any_fails test [] k x none at = absurd (cc)
any_fails test (y ∷ ys) zero x none at =
    let same : y ≡ x = same_Some _ _ at in
    rw (← same) (or_parts (test y) (list_any test ys) none).0
any_fails test (y ∷ ys) (suc k) x none at = any_fails test ys k x (or_parts (test y) (list_any test ys) none).1 at

-- a test that some element passes
pub any_passes : {X : Type 0} (test : X → Bool) (xs : List X) → list_any test xs ≡ true → (k : ℕ) × (x : X) × (slice_get xs k ≡ Some x) × (test x ≡ true)
any_passes test [] some = absurd (cc)
any_passes test (y ∷ ys) some =
    elim (cases_Bool (test y)) [
      | inl passes ↦ (0, y, refl, passes)
      | inr fails ↦
          let rest = any_passes test ys (rw fails at some) in
          (suc rest.0, rest.1, rest.2, rest.3)
    ]

pub first_apart : (n : List ℕ) (ns : List (List ℕ)) → are_distinct (n ∷ ns) ≡ true → list_any (bytes_eq n) ns ≡ false
first_apart n ns apart =
    elim (cases_Bool (list_any (bytes_eq n) ns)) [
      | inl some ↦ absurd (both_ways (are_distinct (n ∷ ns)) (rw some refl) apart)
      | inr none ↦ none
    ]

pub rest_apart : (n : List ℕ) (ns : List (List ℕ)) → are_distinct (n ∷ ns) ≡ true → are_distinct ns ≡ true
rest_apart n ns apart = (and_parts _ _ apart).1

placed_from : (names : List (List ℕ)) (k j : ℕ) (x : List ℕ) → are_distinct names ≡ true → slice_get names j ≡ Some x → position_from (λ n. bytes_eq n x) k names ≡ Some (k + j)
placed_from [] k j x apart at = absurd (cc)
placed_from (n ∷ ns) k zero x apart at =
    let same : n ≡ x = same_Some _ _ at in
    let here : k ≡ k + 0 = omega arith in
    rw (same, text_same x) (ap Some here)
placed_from (n ∷ ns) k (suc j) x apart at =
    let other : bytes_eq n x ≡ false = any_fails (bytes_eq n) ns j x (first_apart n ns apart) at in
    let further : (k + 1) + j ≡ k + suc j = omega arith in
    rw other (placed_from ns (k + 1) j x (rest_apart n ns apart) at ∙ ap Some further)

-- among names that differ each has its own place
pub placed : (names : List (List ℕ)) (j : ℕ) (x : List ℕ) → are_distinct names ≡ true → slice_get names j ≡ Some x → place_of names x ≡ Some j
placed names j x apart at =
    let same : 0 + j ≡ j = omega arith in
    position_from-zero (λ n. bytes_eq n x) names ∙ placed_from names 0 j x apart at ∙ ap Some same

found_from : (names : List (List ℕ)) (k q : ℕ) (x : List ℕ) → position_from (λ n. bytes_eq n x) k names ≡ Some q → (j : ℕ) × (k + j ≡ q) × (slice_get names j ≡ Some x)
found_from [] k q x is = absurd (cc)
found_from (n ∷ ns) k q x is =
    elim (cases_Bool (bytes_eq n x)) [
      | inl same ↦
          let here : k ≡ q = same_Some _ _ (rw same at is) in
          (0, omega (arith, here), ap Some (same_text n x same))
      | inr other ↦
          let rest = found_from ns (k + 1) q x (rw other at is) in
          let sum = rest.1 in
          (suc rest.0, omega (arith, sum), rest.2)
    ]

-- at the place of a name stands the name
pub found : (names : List (List ℕ)) (q : ℕ) (x : List ℕ) → place_of names x ≡ Some q → slice_get names q ≡ Some x
found names q x is =
    let at = found_from names 0 q x (sym (position_from-zero (λ n. bytes_eq n x) names) ∙ is) in
    let same : at.0 ≡ q = let sum = at.1 in omega (arith, sum) in
    subst (λ j. slice_get names j ≡ Some x) same at.2

-- names that differ, behind names of which none is among them
pub distinct_behind : (xs ys : List (List ℕ)) → are_distinct xs ≡ true → are_distinct ys ≡ true → All (λ y. is_among xs y ≡ false) ys → are_distinct (xs ++ ys) ≡ true
distinct_behind [] ys first second apart = second
distinct_behind (x ∷ xs) ys first second apart =
    let others : list_any (bytes_eq x) ys ≡ false =
    list_any_none (bytes_eq x) ys (All-weaker (λ y. is_among (x ∷ xs) y ≡ false) (λ y. bytes_eq x y ≡ false) (λ y none. differ_back y x (or_parts (bytes_eq y x) (is_among xs y) none).0) ys apart) in
    let none : list_any (bytes_eq x) (xs ++ ys) ≡ false = list_any-append (bytes_eq x) xs ys ∙ or_from _ _ (first_apart x xs first) others in
    let rest = distinct_behind xs ys (rest_apart x xs first) second
    (All-weaker (λ y. is_among (x ∷ xs) y ≡ false) (λ y. is_among xs y ≡ false) (λ y none. (or_parts (bytes_eq y x) (is_among xs y) none).1) ys apart) in
    rw (none, rest) refl

-- an element of two lists, one behind the other, is of the first or of the second
pub either_list : {X : Type 0} (xs ys : List X) (k : ℕ) (x : X) → slice_get (xs ++ ys) k ≡ Some x → (slice_get xs k ≡ Some x) ⊎ ((j : ℕ) × (slice_get ys j ≡ Some x))
either_list [] ys k x at = inr (k, at)
either_list (y ∷ xs) ys zero x at = inl at
either_list (y ∷ xs) ys (suc k) x at = either_list xs ys k x at

pub at_front : {X : Type 0} (xs ys : List X) (k : ℕ) (x : X) → slice_get xs k ≡ Some x → slice_get (xs ++ ys) k ≡ Some x
at_front [] ys k x at = absurd (cc)
at_front (y ∷ xs) ys zero x at = at
at_front (y ∷ xs) ys (suc k) x at = at_front xs ys k x at

pub at_back : {X : Type 0} (xs ys : List X) (k : ℕ) (x : X) → slice_get ys k ≡ Some x → slice_get (xs ++ ys) (length xs + k) ≡ Some x
at_back [] ys k x at = let same : 0 + k ≡ k = omega arith in rw same at
at_back (y ∷ xs) ys k x at =
    let same : length (y ∷ xs) + k ≡ suc (length xs + k) = omega arith in
    rw same (at_back xs ys k x at)

pub of_mapped : {X Y : Type 0} (f : X → Y) (xs : List X) (k : ℕ) (y : Y) → slice_get (map f xs) k ≡ Some y → (x : X) × (slice_get xs k ≡ Some x) × (f x ≡ y)
of_mapped f [] k y at = absurd (cc)
of_mapped f (x ∷ xs) zero y at = (x, refl, same_Some _ _ at)
of_mapped f (x ∷ xs) (suc k) y at = of_mapped f xs k y at

pub in_mapped : {X Y : Type 0} (f : X → Y) (xs : List X) (k : ℕ) (x : X) → slice_get xs k ≡ Some x → slice_get (map f xs) k ≡ Some (f x)
in_mapped f [] k x at = absurd (cc)
in_mapped f (y ∷ xs) zero x at = ap Some (ap f (same_Some _ _ at))
in_mapped f (y ∷ xs) (suc k) x at = in_mapped f xs k x at

pub find_passes : {X : Type 0} (test : X → Bool) (xs : List X) (x : X) → find test xs ≡ Some x → test x ≡ true
find_passes test [] x is = absurd (cc)
find_passes test (y ∷ ys) x is =
    elim (cases_Bool (test y)) [
      | inl passes ↦ let same : y ≡ x = same_Some _ _ (rw passes at is) in rw (← same) passes
      | inr fails ↦ find_passes test ys x (rw fails at is)
    ]

pub find_all : {X : Type 0} (P : X → Type 0) (test : X → Bool) (xs : List X) (x : X) → All P xs → find test xs ≡ Some x → P x
find_all P test [] x all is = absurd (cc)
find_all P test (y ∷ ys) x all is =
    elim (cases_Bool (test y)) [
      | inl passes ↦ let same : y ≡ x = same_Some _ _ (rw passes at is) in subst P same (All-head P y ys all)
      | inr fails ↦ find_all P test ys x (All-tail P y ys all) (rw fails at is)
    ]
