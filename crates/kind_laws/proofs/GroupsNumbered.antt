-- Distinct keys, of which each has its place for its number.
use Rattle.std.proofs.Common.{◌≡◌, ℕ, zero, suc, ◌+◌, ◌<◌, ◌==◌, List, [], ◌∷◌, ◌++◌, length, filter, slice_get, Some, Bool, true, false, not, cond, ◌||◌, eq-eqb, refl, sym, ap, subst, ◌∙◌, inl, inr, arith}
use Rattle.std.specs.List.{list_any, position_or_len}
use Rattle.std.proofs.lemmas.Bool.{cases_Bool, cases_eq, cases_lt, ne_eqb, or_parts}
use Rattle.std.proofs.lemmas.List.{length-append}
use Rattle.std.proofs.lemmas.List.Folds.{position_or_len_push}
use Rattle.std.proofs.lemmas.Option.{same_Some, slice_get_within}
use Rattle.tuple_schema.specs.Tuples.{part}
use Rattle.list_algebra.specs.Bags.{Tuple, same}
use Rattle.list_algebra.specs.Groups.{distinct, groups, members}
use Rattle.list_algebra.specs.Keys.{parts}
use Rattle.list_algebra.proofs.Same.{same-equal, same-itself}
use Rattle.kind_laws.specs.Keys.{key_number, with_key}
use Rattle.kind_laws.proofs.DistinctMore.{differ_back, among_others}
use Rattle.kind_laws.proofs.KeysNumbered.{place_behind, key_there, at_end}

-- each key has its place for its number
abbrev pub AreNumbered : List Tuple → Type 0
AreNumbered ks = (i : ℕ) (x : Tuple) → slice_get ks i ≡ Some x → key_number same ks x ≡ i

-- an item among the first ones
pub slice_left : {X : Type 0} (xs ys : List X) (i : ℕ) → i < length xs → slice_get (xs ++ ys) i ≡ slice_get xs i
slice_left [] ys i small = absurd (omega (arith, small))
slice_left (x ∷ xs) ys zero small = refl
slice_left (x ∷ xs) ys (suc i) small = slice_left xs ys i (omega (arith, small))

module _ {K : Type 0} (test : K → Bool) (ks : List K) (k : K) where
  place_kept : position_or_len test ks < length ks → position_or_len test (ks ++ k ∷ []) ≡ position_or_len test ks
  place_kept small =
      position_or_len_push test ks k
      ∙ ap (λ b. cond b (length ks + cond (test k) 0 1) (position_or_len test ks)) (ne_eqb (position_or_len test ks) (length ks) (λ e. omega (arith, e, small)))

  place_last : list_any test ks ≡ false → test k ≡ true → position_or_len test (ks ++ k ∷ []) ≡ length ks
  place_last none passes =
      let zero_more : length ks + 0 ≡ length ks = omega arith in
      position_or_len_push test ks k
      ∙ ap (λ b. cond b (length ks + cond (test k) 0 1) (position_or_len test ks)) (eq-eqb (position_or_len test ks) (length ks) (place_behind test ks none))
      ∙ ap (λ b. length ks + cond b 0 1) passes ∙ zero_more

module _ (ks : List Tuple) (key : Tuple) where
  numbers_new : list_any (same key) ks ≡ false → AreNumbered ks → AreNumbered (ks ++ key ∷ [])
  numbers_new none each i x at =
      elim (cases_lt i (length ks)) [
        | inl small ↦
            let before = each i x (sym (slice_left ks (key ∷ []) i small) ∙ at) in
            place_kept (same x) ks key (omega (arith, before, small)) ∙ before
        | inr large ↦
            let within = slice_get_within (ks ++ key ∷ []) i x at in
            let long = length-append ks (key ∷ []) in
            let last : i ≡ length ks = omega (arith, within, long, large) in
            let is : key ≡ x = same_Some _ _ (sym (at_end ks key) ∙ ap (slice_get (ks ++ key ∷ [])) (sym last) ∙ at) in
            let itself : same key key ≡ true = same-itself key in
            subst (λ y. key_number same (ks ++ key ∷ []) y ≡ i) is (place_last (same key) ks key none itself ∙ sym last)
      ]

  -- and so with one key more
  pub numbers_more : AreNumbered ks → AreNumbered (with_key same ks key)
  numbers_more each =
      elim (cases_Bool (list_any (same key) ks)) [
        | inl some ↦ subst AreNumbered (sym (ap (λ b. cond b ks (ks ++ key ∷ [])) some)) each
        | inr none ↦ subst AreNumbered (sym (ap (λ b. cond b ks (ks ++ key ∷ [])) none)) (numbers_new none each)
      ]

pub no_numbers_yet : AreNumbered []
no_numbers_yet i x at = absurd (cc)

-- the number of the key is that of another one exactly where they are equal
pub number_same : (ks : List Tuple) (key : Tuple) → AreNumbered ks → (i : ℕ) (x : Tuple) → slice_get (with_key same ks key) i ≡ Some x
    → (key_number same ks key == i) ≡ same x key
number_same ks key each i x at =
    let number : ℕ = key_number same ks key in
    let there : slice_get (with_key same ks key) number ≡ Some key = key_there same same-equal ks key in
    elim (cases_eq number i) [
      | inl is ↦
          let e : key ≡ x = same_Some _ _ (sym there ∙ ap (slice_get (with_key same ks key)) is ∙ at) in
          eq-eqb number i is ∙ sym (subst (λ y. same y key ≡ true) e (same-itself key))
      | inr apart ↦
          elim (cases_Bool (same x key)) [
            | inl equal ↦
                let e = same-equal x key equal in
                let all = numbers_more ks key each in
                absurd (apart (sym (all number key there) ∙ sym (ap (key_number same (with_key same ks key)) e) ∙ all i x at))
            | inr other ↦ ne_eqb number i apart ∙ sym other
          ]
    ]

-- among distinct tuples is what is among all
pub any_distinct : (x : Tuple) (xs : List Tuple) → list_any (same x) (distinct xs) ≡ list_any (same x) xs
any_distinct x [] = refl
any_distinct x (first ∷ rest) =
    elim (cases_Bool (same x first)) [
      | inl equal ↦ ap (λ b. b || list_any (same x) (filter (λ t. not (same first t)) (distinct rest))) equal ∙ ap (λ b. b || list_any (same x) rest) (sym equal)
      | inr other ↦
          ap (λ b. same x first || b) (among_others first x (differ_back x first other) (distinct rest) ∙ any_distinct x rest)
    ]

no_members_in : (by : List ℕ) (rows : List Tuple) (key : Tuple) → list_any (same key) (parts by rows) ≡ false → members by rows key ≡ []
no_members_in by [] key none = refl
no_members_in by (row ∷ rows) key none =
    let each = or_parts (same key (part row by)) (list_any (same key) (parts by rows)) none in
    ap (λ b. cond b (row ∷ members by rows key) (members by rows key)) each.0 ∙ no_members_in by rows key each.1

-- a key that is new has no rows yet
pub no_members : (by : List ℕ) (rows : List Tuple) (key : Tuple) → list_any (same key) (groups by rows) ≡ false → members by rows key ≡ []
no_members by rows key none = no_members_in by rows key (sym (any_distinct key (parts by rows)) ∙ none)
