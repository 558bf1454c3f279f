-- Distinct tuples, with one tuple more.
use Rattle.std.proofs.Common.{◌≡◌, ℕ, ◌+◌, ◌<◌, length, take, slice_get, Some, List, [], ◌∷◌, ◌++◌, append-nil, Bool, true, false, not, cond, ◌||◌, refl, sym, ap, ◌∙◌, inl, inr}
use Rattle.std.specs.List.{filter, list_any}
use Rattle.std.proofs.lemmas.Bool.{cases_Bool, false≢true}
use Rattle.std.proofs.lemmas.List.{map_more, take_more}
use Rattle.std.proofs.lemmas.List.Elements.{filter-append}
use Rattle.std.proofs.lemmas.Option.{get_or_from_slice_get}
use Rattle.tuple_schema.specs.Tuples.{part}
use Rattle.list_algebra.specs.Bags.{Tuple, same}
use Rattle.list_algebra.specs.Groups.{distinct, groups}
use Rattle.list_algebra.specs.Keys.{parts}
use Rattle.list_algebra.proofs.Same.{same-equal, same-itself}
use Rattle.kind_laws.specs.Keys.{with_key}

-- what is left of a list with one element more, where it is kept and where it isn't
kept_known : {X : Type 0} (keeps : X → Bool) (known : Bool) (ys : List X) (x : X) → keeps x ≡ false
    → filter keeps (cond known ys (ys ++ x ∷ [])) ≡ filter keeps ys
kept_known keeps true ys x out = refl
kept_known keeps false ys x out =
    filter-append keeps ys (x ∷ []) ∙ ap (λ b. filter keeps ys ++ cond b (x ∷ []) []) out ∙ append-nil (filter keeps ys)

kept_new : {X : Type 0} (keeps : X → Bool) (known : Bool) (ys : List X) (x : X) → keeps x ≡ true
    → filter keeps (cond known ys (ys ++ x ∷ [])) ≡ cond known (filter keeps ys) (filter keeps ys ++ x ∷ [])
kept_new keeps true ys x inside = refl
kept_new keeps false ys x inside =
    filter-append keeps ys (x ∷ []) ∙ ap (λ b. filter keeps ys ++ cond b (x ∷ []) []) inside

pub same_back : (x y : Tuple) → same x y ≡ true → same y x ≡ true
same_back x y h = let e = same-equal x y h in rw e (same-itself y)

pub differ_back : (x y : Tuple) → same x y ≡ false → same y x ≡ false
differ_back x y h =
    elim (cases_Bool (same y x)) [
      | inl equal ↦ absurd (false≢true (sym h ∙ same_back y x equal))
      | inr other ↦ other
    ]

-- a tuple is among others as it is among those of them that differ from a first one, where it differs from that
module _ (first x : Tuple) (differ : same first x ≡ false) where
  pub among_others : (ys : List Tuple) → list_any (same x) (filter (λ t. not (same first t)) ys) ≡ list_any (same x) ys
  among_others [] = refl
  among_others (y ∷ ys) =
      let others : List Tuple → List Tuple = filter (λ t. not (same first t)) in
      elim (cases_Bool (same first y)) [
        | inl equal ↦
            let e = same-equal first y equal in
            let none : same x y ≡ false = rw (← e) (differ_back first x differ) in
            ap (λ b. list_any (same x) (cond (not b) (y ∷ others ys) (others ys))) equal ∙ among_others ys
            ∙ ap (λ b. b || list_any (same x) ys) (sym none)
        | inr other ↦
            ap (λ b. list_any (same x) (cond (not b) (y ∷ others ys) (others ys))) other
            ∙ ap (λ b. same x y || b) (among_others ys)
      ]

others_with : (first x : Tuple) (ys : List Tuple)
    → first ∷ filter (λ t. not (same first t)) (with_key same ys x) ≡ with_key same (first ∷ filter (λ t. not (same first t)) ys) x
others_with first x ys =
    let keeps : Tuple → Bool = λ t. not (same first t) in
    let kept : List Tuple = filter keeps ys in
    elim (cases_Bool (same first x)) [
      | inl equal ↦
          ap (λ zs. first ∷ zs) (kept_known keeps (list_any (same x) ys) ys x (ap not equal))
          ∙ ap (λ b. cond (b || list_any (same x) kept) (first ∷ kept) (first ∷ kept ++ x ∷ [])) (sym (same_back first x equal))
      | inr other ↦
          ap (λ zs. first ∷ zs) (kept_new keeps (list_any (same x) ys) ys x (ap not other))
          ∙ behind first (list_any (same x) ys) kept x
          ∙ ap (λ b. cond b (first ∷ kept) (first ∷ kept ++ x ∷ [])) (sym (among_others first x other ys))
          ∙ ap (λ b. cond (b || list_any (same x) kept) (first ∷ kept) (first ∷ kept ++ x ∷ [])) (sym (differ_back first x other))
    ]
  where
    behind : (first : Tuple) (known : Bool) (kept : List Tuple) (x : Tuple)
        → first ∷ cond known kept (kept ++ x ∷ []) ≡ cond known (first ∷ kept) (first ∷ kept ++ x ∷ [])
    behind first true kept x = refl
    behind first false kept x = refl

-- the distinct tuples of a list with one more: it comes last where it is new
pub distinct_more : (xs : List Tuple) (x : Tuple) → distinct (xs ++ x ∷ []) ≡ with_key same (distinct xs) x
distinct_more [] x = refl
distinct_more (first ∷ rest) x =
    ap (λ ys. first ∷ filter (λ t. not (same first t)) ys) (distinct_more rest x) ∙ others_with first x (distinct rest)

-- the same of one row more, and of its group
pub distinct_next : (rows : List Tuple) (number : ℕ) (row : Tuple) → number < length rows → slice_get rows number ≡ Some row
    → distinct (take (number + 1) rows) ≡ with_key same (distinct (take number rows)) row
distinct_next rows number row small there =
    ap distinct (take_more rows number [] small ∙ ap (λ r. take number rows ++ r ∷ []) (get_or_from_slice_get rows number row [] there))
    ∙ distinct_more (take number rows) row

pub groups_next : (cols : List ℕ) (rows : List Tuple) (number : ℕ) (row : Tuple) → number < length rows → slice_get rows number ≡ Some row
    → groups cols (take (number + 1) rows) ≡ with_key same (groups cols (take number rows)) (part row cols)
groups_next cols rows number row small there =
    ap distinct (map_more (λ t. part t cols) rows number [] small
    ∙ ap (λ r. parts cols (take number rows) ++ part r cols ∷ []) (get_or_from_slice_get rows number row [] there))
    ∙ distinct_more (parts cols (take number rows)) (part row cols)
