-- Names that are numbered in order, and the places that they are found at.
use Rattle.std.proofs.Common.{◌≡◌, ℕ, zero, suc, ◌+◌, ◌<◌, List, [], ◌∷◌, ◌++◌, map, take, get_or, length, false, is_some, IfSome, refl, ap, sym, ◌∙◌, inl, inr, Option, Some, None, bytes_eq, arith}
use Rattle.std.specs.List.{position_from, position_or_len, range_with_len}
use Rattle.std.specs.Map.{keys_of, values_of, lookup}
use Rattle.std.proofs.lemmas.Bool.{cases_Bool, cases_lt, lt-ltb, le-ltb}
use Rattle.std.proofs.lemmas.List.{map-append, take_more}
use Rattle.std.proofs.lemmas.Cmp.{nat_list_eq_equiv}
use Rattle.std.proofs.lemmas.Iterator.Adapters.{position_from-zero}
use Rattle.tuple_schema.specs.Texts.{is_among}
use Rattle.flow_types.specs.Names.{place_of}

module _ {K : Type 0} (see : K → List ℕ) where
  -- a name has a number where it is among those before it
  pub numbered_among : (name : List ℕ) (es : List (K × ℕ)) → is_some (lookup (λ k. bytes_eq name (see k)) es) ≡ is_among (map see (keys_of es)) name
  numbered_among name [] = refl
  numbered_among name (e ∷ es) =
      elim (cases_Bool (bytes_eq name (see e.0))) [
        | inl same ↦ rw same refl
        | inr other ↦ rw other (numbered_among name es)
      ]

  found_from : (k : ℕ) (name : List ℕ) (es : List (K × ℕ)) → values_of es ≡ range_with_len k (length (values_of es))
      → lookup (λ k. bytes_eq name (see k)) es ≡ position_from (λ n. bytes_eq n name) k (map see (keys_of es))
  found_from k name [] are = refl
  found_from k name (e ∷ es) are =
      let first : e.1 ≡ k = cc in
      let others : values_of es ≡ range_with_len (k + 1) (length (values_of es)) = cc in
      let turned : bytes_eq (see e.0) name ≡ bytes_eq name (see e.0) = nat_list_eq_equiv.symm (see e.0) name in
      rw (turned, first, found_from (k + 1) name es others) refl

  -- the number of a name is its first place
  pub numbered_is : (name : List ℕ) (es : List (K × ℕ)) → values_of es ≡ range_with_len 0 (length (values_of es))
      → lookup (λ k. bytes_eq name (see k)) es ≡ place_of (map see (keys_of es)) name
  numbered_is name es are = found_from 0 name es are ∙ sym (position_from-zero (λ n. bytes_eq n name) (map see (keys_of es)))

  module _ {X : Type 0} (look : X → List ℕ) (es : List (K × ℕ)) (xs : List X) (place : ℕ) (x : X) where
    -- the name at a place has a number before where it is among the names before
    pub number_before : (name : List ℕ) (old : Option ℕ) → map see (keys_of es) ≡ map look (take place xs) → name ≡ look x
        → old ≡ lookup (λ k. bytes_eq name (see k)) es → is_some old ≡ is_among (map look (take place xs)) (look x)
    number_before name old names is found = rw (found, ← names, ← is) (numbered_among name es)

    pub names_more : (grown : List (K × ℕ)) (k : K) (n : ℕ) → grown ≡ es ++ (k, n) ∷ [] → map see (keys_of es) ≡ map look (take place xs)
        → place < length xs → x ≡ get_or xs place x → see k ≡ look x → map see (keys_of grown) ≡ map look (take (place + 1) xs)
    names_more grown k n are names h is same = rw (are, map-append, map-append, names, take_more xs place x h, ← is, map-append, same) refl

range_more : (k n : ℕ) → range_with_len k (suc n) ≡ range_with_len k n ++ (k + n) ∷ []
range_more k zero = let same : k + zero ≡ k = omega arith in rw same refl
range_more k (suc n) =
    let same : (k + 1) + n ≡ k + suc n = omega arith in
    ap (λ l. k ∷ l) (range_more (k + 1) n ∙ ap (λ m. range_with_len (k + 1) n ++ m ∷ []) same)

pub numbers_more : {K : Type 0} (es grown : List (K × ℕ)) (k : K) (n : ℕ) → grown ≡ es ++ (k, n) ∷ [] → values_of es ≡ range_with_len 0 n
    → values_of grown ≡ range_with_len 0 (n + 1)
numbers_more es grown k n are numbers =
    let next : n + 1 ≡ suc n = omega arith in
    let same : 0 + n ≡ n = omega arith in
    rw (are, map-append, numbers, next) (sym (range_more 0 n ∙ ap (λ m. range_with_len 0 n ++ m ∷ []) same))

pub no_number : (o : Option ℕ) → is_some o ≡ false → o ≡ None
no_number None none = refl
no_number (Some n) none = absurd (cc)

pub place_within : (names : List (List ℕ)) (name : List ℕ) → IfSome (place_of names name) (λ place. place < length names)
place_within names name =
    elim (cases_lt (position_or_len (λ n. bytes_eq n name) names) (length names)) [
      | inl below ↦ rw (lt-ltb _ _ below) below
      | inr above ↦ rw (le-ltb _ _ above) tt
    ]
