-- Names that are looked for one after another, in a list whose elements are seen as names.
use Rattle.std.proofs.Common.{◌≡◌, ℕ, ◌+◌, ◌<◌, ◌≤◌, List, [], ◌∷◌, ◌++◌, map, filter_map, take, drop, get_or, length, true, false, refl, sym, ◌∙◌, Option, Some, None, arith}
use Rattle.std.proofs.lemmas.List.{take_more, drop_more, map-append, take-map, get_or-map, length-map}
use Rattle.std.proofs.lemmas.List.Elements.{filter_map-append}
use Rattle.tuple_schema.specs.Texts.{is_among}
use Rattle.flow_types.specs.Names.{again, is_again, unknown, place_of}
use Rattle.flow_types.proofs.Places.{least_is, least_none}

module _ {X : Type 0} (see : X → List ℕ) where
  pub found_more : (names : List (List ℕ)) (ws : List X) (i p : ℕ) (x : X) → i < length ws → x ≡ get_or ws i x → Some p ≡ place_of names (see x)
      → filter_map (place_of names) (map see (take (i + 1) ws)) ≡ filter_map (place_of names) (map see (take i ws)) ++ p ∷ []
  found_more names ws i p x h is there =
      let one : filter_map (place_of names) (map see (x ∷ [])) ≡ p ∷ [] = rw (← there) refl in
      rw (take_more ws i x h, ← is, map-append, filter_map-append, one) refl

  pub known_more : (names : List (List ℕ)) (ws : List X) (i p : ℕ) (x : X) → i < length ws → x ≡ get_or ws i x → Some p ≡ place_of names (see x)
      → unknown names (map see (drop i ws)) ≡ unknown names (map see (drop (i + 1) ws))
  known_more names ws i p x h is there = rw (drop_more ws i x h, ← is, ← there) refl

  pub again_here : (xs : List X) (place : ℕ) (x : X) → place < length xs → x ≡ get_or xs place x
      → is_among (map see (take place xs)) (see x) ≡ is_again (map see xs) place
  again_here xs place x h is = rw (take-map see place xs, get_or-map see xs place x [] h, ← is) refl

  pub again_is : (xs : List X) (place : ℕ) (x : X) → place < length xs → x ≡ get_or xs place x
      → is_among (map see (take place xs)) (see x) ≡ true → ((k : ℕ) → k < place → is_again (map see xs) k ≡ false) → Some place ≡ again (map see xs)
  again_is xs place x h is passes before =
      sym (least_is (length (map see xs)) (is_again (map see xs)) place (rw length-map h) (sym (again_here xs place x h is) ∙ passes) before)

  pub again_none : (xs : List X) (n : ℕ) → length xs ≤ n → ((k : ℕ) → k < n → is_again (map see xs) k ≡ false) → None ≡ again (map see xs)
  again_none xs n h fails =
      let fewer : length (map see xs) ≤ n = rw length-map h in
      sym (least_none (length (map see xs)) (is_again (map see xs)) (λ k less. fails k (omega arith)))

pub filter_more : {X Y : Type 0} (f : X → Option Y) (ws : List X) (i : ℕ) (x : X) (y : Y) → i < length ws → x ≡ get_or ws i x → Some y ≡ f x
    → filter_map f (take (i + 1) ws) ≡ filter_map f (take i ws) ++ y ∷ []
filter_more f ws i x y h is gives =
    let one : filter_map f (x ∷ []) ≡ y ∷ [] = rw (← gives) refl in
    rw (take_more ws i x h, ← is, filter_map-append, one) refl
