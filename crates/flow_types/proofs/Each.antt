-- What is made of the items of a list, one item more or the fault of one.
use Rattle.std.proofs.Common.{◌≡◌, ℕ, ◌+◌, ◌<◌, List, [], ◌∷◌, ◌++◌, take, drop, get_or, length, refl, sym, ◌∙◌, ap, subst, Result, Ok, Err}
use Rattle.std.proofs.lemmas.List.{take_more, drop_more, take-append-drop}
use Rattle.tuple_schema.specs.declared.memory.Stop.{Stop}
use Rattle.tuple_schema.specs.declared.memory.Stop.TheVariants as stop
use Rattle.tuple_schema.specs.Stops.{Fails}
use Rattle.flow_types.specs.Each.{each_made}
use Rattle.flow_types.proofs.Made.{bound}

module _ {X Y F : Type 0} (make : X → Result Y F) where
  first_made : (x : X) (xs : List X) (y : Y) (ys : List Y) → make x ≡ Ok y → each_made make xs ≡ Ok ys → each_made make (x ∷ xs) ≡ Ok (y ∷ ys)
  first_made x xs y ys first rest = rw (first, rest) refl

  first_fine : (x : X) (xs : List X) (y : Y) (fault : F) → make x ≡ Ok y → each_made make xs ≡ Err fault → each_made make (x ∷ xs) ≡ Err fault
  first_fine x xs y fault first rest = rw (first, rest) refl

  made_last : (xs : List X) (x : X) (ys : List Y) (y : Y) → each_made make xs ≡ Ok ys → make x ≡ Ok y → each_made make (xs ++ x ∷ []) ≡ Ok (ys ++ y ∷ [])
  made_last [] x ys y before is =
      let none : [] ≡ ys = cc in
      subst (λ zs. each_made make (x ∷ []) ≡ Ok (zs ++ y ∷ [])) none (first_made x [] y [] is refl)
  made_last (z ∷ xs) x ys y before is =
      let one = bound (make z) _ ys before in
      let others = bound (each_made make xs) _ ys one.2 in
      let same : one.0 ∷ others.0 ≡ ys = cc in
      subst (λ zs. each_made make (z ∷ (xs ++ x ∷ [])) ≡ Ok (zs ++ y ∷ [])) same
      (first_made z (xs ++ x ∷ []) one.0 (others.0 ++ y ∷ []) one.1 (made_last xs x others.0 y others.1 is))

  made_fails : (xs rest : List X) (x : X) (ys : List Y) (fault : F) → each_made make xs ≡ Ok ys → make x ≡ Err fault → each_made make (xs ++ x ∷ rest) ≡ Err fault
  made_fails [] rest x ys fault before is = rw is refl
  made_fails (z ∷ xs) rest x ys fault before is =
      let one = bound (make z) _ ys before in
      let others = bound (each_made make xs) _ ys one.2 in
      first_fine z (xs ++ x ∷ rest) one.0 fault one.1 (made_fails xs rest x others.0 fault others.1 is)

  module _ (xs : List X) (i : ℕ) (x : X) (h : i < length xs) (item : x ≡ get_or xs i x) (ys : List Y) (before : each_made make (take i xs) ≡ Ok ys) where
    pub made_more : (y : Y) → make x ≡ Ok y → each_made make (take (i + 1) xs) ≡ Ok (ys ++ y ∷ [])
    made_more y is = rw (take_more xs i x h, ← item) (made_last (take i xs) x ys y before is)

    pub made_ends : (e : Stop F) → Fails e (make x) → Fails e (each_made make xs)
    made_ends stop.Memory failed = tt
    made_ends (stop.Fault fault) failed =
        let parts : xs ≡ take i xs ++ x ∷ drop (i + 1) xs = rw item (sym (take-append-drop i xs) ∙ ap (λ zs. take i xs ++ zs) (drop_more xs i x h)) in
        subst (λ zs. each_made make zs ≡ Err fault) (sym parts) (made_fails (take i xs) (drop (i + 1) xs) x ys fault before failed)
