-- How often a node is an input.
use Rattle.std.proofs.Common.{◌≡◌, ◌<◌, ◌≤◌, false, nat_lt, Ok, Err, ℕ, ◌+◌, List, [], ◌∷◌, ◌++◌, refl, ap, ◌∙◌, sym, length, take, get_or, arith}
use Rattle.std.specs.List.{concat}
use Rattle.std.proofs.lemmas.List.Folds.{concat-append}
use Rattle.std.proofs.lemmas.List.{append-nil, take_more}
use Rattle.std.proofs.lemmas.Bool.{lt-ltb}
use Rattle.flow_types.specs.declared.fault.SchemaCause.TheVariants as cause
use Rattle.flow_types.specs.Graph.{uses_of, used_once, fault_at}
use Rattle.flow_types.proofs.Places.{least_is, least_none}

-- a node more adds its inputs
pub concat_more : (links : List (List ℕ)) (i : ℕ) (inputs : List ℕ) → i < length links → inputs ≡ get_or links i inputs
    → concat (take (i + 1) links) ≡ concat (take i links) ++ inputs
concat_more links i inputs h is =
    let more : take (i + 1) links ≡ take i links ++ inputs ∷ [] = take_more links i inputs h ∙ ap (λ l. take i links ++ l ∷ []) (sym is) in
    rw (more, concat-append, append-nil) refl

module _ (root : ℕ) (links : List (List ℕ)) where
  pub used_twice : (place : ℕ) → place < length links → 1 < uses_of root links place → ((k : ℕ) → k < place → nat_lt 1 (uses_of root links k) ≡ false)
      → used_once root links ≡ Err (fault_at place cause.UsedTwice)
  used_twice place h more before = rw (least_is (length links) (λ k. nat_lt 1 (uses_of root links k)) place h (lt-ltb 1 _ more) before) refl

  pub used_by_one : (n : ℕ) → length links ≤ n → ((k : ℕ) → k < n → nat_lt 1 (uses_of root links k) ≡ false) → used_once root links ≡ Ok tt
  used_by_one n h once = rw (least_none (length links) (λ k. nat_lt 1 (uses_of root links k)) (λ k less. once k (omega arith))) refl
