-- The names of the nodes of a raw flow, by place.
use Rattle.std.proofs.Common.{◌≡◌, ℕ, zero, suc, ◌-◌, List, [], ◌∷◌, ◌++◌, map, length, get_or, slice_get, Some, None, refl, ap, ◌∙◌, arith}
use Rattle.std.proofs.lemmas.List.{append-nil}
use Rattle.std.proofs.lemmas.Option.{same_Some}
use Rattle.workflow_file.specs.declared.raw.RawSource.{RawSource}
use Rattle.workflow_file.specs.declared.raw.RawNode.{RawNode}
use Rattle.workflow_file.specs.declared.raw.RawFlow.{RawFlow}
use Rattle.flow_types.specs.Names.{name_at}
use Rattle.flow_types.specs.Graph.{names_of}

module _ {X : Type 0} (name : X → List ℕ) where
  at_first : (xs : List X) (rest : List (List ℕ)) (place : ℕ) (x : X) → slice_get xs place ≡ Some x → get_or (map name xs ++ rest) place [] ≡ name x
  at_first [] rest place x is = let no : None ≡ Some x = is in cc
  at_first (y ∷ xs) rest zero x is = ap name (same_Some _ _ is)
  at_first (y ∷ xs) rest (suc place) x is = at_first xs rest place x is

  behind : (xs : List X) (rest : List (List ℕ)) (place : ℕ) → slice_get xs place ≡ None → get_or (map name xs ++ rest) place [] ≡ get_or rest (place - length xs) []
  behind [] rest place none = let same : place - 0 ≡ place = omega arith in rw same refl
  behind (x ∷ xs) rest zero none = let no : Some x ≡ None = none in cc
  behind (x ∷ xs) rest (suc place) none =
      let same : suc place - length (x ∷ xs) ≡ place - length xs = omega arith in
      rw same (behind xs rest place none)

  at_last : (xs : List X) (place : ℕ) (x : X) → slice_get xs place ≡ Some x → get_or (map name xs) place [] ≡ name x
  at_last xs place x is = rw (← append-nil (map name xs)) (at_first xs [] place x is)

  past : (xs : List X) (place : ℕ) → slice_get xs place ≡ None → get_or (map name xs) place [] ≡ []
  past [] place none = refl
  past (x ∷ xs) zero none = let no : Some x ≡ None = none in cc
  past (x ∷ xs) (suc place) none = past xs place none

module _ (raw : RawFlow) (place : ℕ) where
  pub of_source : (s : RawSource) → slice_get raw.sources place ≡ Some s → name_at (names_of raw) place ≡ s.name
  of_source s is = at_first (λ (t : RawSource). t.name) raw.sources _ place s is

  module _ (none : slice_get raw.sources place ≡ None) where
    pub of_node : (n : RawNode) → slice_get raw.nodes (place - length raw.sources) ≡ Some n → name_at (names_of raw) place ≡ n.name
    of_node n is = behind (λ (t : RawSource). t.name) raw.sources _ place none ∙ at_last (λ (m : RawNode). m.name) raw.nodes _ n is

    pub no_node : slice_get raw.nodes (place - length raw.sources) ≡ None → name_at (names_of raw) place ≡ []
    no_node past_end = behind (λ (t : RawSource). t.name) raw.sources _ place none ∙ past (λ (m : RawNode). m.name) raw.nodes _ past_end
