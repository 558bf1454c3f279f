-- What stands in a flow that keeps its rules and is built keeps its own.
use Rattle.std.proofs.Common.{◌≡◌, ◌≢◌, is_some, is_none, ℕ, ◌-◌, ◌<◌, List, length, get_or, slice_get, Bool, true, refl, sym, ◌∙◌, inl, inr, Option, Some, None, option_and_then}
use Rattle.std.specs.List.{list_all}
use Rattle.std.proofs.lemmas.Bool.{and_parts, cases_Bool, both_ways}
use Rattle.std.proofs.lemmas.List.Folds.{list_all_at}
use Rattle.std.proofs.lemmas.Option.{same_Some, slice_get_within, slice_get-get_or}
use Rattle.workflow_file.specs.declared.raw.RawSource.{RawSource}
use Rattle.workflow_file.specs.declared.raw.RawNode.{RawNode}
use Rattle.workflow_file.specs.declared.raw.RawFlow.{RawFlow}
use Rattle.workflow_file.specs.Kept.{KeepsSource, KeepsNode, KeepsRules}
use Rattle.flow_types.specs.Built.{is_built_source, is_built_node, is_built}
use Rattle.flow_types.specs.NodeTexts.{NodeText, source, text_of, text_at}
use Rattle.flow_types.proofs.Said.{Said, by_test, by_columns, by_set, by_join, by_lookup, by_aggregate, by_sort, by_distinct, by_union, said}
use Rattle.flow_types.specs.Linked.{KeepsText}

pub all_pass : {X : Type 0} (p : X → Bool) (xs : List X) (k : ℕ) (d : X) → list_all p xs ≡ true → k < length xs → p (get_or xs k d) ≡ true
all_pass p xs k d all h =
    elim (cases_Bool (p (get_or xs k d))) [
      | inl passes ↦ passes
      | inr fails ↦ absurd (both_ways (list_all p xs) (list_all_at p xs k d h fails) all)
    ]

-- the parts of a flow that is built are
pub built_sources : (raw : RawFlow) → is_built raw ≡ true → list_all is_built_source raw.sources ≡ true
unfolding is_built
built_sources raw built = (and_parts _ _ (and_parts _ _ built).1).0

pub built_nodes : (raw : RawFlow) → is_built raw ≡ true → list_all is_built_node raw.nodes ≡ true
unfolding is_built
built_nodes raw built = (and_parts _ _ (and_parts _ _ built).1).1

is_there : {X : Type 0} (o : Option X) → is_some o ≡ true → o ≡ None → ⊥
is_there (Some x) some none = absurd cc
is_there None some none = absurd cc

-- each node of it says something
pub says_something : (raw : RawFlow) (k : ℕ) (n : RawNode) → is_built raw ≡ true → k < length raw.nodes → n ≡ get_or raw.nodes k n → text_of n ≢ None
says_something raw k n built h item =
    let fine : is_built_node n ≡ true = rw item (all_pass is_built_node raw.nodes k n (built_nodes raw built) h) in
    is_there (text_of n) (and_parts (is_none n.declare) (is_some (text_of n)) fine).1

said_keeps : (n : RawNode) → KeepsNode n → (text : NodeText) → Said n text → KeepsText text
said_keeps n keeps text (by_test test kind at is) = rw (← is) tt
said_keeps n keeps text (by_columns texts kind at is) =
    let fits = rw at at keeps.columns.fits in
    rw (← is) (fits.some, fits.few)
said_keeps n keeps text (by_set texts kind at is) = rw (← is) tt
said_keeps n keeps text (by_join texts kind at is) = rw (← is) tt
said_keeps n keeps text (by_lookup texts kind at is) = rw (← is) tt
said_keeps n keeps text (by_aggregate by makes word kind at is) = rw (← is) (rw at at keeps.make.fits)
said_keeps n keeps text (by_sort names kind at is) = rw (← is) tt
said_keeps n keeps text (by_distinct kind is) = rw (← is) tt
said_keeps n keeps text (by_union names kind at is) =
    let fits = rw at at keeps.inputs.fits in
    rw (← is) fits.some

node_keeps : (n : RawNode) → KeepsNode n → (text : NodeText) → text_of n ≡ Some text → KeepsText text
node_keeps n keeps text is = said_keeps n keeps text (said n text is)

module _ (raw : RawFlow) (keeps : KeepsRules raw) (built : is_built raw ≡ true) (place : ℕ) (text : NodeText) where
  source_keeps : (s : RawSource) → slice_get raw.sources place ≡ Some s → text_at raw place ≡ Some text → KeepsText text
  source_keeps s at says =
      let same : source s ≡ text = same_Some _ _ (rw at at says) in
      let h = slice_get_within raw.sources place s at in
      let item : s ≡ get_or raw.sources place s = same_Some _ _ (sym at ∙ slice_get-get_or raw.sources place s h) in
      let all : list_all is_built_source raw.sources ≡ true = built_sources raw built in
      let kept : KeepsSource s = rw item (keeps.sources place s h) in
      let fine : is_built_source s ≡ true = rw item (all_pass is_built_source raw.sources place s all h) in
      rw (← same) (kept, fine)

  behind_keeps : (o : Option RawNode) → slice_get raw.nodes (place - length raw.sources) ≡ o → option_and_then text_of o ≡ Some text → KeepsText text
  behind_keeps None at says = absurd (cc)
  behind_keeps (Some n) at says =
      let k : ℕ = place - length raw.sources in
      let h = slice_get_within raw.nodes k n at in
      let item : n ≡ get_or raw.nodes k n = same_Some _ _ (sym at ∙ slice_get-get_or raw.nodes k n h) in
      let kept : KeepsNode n = rw item (keeps.nodes k n h) in
      node_keeps n kept text says

  pub keeps_text : text_at raw place ≡ Some text → KeepsText text
  keeps_text says = by (slice_get raw.sources place) refl
    where
      by : (o : Option RawSource) → slice_get raw.sources place ≡ o → KeepsText text
      by (Some s) at = source_keeps s at says
      by None past = behind_keeps (slice_get raw.nodes (place - length raw.sources)) refl (rw past at says)
