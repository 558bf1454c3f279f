-- The inputs that a node names.
use Rattle.std.proofs.Common.{◌≡◌, ℕ, zero, suc, ◌+◌, ◌-◌, ◌<◌, ◌≤◌, List, [], ◌∷◌, length, map, get_or, codes, Bool, true, false, is_some, refl, ap, sym, subst, ◌∙◌, Option, Some, None, option_to_list, option_and_then, slice_get, IfSome, Ok, arith}
use Rattle.std.proofs.lemmas.List.{append-nil, length-map, length-append, get_or-map, get_or_append_left, get_or-append-add, get_or_past}
use Rattle.std.proofs.lemmas.Option.{same_Some, slice_get_within, slice_get-get_or}
use Rattle.workflow_file.specs.declared.raw.RawSource.{RawSource}
use Rattle.workflow_file.specs.declared.raw.RawNode.{RawNode}
use Rattle.workflow_file.specs.declared.raw.RawFlow.{RawFlow}
use Rattle.tuple_schema.specs.Texts.{is_among}
use Rattle.workflow_file.specs.Nodes.{keys_of}
use Rattle.workflow_file.specs.Kept.{KeepsNode, KeepsRules}
use Rattle.flow_types.specs.Built.{is_built}
use Rattle.flow_types.specs.Graph.{input_names, names_of, needs_of, links_of, inputs_exist}
use Rattle.flow_types.specs.Trees.{inputs_below, IsWhole}
use Rattle.flow_types.proofs.Whole.{whole_inputs}
use Rattle.flow_types.proofs.Links.{inputs_counted}
use Rattle.flow_types.specs.NodeTexts.{NodeText, source, text_of, text_at, inputs_needed}
use Rattle.flow_types.proofs.Said.{Said, by_test, by_columns, by_set, by_join, by_lookup, by_aggregate, by_sort, by_distinct, by_union, said}

is_absent : {X : Type 0} (o : Option X) → is_some o ≡ false → o ≡ None
is_absent None absent = refl
is_absent (Some x) absent = absurd (cc)

abbrev none_of : {X : Type 0} → X → List (List ℕ)
none_of x = []

nothing_at : {X : Type 0} (xs : List X) (place : ℕ) → get_or (map none_of xs) place [] ≡ []
nothing_at [] place = refl
nothing_at (x ∷ xs) zero = refl
nothing_at (x ∷ xs) (suc place) = nothing_at xs place

one_of : (o : Option (List ℕ)) → is_some o ≡ true → length (option_to_list o) ≡ 1
one_of None some = absurd (cc)
one_of (Some name) some = refl

-- the kind's nodes have the key, or they don't
abbrev Has : Bool → List ℕ → List ℕ → Type 0
Has b key kind = is_among (keys_of kind) key ≡ b

-- a kind with one input, which has no other
abbrev HasOne : List ℕ → Type 0
HasOne kind = Has true (codes "input") kind × Has false (codes "left") kind × Has false (codes "right") kind × Has false (codes "inputs") kind

has_one : (kind word : List ℕ) → kind ≡ word → HasOne word → HasOne kind
has_one kind word is has = subst HasOne (sym is) has

selects_one : HasOne (codes "select")
unfolding keys_of
selects_one = (refl, refl, refl, refl)

projects_one : HasOne (codes "project")
unfolding keys_of
projects_one = (refl, refl, refl, refl)

maps_one : HasOne (codes "map")
unfolding keys_of
maps_one = (refl, refl, refl, refl)

groups_one : HasOne (codes "aggregate")
unfolding keys_of
groups_one = (refl, refl, refl, refl)

sorts_one : HasOne (codes "sort")
unfolding keys_of
sorts_one = (refl, refl, refl, refl)

distincts_one : HasOne (codes "distinct")
unfolding keys_of
distincts_one = (refl, refl, refl, refl)

-- a kind with two, left and right
abbrev HasTwo : List ℕ → Type 0
HasTwo kind = Has false (codes "input") kind × Has true (codes "left") kind × Has true (codes "right") kind × Has false (codes "inputs") kind

has_two : (kind word : List ℕ) → kind ≡ word → HasTwo word → HasTwo kind
has_two kind word is has = subst HasTwo (sym is) has

joins_two : HasTwo (codes "join")
unfolding keys_of
joins_two = (refl, refl, refl, refl)

looks_up_two : HasTwo (codes "lookup")
unfolding keys_of
looks_up_two = (refl, refl, refl, refl)

-- a kind with a list of inputs alone
abbrev HasMany : List ℕ → Type 0
HasMany kind = Has false (codes "input") kind × Has false (codes "left") kind × Has false (codes "right") kind

has_many : (kind word : List ℕ) → kind ≡ word → HasMany word → HasMany kind
has_many kind word is has = subst HasMany (sym is) has

unites_many : HasMany (codes "union")
unfolding keys_of
unites_many = (refl, refl, refl)

module _ (n : RawNode) (keeps : KeepsNode n) where
  -- so such a node names its input alone
  names_one : HasOne n.kind → length (input_names n) ≡ 1
  names_one has =
      let left : n.left ≡ None = is_absent n.left (keeps.left.there ∙ has.1) in
      let right : n.right ≡ None = is_absent n.right (keeps.right.there ∙ has.2) in
      let inputs : n.inputs ≡ None = is_absent n.inputs (keeps.inputs.there ∙ has.3) in
      rw (left, right, inputs, append-nil) (one_of n.input (keeps.input.there ∙ has.0))

  names_two : HasTwo n.kind → length (input_names n) ≡ 2
  names_two has =
      let input : n.input ≡ None = is_absent n.input (keeps.input.there ∙ has.0) in
      let inputs : n.inputs ≡ None = is_absent n.inputs (keeps.inputs.there ∙ has.3) in
      let left = one_of n.left (keeps.left.there ∙ has.1) in
      let right = one_of n.right (keeps.right.there ∙ has.2) in
      rw (input, inputs, append-nil, length-append, left, right) refl

  names_many : HasMany n.kind → (names : List (List ℕ)) → n.inputs ≡ Some names → length (input_names n) ≡ length names
  names_many has names at =
      let input : n.input ≡ None = is_absent n.input (keeps.input.there ∙ has.0) in
      let left : n.left ≡ None = is_absent n.left (keeps.left.there ∙ has.1) in
      let right : n.right ≡ None = is_absent n.right (keeps.right.there ∙ has.2) in
      rw (input, left, right, at) refl

  -- what a node says needs as many inputs as it names
  names_needed : (text : NodeText) → Said n text → length (input_names n) ≡ inputs_needed text
  names_needed text (by_test test kind at is) = rw (← is) (names_one (has_one n.kind (codes "select") kind selects_one))
  names_needed text (by_columns texts kind at is) = rw (← is) (names_one (has_one n.kind (codes "project") kind projects_one))
  names_needed text (by_set texts kind at is) = rw (← is) (names_one (has_one n.kind (codes "map") kind maps_one))
  names_needed text (by_join texts kind at is) = rw (← is) (names_two (has_two n.kind (codes "join") kind joins_two))
  names_needed text (by_lookup texts kind at is) = rw (← is) (names_two (has_two n.kind (codes "lookup") kind looks_up_two))
  names_needed text (by_aggregate by makes word kind at is) = rw (← is) (names_one (has_one n.kind (codes "aggregate") kind groups_one))
  names_needed text (by_sort names kind at is) = rw (← is) (names_one (has_one n.kind (codes "sort") kind sorts_one))
  names_needed text (by_distinct kind is) = rw (← is) (names_one (has_one n.kind (codes "distinct") kind distincts_one))
  names_needed text (by_union names kind at is) = rw (← is) (names_many (has_many n.kind (codes "union") kind unites_many) names at)

pub needs_source : (flow : RawFlow) (place : ℕ) → place < length flow.sources → get_or (needs_of flow) place [] ≡ []
needs_source flow place h =
    let nothing : List (List (List ℕ)) = map (λ s. []) flow.sources in
    let within : place < length nothing = rw length-map h in
    get_or_append_left nothing (map input_names flow.nodes) [] place within ∙ nothing_at flow.sources place

pub needs_behind : (flow : RawFlow) (place k : ℕ) → place ≡ length flow.sources + k → get_or (needs_of flow) place [] ≡ get_or (map input_names flow.nodes) k []
needs_behind flow place k is =
    let nothing : List (List (List ℕ)) = map (λ s. []) flow.sources in
    let same : place ≡ length nothing + k = rw length-map is in
    rw same (get_or-append-add nothing (map input_names flow.nodes) k [])

pub needs_past : (flow : RawFlow) (place k : ℕ) → place ≡ length flow.sources + k → length flow.nodes ≤ k → get_or (needs_of flow) place [] ≡ []
needs_past flow place k is h =
    let past : length (map input_names flow.nodes) ≤ k = rw length-map h in
    needs_behind flow place k is ∙ get_or_past (map input_names flow.nodes) k [] past

pub needs_node : (flow : RawFlow) (place k : ℕ) (n : RawNode) → place ≡ length flow.sources + k → k < length flow.nodes → n ≡ get_or flow.nodes k n
    → get_or (needs_of flow) place [] ≡ input_names n
needs_node flow place k n is h item = needs_behind flow place k is ∙ get_or-map input_names flow.nodes k n [] h ∙ ap input_names (sym item)

pub length-needs : (flow : RawFlow) → length (needs_of flow) ≡ length (names_of flow)
length-needs flow = simp (length-append, length-map)

pub length-names : (flow : RawFlow) → length (names_of flow) ≡ length flow.sources + length flow.nodes
length-names flow = simp (length-append, length-map)

pub count_links : (flow : RawFlow) → length (links_of flow) ≡ length flow.sources + length flow.nodes
count_links flow =
    let all : length (links_of flow) ≡ length (needs_of flow) = rw length-map refl in
    all ∙ (length-needs flow ∙ length-names flow)

past_end : {X : Type 0} (xs : List X) (k : ℕ) → slice_get xs k ≡ None → length xs ≤ k
past_end [] k none = omega arith
past_end (x ∷ xs) zero none = absurd (cc)
past_end (x ∷ xs) (suc k) none = let rest = past_end xs k none in omega arith

module _ (raw : RawFlow) (keeps : KeepsRules raw) (built : is_built raw ≡ true) (place : ℕ) (text : NodeText) where
  at_source : (s : RawSource) → slice_get raw.sources place ≡ Some s → text_at raw place ≡ Some text → length (get_or (needs_of raw) place []) ≡ inputs_needed text
  at_source s at says =
      let same : source s ≡ text = same_Some _ _ (rw at at says) in
      rw (← same, needs_source raw place (slice_get_within raw.sources place s at)) refl

  at_node : (n : RawNode) → slice_get raw.sources place ≡ None → slice_get raw.nodes (place - length raw.sources) ≡ Some n → text_of n ≡ Some text
      → length (get_or (needs_of raw) place []) ≡ inputs_needed text
  at_node n past at says =
      let k : ℕ = place - length raw.sources in
      let h = slice_get_within raw.nodes k n at in
      let item : n ≡ get_or raw.nodes k n = same_Some _ _ (sym at ∙ slice_get-get_or raw.nodes k n h) in
      let kept : KeepsNode n = rw item (keeps.nodes k n h) in
      let beyond = past_end raw.sources place past in
      ap length (needs_node raw place k n (omega arith) h item) ∙ names_needed n kept text (said n text says)

  behind_sources : (o : Option RawNode) → slice_get raw.sources place ≡ None → slice_get raw.nodes (place - length raw.sources) ≡ o → option_and_then text_of o ≡ Some text
      → length (get_or (needs_of raw) place []) ≡ inputs_needed text
  behind_sources None past at says = absurd (cc)
  behind_sources (Some n) past at says = at_node n past at says

  pub needs_count : text_at raw place ≡ Some text → length (get_or (needs_of raw) place []) ≡ inputs_needed text
  needs_count says = by (slice_get raw.sources place) refl
    where
      by : (o : Option RawSource) → slice_get raw.sources place ≡ o → length (get_or (needs_of raw) place []) ≡ inputs_needed text
      by (Some s) at = at_source s at says
      by None past = behind_sources (slice_get raw.nodes (place - length raw.sources)) past refl (rw past at says)

-- as many as its tree has
pub count_below : (raw : RawFlow) (links : List (List ℕ)) (depth place n : ℕ) → KeepsRules raw → is_built raw ≡ true → inputs_exist (names_of raw) (needs_of raw) ≡ Ok tt
    → links ≡ links_of raw → place < length links → IsWhole links depth place → n ≡ length (inputs_below links depth place) → IfSome (text_at raw place) (λ text. n ≡ inputs_needed text)
count_below raw links depth place n keeps built there are h whole count = by (text_at raw place) refl
  where
    by : (o : Option NodeText) → text_at raw place ≡ o → IfSome (text_at raw place) (λ text. n ≡ inputs_needed text)
    by None none = rw none tt
    by (Some text) says =
        let total : length links ≡ length (needs_of raw) = ap length are ∙ rw length-map refl in
        let within : place < length (needs_of raw) = omega arith in
        let here = ap length (whole_inputs links depth place whole) in
        let linked = ap (λ ls. length (get_or ls place [])) are in
        let named = inputs_counted (names_of raw) (needs_of raw) place within there in
        let needed = needs_count raw keeps built place text says in
        rw says (count ∙ (here ∙ (linked ∙ (named ∙ needed))))
