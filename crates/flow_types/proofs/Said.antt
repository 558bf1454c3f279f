-- What a node says, by its kind.
use Rattle.std.proofs.Common.{◌≡◌, ◌≢◌, ◌∙◌, ℕ, List, codes, bytes_eq, if◌then◌else◌, true, false, refl, inl, inr, Option, Some, None, option_map, option_and_then}
use Rattle.std.proofs.lemmas.Bool.{cases_Bool}
use Rattle.std.proofs.lemmas.Option.{same_Some}
use Rattle.std.proofs.lemmas.Slice.Eq.{bytes_eq-Decides}
use Rattle.workflow_file.specs.declared.raw.RawNode.{RawNode}
use Rattle.flow_types.specs.NodeTexts.{NodeText, select, project, mapped, joined, looked_up, aggregated, sorted, distinct, united, order_of, aggregate_text, is_append, union_text, text_of}

-- a node of a kind says the text or the texts of the kind's key
pub data Said (n : RawNode) (text : NodeText) : Type 0 where
  by_test : (test : List ℕ) → n.kind ≡ codes "select" → n.test ≡ Some test → select test ≡ text → Said n text
  by_columns : (texts : List (List ℕ)) → n.kind ≡ codes "project" → n.columns ≡ Some texts → project texts ≡ text → Said n text
  by_set : (texts : List (List ℕ)) → n.kind ≡ codes "map" → n.set ≡ Some texts → mapped texts ≡ text → Said n text
  by_join : (texts : List (List ℕ)) → n.kind ≡ codes "join" → n.on ≡ Some texts → joined texts ≡ text → Said n text
  by_lookup : (texts : List (List ℕ)) → n.kind ≡ codes "lookup" → n.on ≡ Some texts → looked_up texts ≡ text → Said n text
  by_aggregate : (by makes : List (List ℕ)) (word : List ℕ) → n.kind ≡ codes "aggregate" → n.make ≡ Some makes → aggregated by makes (order_of word) ≡ text → Said n text
  by_sort : (names : List (List ℕ)) → n.kind ≡ codes "sort" → n.by ≡ Some names → sorted names ≡ text → Said n text
  by_distinct : n.kind ≡ codes "distinct" → distinct ≡ text → Said n text
  by_union : (names : List (List ℕ)) → n.kind ≡ codes "union" → n.inputs ≡ Some names → united names ≡ text → Said n text

made_of : {X : Type 0} (make : X → NodeText) (o : Option X) (text : NodeText) → option_map make o ≡ Some text → (x : X) × (o ≡ Some x) × (make x ≡ text)
made_of make None text is = absurd (cc)
made_of make (Some x) text is = (x, refl, cc)

aggregate_of : (n : RawNode) (text : NodeText) → aggregate_text n ≡ Some text
    → (by : List (List ℕ)) × ((makes : List (List ℕ)) × ((word : List ℕ) × ((n.make ≡ Some makes) × (aggregated by makes (order_of word) ≡ text))))
aggregate_of n text is = by n.by n.make n.order refl is
  where
    by : (bys : Option (List (List ℕ))) (makes : Option (List (List ℕ))) (word : Option (List ℕ)) → n.make ≡ makes
        → option_and_then (λ b. option_and_then (λ m. option_map (λ w. aggregated b m (order_of w)) word) makes) bys ≡ Some text
        → (b : List (List ℕ)) × ((m : List (List ℕ)) × ((w : List ℕ) × ((n.make ≡ Some m) × (aggregated b m (order_of w) ≡ text))))
    by None makes word at says = absurd (cc)
    by (Some b) None word at says = absurd (cc)
    by (Some b) (Some m) None at says = absurd (cc)
    by (Some b) (Some m) (Some w) at says = (b, (m, (w, (at, same_Some _ _ says))))

united_of : (n : RawNode) (text : NodeText) → union_text n ≡ Some text → (names : List (List ℕ)) × (n.inputs ≡ Some names) × (united names ≡ text)
united_of n text is =
    elim (cases_Bool (is_append n.order)) [
      | inl append ↦ made_of united n.inputs text (rw append at is)
      | inr other ↦ let none : None ≡ Some text = rw other at is in absurd (cc)
    ]

module _ (n : RawNode) (text : NodeText) where
  is_kind : (word : List ℕ) → bytes_eq n.kind word ≡ true → n.kind ≡ word
  is_kind word same = (bytes_eq-Decides n.kind word).0 same

  last_said : (if bytes_eq n.kind (codes "union") then union_text n else None) ≡ Some text → Said n text
  last_said is =
      elim (cases_Bool (bytes_eq n.kind (codes "union"))) [
        | inl same ↦
            let made = united_of n text (rw same at is) in
            by_union made.0 (is_kind (codes "union") same) made.1 made.2
        | inr no_union ↦ let none : None ≡ Some text = rw no_union at is in absurd (cc)
      ]

  said_later : (if bytes_eq n.kind (codes "aggregate") then aggregate_text n else if bytes_eq n.kind (codes "sort") then option_map sorted n.by else if bytes_eq n.kind (codes "distinct") then Some distinct
      else if bytes_eq n.kind (codes "union") then union_text n else None) ≡ Some text
      → Said n text
  said_later is =
      elim (cases_Bool (bytes_eq n.kind (codes "aggregate"))) [
        | inl same ↦
            let made = aggregate_of n text (rw same at is) in
            by_aggregate made.0 made.1.0 made.1.1.0 (is_kind (codes "aggregate") same) made.1.1.1.0 made.1.1.1.1
        | inr no_aggregate ↦ elim (cases_Bool (bytes_eq n.kind (codes "sort"))) [
          | inl same ↦
              let made = made_of sorted n.by text (rw (no_aggregate, same) at is) in
              by_sort made.0 (is_kind (codes "sort") same) made.1 made.2
          | inr no_sort ↦ elim (cases_Bool (bytes_eq n.kind (codes "distinct"))) [
            | inl same ↦ by_distinct (is_kind (codes "distinct") same) (same_Some distinct text (rw (no_aggregate, no_sort, same) at is))
            | inr no_distinct ↦ last_said (rw (no_aggregate, no_sort, no_distinct) at is)
          ]
        ]
      ]

  pub said : text_of n ≡ Some text → Said n text
  said is =
      elim (cases_Bool (bytes_eq n.kind (codes "select"))) [
        | inl same ↦
            let made = made_of select n.test text (rw same at is) in
            by_test made.0 (is_kind (codes "select") same) made.1 made.2
        | inr no_select ↦ elim (cases_Bool (bytes_eq n.kind (codes "project"))) [
          | inl same ↦
              let made = made_of project n.columns text (rw (no_select, same) at is) in
              by_columns made.0 (is_kind (codes "project") same) made.1 made.2
          | inr no_project ↦ elim (cases_Bool (bytes_eq n.kind (codes "map"))) [
            | inl same ↦
                let made = made_of mapped n.set text (rw (no_select, no_project, same) at is) in
                by_set made.0 (is_kind (codes "map") same) made.1 made.2
            | inr no_map ↦ elim (cases_Bool (bytes_eq n.kind (codes "join"))) [
              | inl same ↦
                  let made = made_of joined n.on text (rw (no_select, no_project, no_map, same) at is) in
                  by_join made.0 (is_kind (codes "join") same) made.1 made.2
              | inr no_join ↦ elim (cases_Bool (bytes_eq n.kind (codes "lookup"))) [
                | inl same ↦
                    let made = made_of looked_up n.on text (rw (no_select, no_project, no_map, no_join, same) at is) in
                    by_lookup made.0 (is_kind (codes "lookup") same) made.1 made.2
                | inr no_lookup ↦ said_later (rw (no_select, no_project, no_map, no_join, no_lookup) at is)
              ]
            ]
          ]
        ]
      ]

no_word : (kind word : List ℕ) → kind ≢ word → bytes_eq kind word ≡ false
no_word kind word other =
    elim (cases_Bool (bytes_eq kind word)) [
      | inl same ↦ absurd (other ((bytes_eq-Decides kind word).0 same))
      | inr differs ↦ differs
    ]

module _ (n : RawNode) (kind : List ℕ) (is : kind ≡ n.kind) where
  is_no : (word : List ℕ) → kind ≢ word → bytes_eq n.kind word ≡ false
  is_no word other = no_word n.kind word (λ same. other (is ∙ same))

  -- a node of no kind that is built says nothing
  pub nothing_said : kind ≢ codes "select" → kind ≢ codes "project" → kind ≢ codes "map" → kind ≢ codes "join" → kind ≢ codes "lookup"
      → kind ≢ codes "aggregate" → kind ≢ codes "sort" → kind ≢ codes "distinct" → kind ≢ codes "union" → text_of n ≡ None
  nothing_said a b c d e f g h i =
      rw (is_no _ a, is_no _ b, is_no _ c, is_no _ d, is_no _ e, is_no _ f, is_no _ g, is_no _ h, is_no _ i) refl
