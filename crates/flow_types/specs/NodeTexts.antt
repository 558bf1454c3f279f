-- What a node of a raw flow says, by its kind.
use Rattle.std.specs.Prelude.{ℕ, ◌-◌, List, length, slice_get, codes, bytes_eq, Bool, false, if◌then◌else◌, Option, Some, None, option_map, option_and_then}
use Rattle.std.specs.Option.{option_or}
use Rattle.workflow_file.specs.declared.raw.RawSource.{RawSource}
use Rattle.workflow_file.specs.declared.raw.RawNode.{RawNode}
use Rattle.workflow_file.specs.declared.raw.RawFlow.{RawFlow}
use Rattle.flow_types.specs.declared.node.GroupOrder.{GroupOrder}
use Rattle.flow_types.specs.declared.node.GroupOrder.TheVariants as order
use Rattle.flow_types.specs.declared.node_text.NodeText.{NodeText as LentText}
use Rattle.flow_types.specs.declared.node_text.NodeText.TheVariants as lent

-- a source, a selection by the text of its test, a projection by the texts of its columns, a map by its texts, a join
-- or a lookup by the texts of its pairs, an aggregate by the names of its columns, the texts of what it makes and the
-- order of its groups, a sort by the names of its columns, a distinct, or a union by the names of its inputs
pub data NodeText : Type 0 where
  source : RawSource → NodeText
  select : List ℕ → NodeText
  project : List (List ℕ) → NodeText
  mapped : List (List ℕ) → NodeText
  joined : List (List ℕ) → NodeText
  looked_up : List (List ℕ) → NodeText
  aggregated : List (List ℕ) → List (List ℕ) → GroupOrder → NodeText
  sorted : List (List ℕ) → NodeText
  distinct : NodeText
  united : List (List ℕ) → NodeText

-- the order of a union is `append`: one input comes after the other
abbrev pub is_append : Option (List ℕ) → Bool
is_append None = false
is_append (Some word) = bytes_eq word (codes "append")

-- what a union says, which is built where one input comes after the other
abbrev pub union_text : RawNode → Option NodeText
union_text n = if is_append n.order then option_map united n.inputs else None

-- the order in which groups come: as they appear, or with `key` ascending
abbrev pub order_of : List ℕ → GroupOrder
order_of word = if bytes_eq word (codes "key") then order.Key else order.First

-- what an aggregate says
abbrev pub aggregate_text : RawNode → Option NodeText
aggregate_text n =
    option_and_then (λ by. option_and_then (λ makes. option_map (λ word. aggregated by makes (order_of word)) n.order)
    n.make) n.by

-- what a node that is no source says, where its kind is built and it has what that needs
abbrev pub text_of : RawNode → Option NodeText
text_of n =
    if bytes_eq n.kind (codes "select") then option_map select n.test
    else if bytes_eq n.kind (codes "project") then option_map project n.columns
    else if bytes_eq n.kind (codes "map") then option_map mapped n.set
    else if bytes_eq n.kind (codes "join") then option_map joined n.on
    else if bytes_eq n.kind (codes "lookup") then option_map looked_up n.on
    else if bytes_eq n.kind (codes "aggregate") then aggregate_text n
    else if bytes_eq n.kind (codes "sort") then option_map sorted n.by
    else if bytes_eq n.kind (codes "distinct") then Some distinct
    else if bytes_eq n.kind (codes "union") then union_text n
    else None

-- what the node at a place says, sources first
abbrev pub text_at : RawFlow → ℕ → Option NodeText
text_at flow place =
    option_or (option_map source (slice_get flow.sources place))
    (option_and_then text_of (slice_get flow.nodes (place - length flow.sources)))

-- how many inputs a node needs that says this
abbrev pub inputs_needed : NodeText → ℕ
inputs_needed (source s) = 0
inputs_needed (select test) = 1
inputs_needed (project texts) = 1
inputs_needed (mapped texts) = 1
inputs_needed (joined texts) = 2
inputs_needed (looked_up texts) = 2
inputs_needed (aggregated by makes order) = 1
inputs_needed (sorted names) = 1
inputs_needed distinct = 1
inputs_needed (united names) = length names

-- what is lent of a raw flow, as it is
abbrev pub text_seen : LentText → NodeText
text_seen (lent.Source s) = source s.now
text_seen (lent.Select test) = select test.now
text_seen (lent.Project texts) = project texts.now
text_seen (lent.Map texts) = mapped texts.now
text_seen (lent.Join texts) = joined texts.now
text_seen (lent.Lookup texts) = looked_up texts.now
text_seen (lent.Aggregate by makes order) = aggregated by.now makes.now order
text_seen (lent.Sort names) = sorted names.now
text_seen lent.Distinct = distinct
text_seen (lent.Union names) = united names.now
